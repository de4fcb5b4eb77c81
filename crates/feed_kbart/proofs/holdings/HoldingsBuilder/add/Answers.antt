use Rattle.std.proofs.Common.{◌++◌, ◌∙◌, [], ◌∷◌, ap, sym}
use Rattle.std.proofs.lemmas.List.{append-nil}
use Rattle.csv.specs.Records.{fields_of}
use Rattle.feed_kbart.proofs.Singles.{holdings_from-aside, holdings_from-row}
use Rattle.feed_kbart.proofs.holdings.HoldingsBuilder.add.Goals as goal

pub returns-in_ok-add-in-Ok : goal.returns-in_ok-add-in-Ok
returns-in_ok-add-in-Ok g c held kept =
    rw (holdings_from-row c.args.columns.now c.args.number (fields_of c.args.fields.now) c.in-Ok.ensures.0)
    (c.in_ok-add-in-Ok.ensures held.rows kept.0, kept.1 ∙ sym (append-nil held.aside))

pub returns-in_ok-push-in-Err : goal.returns-in_ok-push-in-Err
returns-in_ok-push-in-Err g c held kept =
    rw (holdings_from-aside c.args.columns.now c.args.number (fields_of c.args.fields.now) c.in-Err.reason c.in-Err.ensures)
    (rw (append-nil held.rows) kept.0, c.in_ok-push-in-Err.ensures.items ∙ ap (λ l. l ++ record { number = c.args.number; reason = c.in-Err.reason } ∷ []) kept.1)
