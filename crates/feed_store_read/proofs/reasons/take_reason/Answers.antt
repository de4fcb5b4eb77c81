use Rattle.std.proofs.Common.{◌≡◌, ◌≢◌, ◌∷◌, ◌++◌, [], All, List, ℕ, ◌∙◌, ap, sym, subst, rules, w64, to_z, of_z, FitsSigned, ℤ}
use Rattle.std.proofs.Math.Facts.{to_z-of_z}
use Rattle.feed_names.specs.ReleaseName.{text_of}
use Rattle.feed_keep.specs.declared.record.Record.{Record}
use Rattle.feed_store_read.proofs.GivenRows.{both_ways}
use Rattle.feed_store_read.proofs.GivenReasons.{reason_more}
use Rattle.feed_store_read.proofs.reasons.take_reason.Goals as goal

pub returns-clause-taken : goal.returns-clause-taken
returns-clause-taken c =
    let reason = c.in-Some.reason in
    let is = c.in-Some.ensures in
    let inv = c.in-Some.reason-is in
    let fits : FitsSigned w64 reason.id = search rules in
    let back : to_z w64 (of_z w64 reason.id) ≡ reason.id = to_z-of_z fits in
    let pushed : c.push.new.self.items ≡ c.args.ids.now.items ++ reason.id ∷ [] = c.in_ok-push.ensures.items ∙ ap (λ (n : ℤ). c.args.ids.now.items ++ n ∷ []) back in
    both_ways c.set_reason.result c.set_reason.ensures.given
    (λ given rows start was. reason_more rows c.args.row.now reason.id reason.text.now reason.why c.args.ids.now.items c.push.new.self.items start _ _ is pushed given was)
    (λ none row. subst (λ (t : List ℕ). All {X = Record} (λ r. text_of r.name ≢ t) c.args.records.now.items) (sym is.named) none)
