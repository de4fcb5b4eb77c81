use Rattle.std.proofs.Common.{◌≡◌, map}
use Rattle.feed_model.specs.Content.{names}
use Rattle.feed_keep.specs.Shown.{shown}
use Rattle.feed_store_read.specs.Texts.{reasons_text}
use Rattle.feed_store_read.proofs.Streams.{IsUnderWay}
use Rattle.feed_store_read.specs.Reasons.{ShowReasons}
use Rattle.feed_store_read.proofs.reasons.select_reasons.Given as goal

abbrev pub invariant-rows : goal.invariant-rows
invariant-rows g l =
    let start = shown l.fn.records.items in record {
      way : IsUnderWay g.S.Store reasons_text (λ rows. ShowReasons rows l.ids.items start (shown l.records.items)) l.fn.conn l.initial.rows l.rows;
      names : names (shown l.records.items) ≡ names start;
      parts : map (λ r. r.parts) (shown l.records.items) ≡ map (λ r. r.parts) start;
    }
