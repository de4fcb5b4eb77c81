use Rattle.std.proofs.Common.{inl, inr, arith, rules}
use Rattle.std.proofs.lemmas.Fn.{always_returns_same}
use Rattle.feed_store_read.proofs.Ascending.{either_side, found_by, greater_differs, less_differs, same_texts, searchable}
use Rattle.feed_store_read.proofs.records.find_record.Goals as goal

pub returns-in-Ok-clause-found : goal.returns-in-Ok-clause-found
returns-in-Ok-clause-found c d =
    let at = c.in-Ok.ensures.position (found_by c.args.text.now) (always_returns_same _ _ _ (λ a r q k. search rules)) in
    same_texts _ _ (at d)

pub returns-in-Err-clause-none : goal.returns-in-Err-clause-none
returns-in-Err-clause-none c k d lt =
    let sides = c.in-Err.ensures.position (found_by c.args.text.now) (always_returns_same _ _ _ (λ a r q k. search rules)) (searchable c.args.records.now c.args.text.now c.requires.up) in
    elim (either_side k c.in-Err.field-0) [
      | inl low ↦ less_differs _ _ (sides.0 k d (omega arith) low)
      | inr high ↦ greater_differs _ _ (sides.1 k d high lt)
    ]
