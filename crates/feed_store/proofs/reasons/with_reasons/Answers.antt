use Rattle.std.proofs.Common.{◌≡◌, ◌++◌, ◌∷◌, List, [], subst, sym, ◌∙◌}
use Rattle.std.proofs.lemmas.List.{map-append}
use Rattle.feed_model.specs.Content.{Content}
use Rattle.feed_keep.specs.declared.record.Record.{Record}
use Rattle.feed_keep.specs.Shown.{shown, shown_record}
use Rattle.feed_store.specs.Upgraded.{AddReasons}
use Rattle.feed_store.proofs.Reasoned.{all_yielded, none_left, one_yielded, reasoned_more}
use Rattle.feed_store.proofs.reasons.with_reasons.Goals as goal

pub loop-record-init : goal.loop-record-init
loop-record-init c = record { explained = rw c.new-explained.ensures.items tt; left = c.into_iter-record-iterator.ensures.into_iter_gives.0 }

pub loop-record-preserved : goal.loop-record-preserved
loop-record-preserved c =
    let was = c.loop-record.invariant in
    let item = c.in-Some.record in
    let next = c.with_reason.result in
    let step : c.loop-record.record-iterator.rest.items ≡ item ∷ c.next.new.self.rest.items = (rw c.in-Some.is at c.next.ensures.steps).0 in
    let more = reasoned_more (shown c.loop-record.yielded) (shown c.loop-record.explained.items) (shown_record item) (shown_record next) was.explained
    (c.in_ok-reason.reason, c.in_ok-reason.ensures, c.with_reason.ensures) in
    record {
      explained = rw c.in_ok-push.ensures.items
          (subst (λ (l : Content). AddReasons l (shown (c.loop-record.explained.items ++ next ∷ []))) (sym (map-append shown_record c.loop-record.yielded (item ∷ [])))
          (subst (λ (l : Content). AddReasons (shown c.loop-record.yielded ++ shown_record item ∷ []) l) (sym (map-append shown_record c.loop-record.explained.items (next ∷ []))) more));
      left = one_yielded c.loop-record.yielded item c.next.new.self.rest.items _ step ∙ was.left;
    }

pub returns : goal.returns
returns c =
    let done = rw c.in-None.is at c.next.ensures.steps in
    let rest = c.loop-record.record-iterator.rest in
    let none : rest.items ≡ [] = none_left rest.items (sym rest.ok.0 ∙ done.0) in
    subst (λ (l : List Record). AddReasons (shown l) (shown c.loop-record.explained.items)) (all_yielded c.loop-record.yielded rest.items _ none c.loop-record.invariant.left)
    c.loop-record.invariant.explained
