use Rattle.std.proofs.Common.{◌≡◌, ◌<◌, ◌+◌, ℕ, List, length, get_or, remove, ap, arith, sum_by}
use Rattle.std.proofs.lemmas.List.Sums.{sum_by-remove}
use Rattle.feed_kbart.specs.Runs.{run_weight}
use Rattle.feed_kbart.specs.declared.run.Run.{Run}
use Rattle.feed_kbart.proofs.runs.take_two.Goals as goal

taken : (f : Run → ℕ) (old one two : List Run) (place : ℕ) (left right : Run) → place + 1 < length old → place < length one → one ≡ remove old place → two ≡ remove one place
    → left ≡ get_or old place left → right ≡ get_or one place right → sum_by f two + (f left + f right) ≡ sum_by f old
taken f old one two place left right within more first second l r =
    omega (arith, ap (sum_by f) first, ap (sum_by f) second, sum_by-remove f old place left (omega (arith, within)), sum_by-remove f one place right more, ap f l, ap f r)

pub returns-clause-weight : goal.returns-clause-weight
returns-clause-weight c weight =
    taken (run_weight weight) c.args.waiting.now.items c.remove-left.new.self.items c.remove-right.new.self.items c.args.place c.remove-left.result c.remove-right.result
    c.requires (omega (arith, c.requires, c.remove-left.ensures.len, c.remove-left.new.self.ok.0, c.args.waiting.now.ok.0)) c.remove-left.ensures.items c.remove-right.ensures.items
    c.remove-left.ensures.value c.remove-right.ensures.value
