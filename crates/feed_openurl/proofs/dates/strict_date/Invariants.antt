use Rattle.std.proofs.Common.{◌≡◌, drop}
use Rattle.std.specs.List.{filter_map}
use Rattle.feed_answer.specs.Pairs.{first}
use Rattle.feed_openurl.specs.Tiers.{strict_date_of}
use Rattle.feed_openurl.proofs.dates.strict_date.Given as goal

-- no value so far has a valid date
abbrev pub invariant-loop-value : goal.invariant-loop-value
invariant-loop-value l = first (filter_map (strict_date_of l.tier) (drop l.value-index l.values)) ≡ first (filter_map (strict_date_of l.tier) l.values)
