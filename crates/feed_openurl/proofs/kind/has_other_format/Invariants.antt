use Rattle.std.proofs.Common.{◌≡◌, drop}
use Rattle.std.specs.List.{list_any}
use Rattle.feed_openurl.specs.Kinds.{names_other_format}
use Rattle.feed_openurl.proofs.kind.has_other_format.Given as goal

-- none so far is such a value
abbrev pub invariant-loop-value : goal.invariant-loop-value
invariant-loop-value l = list_any names_other_format (drop l.value-index l.values) ≡ list_any names_other_format l.values
