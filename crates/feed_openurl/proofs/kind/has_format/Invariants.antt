use Rattle.std.proofs.Common.{◌≡◌, drop}
use Rattle.std.specs.List.{list_any}
use Rattle.feed_openurl.specs.Kinds.{names_format}
use Rattle.feed_openurl.proofs.kind.has_format.Given as goal

-- none so far names the format
abbrev pub invariant-loop-value : goal.invariant-loop-value
invariant-loop-value l = list_any (names_format l.format) (drop l.value-index l.values) ≡ list_any (names_format l.format) l.values
