-- The fragments of a line.
use Rattle.std.specs.Prelude.{ℕ, List, [], ◌∷◌, codes}
use Rattle.std.specs.List.{flat_map}
use Rattle.std.specs.Fmt.{decimal}
use Rattle.node_monitoring.specs.declared.log_fragment.LogFragment.{LogFragment}
use Rattle.node_monitoring.specs.declared.log_fragment.LogFragment.TheVariants.{Plain, Escaped, OrDash, Site, Number, Time}
use Rattle.node_monitoring.specs.LogEscapes.{escaped}
use Rattle.node_monitoring.specs.LogTimes.{time_text}

-- an escaped text, or a dash if it is empty
abbrev pub or_dash : List ℕ → List ℕ
or_dash [] = codes "-"
or_dash (b ∷ text) = escaped (b ∷ text)

-- the text of a fragment
abbrev pub fragment_text : LogFragment → List ℕ
fragment_text (Plain text) = text.now
fragment_text (Escaped text) = escaped text.now
fragment_text (OrDash text) = or_dash text.now
fragment_text (Site name) = or_dash name.now
fragment_text (Number n) = decimal n
fragment_text (Time seconds) = time_text seconds

-- the text of consecutive fragments
abbrev pub fragments_text : List LogFragment → List ℕ
fragments_text pieces = flat_map fragment_text pieces
