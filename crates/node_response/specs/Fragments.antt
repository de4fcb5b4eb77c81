-- The fragments of a response.
use Rattle.std.specs.Prelude.{ℕ, List}
use Rattle.std.specs.List.{flat_map}
use Rattle.std.specs.Fmt.{decimal}
use Rattle.node_response.specs.declared.fragment.Fragment.{Fragment}
use Rattle.node_response.specs.declared.fragment.Fragment.TheVariants.{Plain, Escaped, Quoted, Number}
use Rattle.node_response.specs.Escapes.{escaped}
use Rattle.node_response.specs.JsonStrings.{json_string}

-- the concatenation of texts
abbrev pub joined : List (List ℕ) → List ℕ
joined texts = flat_map (λ text. text) texts

-- the text of a fragment
abbrev pub fragment_text : Fragment → List ℕ
fragment_text (Plain text) = text.now
fragment_text (Escaped text) = escaped text.now
fragment_text (Quoted text) = json_string text.now
fragment_text (Number n) = decimal n

-- the text of consecutive fragments
abbrev pub fragments_text : List Fragment → List ℕ
fragments_text pieces = flat_map fragment_text pieces
