-- The bodies of error responses without a page.
use Rattle.std.specs.Prelude.{ℕ, List, [], ◌∷◌, codes}
use Rattle.node_request.specs.declared.representation.Representation.{Representation}
use Rattle.node_request.specs.declared.representation.Representation.TheVariants.{Text, Json, Html, Fragment, Sfx}
use Rattle.node_response.specs.JsonStrings.{json_string}
use Rattle.node_response.specs.Fragments.{joined}

-- the representation of an error response: JSON, or else text; the pages of errors are those of a library
abbrev pub fault_representation : Representation → Representation
fault_representation Json = Json
fault_representation Text = Text
fault_representation Html = Text
fault_representation Fragment = Text
fault_representation Sfx = Text

-- the body with the name of an error
unfoldable pub fault_body : Representation → List ℕ → List ℕ
fault_body Text name = joined (name ∷ codes "\n" ∷ [])
fault_body Json name = joined (codes "{\"fault\":" ∷ json_string name ∷ codes "}\n" ∷ [])
fault_body Html name = joined (name ∷ codes "\n" ∷ [])
fault_body Fragment name = joined (name ∷ codes "\n" ∷ [])
fault_body Sfx name = joined (name ∷ codes "\n" ∷ [])
