-- The text of a query, and the representation of its response.
use Rattle.std.specs.Prelude.{ℕ, List}
use Rattle.node_request.specs.declared.representation.Representation.{Representation}

pub record OpenUrlTextValue : Type 0 where
  pub text : List ℕ
  pub representation : Representation
