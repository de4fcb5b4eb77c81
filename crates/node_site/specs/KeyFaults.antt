-- A fault of a site file's key, as it is reported.
use Rattle.std.specs.Prelude.{ℕ, List}
use Rattle.node_site.specs.declared.fault.ValueFault.{ValueFault}

-- the path of the key, and the reason
pub record KeyFaultValue : Type 0 where
  pub path : List ℕ
  pub reason : ValueFault
