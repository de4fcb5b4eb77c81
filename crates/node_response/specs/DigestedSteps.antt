-- The outcome of a step of the reading of a holdings file and its digest.
use Rattle.std.specs.Prelude.{◌≡◌, ◌<◌}
use Rattle.node_site.specs.ReadingValue.{ReadingValue}
use Rattle.node_site.specs.HoldingsFaults.{IsHoldingsFile}
use Rattle.node_response.specs.declared.digested_holdings.DigestedStep.{DigestedStep}
use Rattle.node_response.specs.declared.digested_holdings.DigestedStep.TheVariants.{More, Done}

-- to fewer steps over the same text, or to the file that it is
abbrev pub IsDigestedStep : ReadingValue → DigestedStep → Type 0
IsDigestedStep reading (More next) = (next.text ≡ reading.text) × (next.left < reading.left)
IsDigestedStep reading (Done holdings) = (holdings ≡ reading.text) × IsHoldingsFile reading.text
