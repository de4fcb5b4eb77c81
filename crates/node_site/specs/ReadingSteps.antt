-- The result of a step of the reading of a holdings file.
use Rattle.std.specs.Prelude.{◌≡◌, ◌<◌}
use Rattle.node_site.specs.declared.holdings_reading.ReadingStep.{ReadingStep}
use Rattle.node_site.specs.declared.holdings_reading.ReadingStep.TheVariants.{More, Done}
use Rattle.node_site.specs.ReadingValue.{ReadingValue}
use Rattle.node_site.specs.HoldingsFaults.{IsHoldingsFile}

-- to fewer steps over the same text, or to the file that it is
abbrev pub IsStep : ReadingValue → ReadingStep → Type 0
IsStep reading (More next) = (next.text ≡ reading.text) × (next.left < reading.left)
IsStep reading (Done file) = (file ≡ reading.text) × IsHoldingsFile reading.text
