-- The validation of a complete file in parts.
use Rattle.std.specs.Prelude.{◌≡◌, ℕ, List, Some, None, Result, Ok, Err}
use Rattle.feed_kbart.specs.HoldingsValue.{HoldingsValue}
use Rattle.feed_kbart.specs.Files.{holdings_of}
use Rattle.feed_kbart.specs.declared.fault.KbartFault.{KbartFault}
use Rattle.feed_kbart.specs.declared.fault.KbartFault.TheVariants.{Bad}
use Rattle.feed_model.specs.File.{fault_of}
use Rattle.feed_model.specs.Content.{Part, IsText}

-- the result of validating a complete file in parts, unless memory runs out
abbrev pub IsJudged : ℕ → List Part → Result HoldingsValue KbartFault → Type 0
IsJudged size parts (Ok holdings) = (text : List ℕ) × IsText size parts text × (fault_of text ≡ None) × (holdings ≡ holdings_of text)
IsJudged size parts (Err (Bad why)) = (text : List ℕ) × IsText size parts text × (fault_of text ≡ Some why)
IsJudged size parts (Err fault) = Unit {0}
