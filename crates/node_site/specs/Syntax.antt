-- Texts that are not TOML.
use Rattle.std.specs.Prelude.{◌≡◌, ℕ, ◌≤◌, List, length, take, None}
use Rattle.toml.specs.Parse.{parse_document}
use Rattle.node_site.specs.declared.position.Position.{Position}
use Rattle.node_site.specs.declared.site_fault.SiteFault.{SiteFault}
use Rattle.node_site.specs.declared.site_fault.SiteFault.TheVariants.{Memory, TooLong, NotUtf8, Syntax, Key}
use Rattle.node_site.specs.Positions.{position_of}

-- the text is not TOML, and the position is in it
pub record IsSyntaxFault (text : List ℕ) (position : Position) : Type 0 where
  pub unparsed : parse_document text ≡ None
  pub place : ℕ
  pub within : place ≤ length text
  pub at : position ≡ position_of (take place text)

-- why a text is not parsed
abbrev pub IsTextFault : List ℕ → SiteFault → Type 0
IsTextFault text (Syntax position) = IsSyntaxFault text position
IsTextFault text Memory = Unit {0}
IsTextFault text TooLong = ⊥
IsTextFault text NotUtf8 = ⊥
IsTextFault text (Key fault) = ⊥
