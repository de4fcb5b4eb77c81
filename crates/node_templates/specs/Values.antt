-- The values of slots.
use Rattle.std.specs.Prelude.{ℕ, Bool, if◌then◌else◌, List, [], ◌∷◌, codes, map, Option, Some, None, unwrap_or}
use Rattle.std.specs.Borrow.{Bor}
use Rattle.node_site.specs.declared.text_table.Text.{Text}
use Rattle.node_site.specs.Site as site_file
use Rattle.node_site.specs.Texts.{text_of}
use Rattle.node_templates.specs.declared.slot.Slot.{Slot}
use Rattle.node_templates.specs.declared.slot.Slot.TheVariants as slot
use Rattle.node_templates.specs.contracts.slot.SlotPartialEq.TheImpl.{ghosts}

-- values of slots
abbrev pub Values : Type 0
Values = List (Slot × List ℕ)

-- a text if a test holds, or nothing
abbrev pub text_if : Bool → List ℕ → List ℕ
text_if is_shown text = if is_shown then text else []

-- the text with this name in the library's language, or nothing
abbrev pub text_or_nothing : site_file.SiteValue → Option Text → List ℕ
text_or_nothing site None = []
text_or_nothing site (Some name) = text_of site name

-- a text, or nothing
abbrev pub or_nothing : Option (List ℕ) → List ℕ
or_nothing text = unwrap_or text []

-- the value that a site has for a slot, or nothing; a page is in English if the library names no language
abbrev pub site_value : site_file.SiteValue → Slot → List ℕ
site_value site slot.Language = unwrap_or site.language (codes "en")
site_value site slot.Library = or_nothing site.name
site_value site slot.Color = or_nothing site.color
site_value site slot.Help = or_nothing site.help
site_value site slot.Contact = or_nothing site.contact
site_value site other = []

-- the value of a slot: the first that is given for it, or else that of the site
abbrev pub value_of : site_file.SiteValue → Values → Slot → List ℕ
value_of site [] slot = site_value site slot
value_of site (value ∷ values) slot = if ghosts.eq value.0 slot then value.1 else value_of site values slot

-- values without the addresses of their texts
abbrev pub plain : List (Slot × Bor (List ℕ)) → Values
plain values = map (λ (value : Slot × Bor (List ℕ)). (value.0, value.1.now)) values
