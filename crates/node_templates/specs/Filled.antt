-- Whether each slot of a template is given a value.
use Rattle.std.specs.Prelude.{ℕ, ◌&&◌, ◌||◌, Bool, true, false, List}
use Rattle.std.specs.List.{list_all, list_any}
use Rattle.node_templates.specs.Values.{Values}
use Rattle.node_templates.specs.contracts.slot.SlotPartialEq.TheImpl.{ghosts}
use Rattle.node_templates.specs.declared.slot.Slot.{Slot}
use Rattle.node_templates.specs.declared.slot.Slot.TheVariants as slot
use Rattle.node_templates.specs.declared.template.Hole.{Hole}
use Rattle.node_templates.specs.declared.template.Hole.TheVariants.{Nothing, Value, Words}
use Rattle.node_templates.specs.declared.template.Template.{Template}
use Rattle.node_templates.specs.declared.template.When.{When}
use Rattle.node_templates.specs.declared.template.When.TheVariants.{Always, Given, Linked, Styled}
use Rattle.node_templates.specs.Templates.{lines_of}

-- a slot whose value the site file has
abbrev pub is_of_site : Slot → Bool
is_of_site slot.Language = true
is_of_site slot.Library = true
is_of_site slot.Color = true
is_of_site slot.Help = true
is_of_site slot.Contact = true
is_of_site other = false

-- a slot is among the values, or is one of the site file
abbrev pub is_given : Values → Slot → Bool
is_given values slot = is_of_site slot || list_any (λ (value : Slot × List ℕ). ghosts.eq value.0 slot) values

abbrev pub is_hole_given : Values → Hole → Bool
is_hole_given values Nothing = true
is_hole_given values (Value slot) = is_given values slot
is_hole_given values (Words text) = true

abbrev pub is_when_given : Values → When → Bool
is_when_given values Always = true
is_when_given values (Given slot) = is_given values slot
is_when_given values (Linked slot) = is_given values slot
is_when_given values (Styled slot) = is_given values slot

abbrev pub is_line_given : Values → When × List (List ℕ × Hole) → Bool
is_line_given values line =
    is_when_given values line.0 && list_all (λ (fragment : List ℕ × Hole). is_hole_given values fragment.1) line.1

-- each slot of a template has a value
unfoldable pub is_filled : Values → Template → Bool
is_filled values template = list_all (is_line_given values) (lines_of template)
