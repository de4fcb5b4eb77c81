-- The templates.
use Rattle.std.specs.Prelude.{ℕ, List}
use Rattle.node_templates.specs.Plain.{template_of}
use Rattle.node_templates.specs.declared.citation.TheConstants.{CITED_NAMES, CITED_PLACE, CITED_WORK, COINS, NUMBER_FAULTS}
use Rattle.node_templates.specs.declared.form.TheConstants.{SEARCH_FORM, TITLES_FORM}
use Rattle.node_templates.specs.declared.fragment.TheConstants.{FRAGMENT_END, FRAGMENT_TOP, FRAGMENT_WAYS}
use Rattle.node_templates.specs.declared.frame.TheConstants.{ASK_AGAIN, FAULT, FOOT, NOTE, TOP}
use Rattle.node_templates.specs.declared.lists.TheConstants.{CARD, CARDS, LEFT_OUT, PACKAGE, PACKAGES, PACKAGES_END}
use Rattle.node_templates.specs.declared.lists.TheConstants.{TITLES_END, TITLE_CARD, WAY, WAYS, WAYS_END}
use Rattle.node_templates.specs.declared.template.Hole.{Hole}
use Rattle.node_templates.specs.declared.template.Template.{Template}
use Rattle.node_templates.specs.declared.template.Template.TheVariants as template
use Rattle.node_templates.specs.declared.template.When.{When}

-- the lines of each template
unfoldable pub lines_of : Template → List (When × List (List ℕ × Hole))
lines_of template.Top = template_of TOP.now
lines_of template.Foot = template_of FOOT.now
lines_of template.SearchForm = template_of SEARCH_FORM.now
lines_of template.TitlesForm = template_of TITLES_FORM.now
lines_of template.Note = template_of NOTE.now
lines_of template.Fault = template_of FAULT.now
lines_of template.AskAgain = template_of ASK_AGAIN.now
lines_of template.CitedWork = template_of CITED_WORK.now
lines_of template.CitedPlace = template_of CITED_PLACE.now
lines_of template.CitedNames = template_of CITED_NAMES.now
lines_of template.Coins = template_of COINS.now
lines_of template.Cards = template_of CARDS.now
lines_of template.Card = template_of CARD.now
lines_of template.LeftOut = template_of LEFT_OUT.now
lines_of template.Ways = template_of WAYS.now
lines_of template.Way = template_of WAY.now
lines_of template.WaysEnd = template_of WAYS_END.now
lines_of template.TitleCard = template_of TITLE_CARD.now
lines_of template.TitlesEnd = template_of TITLES_END.now
lines_of template.NumberFaults = template_of NUMBER_FAULTS.now
lines_of template.Packages = template_of PACKAGES.now
lines_of template.Package = template_of PACKAGE.now
lines_of template.PackagesEnd = template_of PACKAGES_END.now
lines_of template.FragmentTop = template_of FRAGMENT_TOP.now
lines_of template.FragmentWays = template_of FRAGMENT_WAYS.now
lines_of template.FragmentEnd = template_of FRAGMENT_END.now
