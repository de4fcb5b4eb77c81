-- The links of a library beside the hits: to its forms and its catalogue.
use Rattle.std.specs.Prelude.{ℕ, List, [], ◌∷◌, ◌++◌, Option, Some, None, if◌then◌else◌, option_map}
use Rattle.std.specs.List.{filter_map}
use Rattle.node_site.specs.Occasions.{is_used}
use Rattle.node_site.specs.Site.{LinkRuleValue, SiteValue}
use Rattle.node_site.specs.Texts.{text_of}
use Rattle.node_site.specs.declared.occasion.LinkUse.{LinkUse}
use Rattle.node_site.specs.declared.occasion.LinkOccasion.TheVariants as on
use Rattle.node_site.specs.declared.occasion.SearchOutcome.{SearchOutcome}
use Rattle.node_site.specs.declared.text_table.Text.TheVariants.{Request}
use Rattle.node_links.specs.Requests.{CitedTitleValue, filled, if_link}

-- a link as a page has it
pub record LibraryLinkValue : Type 0 where
  pub label : List ℕ
  pub address : List ℕ

abbrev pub with_label : List ℕ → List ℕ → LibraryLinkValue
with_label label address = record { label = label; address = address }

-- the request form is a link that is always shown
abbrev pub request_rule : List ℕ → List ℕ → LinkRuleValue
request_rule label address = record { label = label; address = address; occasion = on.Always }

abbrev pub request_rules : List ℕ → Option (List ℕ) → List LinkRuleValue
request_rules label None = []
request_rules label (Some address) = request_rule label address ∷ []

-- a link for a citation, if it is used for the outcome; parts can make it too long
abbrev pub made_link : LinkUse → SearchOutcome → CitedTitleValue → LinkRuleValue → Option LibraryLinkValue
made_link usage outcome cited rule =
    if is_used usage rule.occasion outcome then option_map (with_label rule.label) (if_link (filled cited rule.address)) else None

abbrev pub made_links : LinkUse → SearchOutcome → CitedTitleValue → List LinkRuleValue → List LibraryLinkValue
made_links usage outcome cited rules = filter_map (made_link usage outcome cited) rules

-- the links of a library for a citation and the outcome of its search: the request form, and then those of the tables
unfoldable pub library_links : SiteValue → LinkUse → SearchOutcome → CitedTitleValue → List LibraryLinkValue
library_links site usage outcome cited =
    made_links usage outcome cited (request_rules (text_of site Request) site.request) ++ made_links usage outcome cited site.links
