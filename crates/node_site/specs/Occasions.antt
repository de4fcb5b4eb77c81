-- When a link of the library is shown, and when a redirect may lead to it.
use Rattle.std.specs.Prelude.{Bool, true, false}
use Rattle.node_site.specs.declared.occasion.LinkUse.{LinkUse}
use Rattle.node_site.specs.declared.occasion.LinkUse.TheVariants.{Shown, Followed}
use Rattle.node_site.specs.declared.occasion.LinkOccasion.{LinkOccasion}
use Rattle.node_site.specs.declared.occasion.LinkOccasion.TheVariants as on
use Rattle.node_site.specs.declared.occasion.SearchOutcome.{SearchOutcome}
use Rattle.node_site.specs.declared.occasion.SearchOutcome.TheVariants as found

-- the answer has an outcome for which a link is meant
abbrev pub is_meant : LinkOccasion → SearchOutcome → Bool
is_meant on.Hits found.Hits = true
is_meant on.NoHits found.NoHits = true
is_meant on.Embargoed found.Embargoed = true
is_meant occasion outcome = false

-- a link is shown always, or for the outcome for which it is meant
abbrev pub is_shown : LinkOccasion → SearchOutcome → Bool
is_shown on.Always outcome = true
is_shown occasion outcome = is_meant occasion outcome

-- whether a redirect may lead to a link: if the link is meant for an answer without a text that is open
abbrev pub is_followed : LinkOccasion → SearchOutcome → Bool
is_followed on.NoHits outcome = is_meant on.NoHits outcome
is_followed on.Embargoed outcome = is_meant on.Embargoed outcome
is_followed occasion outcome = false

abbrev pub is_used : LinkUse → LinkOccasion → SearchOutcome → Bool
is_used Shown occasion outcome = is_shown occasion outcome
is_used Followed occasion outcome = is_followed occasion outcome
