-- The site that a file defines.
use Rattle.std.specs.Prelude.{ℕ, List, Result, MatchResult}
use Rattle.node_response.specs.Tags.{IsSiteWith, SiteValue}
use Rattle.node_site.specs.Reading.{IsSiteFault}
use Rattle.node_site.specs.declared.site_fault.SiteFault.{SiteFault}

-- the site of this version and these settings whose file has these bytes, or why they are not a site file
abbrev pub IsSiteRead : List ℕ → ℕ → List ℕ → Result SiteValue SiteFault → Type 0
IsSiteRead version max_age bytes read = MatchResult read (IsSiteWith version max_age bytes) (IsSiteFault bytes)
