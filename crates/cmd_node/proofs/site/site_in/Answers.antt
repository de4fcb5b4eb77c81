use Rattle.std.proofs.Common.{◌≡◌, ◌+◌, subst, ℕ, List, take, Option, Some, None, Result, Ok, Err, IfSome, IfOk, IfErr}
use Rattle.node_response.specs.Tags.{IsSiteWith, SiteValue}
use Rattle.node_site.specs.Limits.{site_limit}
use Rattle.node_site.specs.Reading.{IsSiteFault}
use Rattle.node_site.specs.declared.site_fault.SiteFault.{SiteFault}
use Rattle.node_site.specs.declared.site_fault.SiteFault.TheVariants.{Memory, TooLong, NotUtf8, Syntax, Key}
use Rattle.cmd_node.specs.Sites.{IsSiteRead}
use Rattle.cmd_node.proofs.Fronts.{longer, whole_has}
use Rattle.cmd_node.proofs.site.site_in.Goals as goal

-- the site of a front is that of the file, and so is the fault
site_of_front : (version : List ℕ) (max_age : ℕ) (bytes : List ℕ) (read : Result SiteValue SiteFault)
    → IfOk read (IsSiteWith version max_age (take (site_limit + 1) bytes)) → IfErr read (IsSiteFault (take (site_limit + 1) bytes))
    → IsSiteRead version max_age bytes read
site_of_front version max_age bytes (Ok site) fine bad =
    whole_has site_limit bytes (λ text. IsSiteWith version max_age text site) fine.means.is_document.fits fine
site_of_front version max_age bytes (Err TooLong) fine bad = longer site_limit bytes bad
site_of_front version max_age bytes (Err NotUtf8) fine bad = whole_has site_limit bytes (λ text. IsSiteFault text NotUtf8) bad.0 bad
site_of_front version max_age bytes (Err (Syntax place)) fine bad = whole_has site_limit bytes (λ text. IsSiteFault text (Syntax place)) bad.0 bad
site_of_front version max_age bytes (Err (Key fault)) fine bad =
    whole_has site_limit bytes (λ text. IsSiteFault text (Key fault)) bad.is_document.fits bad
site_of_front version max_age bytes (Err Memory) fine bad = whole_has site_limit bytes (λ text. IsSiteFault text Memory) bad.0 bad

site_read : (known : Option (List ℕ)) (front said version : List ℕ) (max_age : ℕ) (read : Result SiteValue SiteFault)
    → IfSome known (λ given. front ≡ take (site_limit + 1) given) → said ≡ version → IfOk read (IsSiteWith said max_age front)
    → IfErr read (IsSiteFault front) → IfSome known (λ given. IsSiteRead version max_age given read)
site_read None front said version max_age read is_front same fine bad = tt
site_read (Some given) front said version max_age read is_front same fine bad =
    subst (λ text. IsSiteRead text max_age given read) same (site_of_front said max_age given read
    (subst (λ text. IfOk read (IsSiteWith said max_age text)) is_front fine) (subst (λ text. IfErr read (IsSiteFault text)) is_front bad))

pub returns : goal.returns
returns g c = site_read _ _ _ _ _ _ c.in_ok-bytes.ensures c.as_bytes-version.ensures.value c.read.ensures.read c.read.ensures.refused
