use Rattle.std.proofs.Common.{◌≡◌, ℕ, ◌<◌, false, get_or}
use Rattle.node_site.specs.Urls.{ends_authority}
use Rattle.node_site.proofs.urls.authority_len.Given as goal

abbrev pub invariant-loop-place : goal.invariant-loop-place
invariant-loop-place l = (k : ℕ) → k < l.place → ends_authority (get_or l.text k 0) ≡ false
