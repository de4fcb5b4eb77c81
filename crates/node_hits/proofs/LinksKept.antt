-- The best link: it stays if no hit of a higher rank with a safe link comes.
use Rattle.std.proofs.Common.{◌≡◌, Bool, true, false, Option, Some, None, refl, sym, ap, ◌∙◌}
use Rattle.std.specs.Prelude.{if◌then◌else◌, nat_lt}
use Rattle.node_site.specs.Hosts.{is_link}
use Rattle.node_hits.specs.Hits.{ReleaseHitValue, LinkValue, better, link_text, own_link, rank_of}
use Rattle.node_hits.specs.Tallying.{is_above, with_link}

pub link_kept : (link : Option LinkValue) (found : ReleaseHitValue) → is_above (rank_of found) link ≡ false → link ≡ with_link link found
link_kept None found e = cc
link_kept (Some link) found e = go (is_link (link_text found))
  where
    go : (b : Bool) → Some link ≡ better (Some link) (if b then Some (own_link found) else None)
    go true = sym (ap (λ b. if b then Some (own_link found) else Some link) e)
    go false = refl

beside_none : (link : Option LinkValue) → link ≡ better link None
beside_none None = refl
beside_none (Some link) = refl

pub link_unsafe : (link : Option LinkValue) (found : ReleaseHitValue) → is_link (link_text found) ≡ false → link ≡ with_link link found
link_unsafe link found e = beside_none link ∙ sym (ap (λ (b : Bool). better link (if b then Some (own_link found) else None)) e)

pub link_taken : (link : Option LinkValue) (found : ReleaseHitValue) → is_above (rank_of found) link ≡ true → is_link (link_text found) ≡ true
    → Some (own_link found) ≡ with_link link found
link_taken None found above safe = sym (ap (λ (b : Bool). if b then Some (own_link found) else None) safe)
link_taken (Some link) found above safe =
    sym (ap (λ (b : Bool). better (Some link) (if b then Some (own_link found) else None)) safe
    ∙ ap (λ (b : Bool). if b then Some (own_link found) else Some link) above)
