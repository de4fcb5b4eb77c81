-- Subdomains.
use Rattle.std.proofs.Common.{◌≡◌, ℕ, ◌-◌, ◌||◌, Bool, true, false, List, ◌∷◌, ◌++◌, length, drop, arith, refl, length-append}
use Rattle.std.proofs.Math.Seq.{drop-append_seam}
use Rattle.std.proofs.lemmas.Cmp.{nat_list_eq_equiv}
use Rattle.std.specs.Str.{str_eq_ignore_ascii_case, str_to_ascii_lowercase}
use Rattle.node_site.specs.Urls.{is_dotted, is_within}

same_text : (text : List ℕ) → str_eq_ignore_ascii_case text text ≡ true
same_text text = nat_list_eq_equiv.refl (str_to_ascii_lowercase text)

or_right : (a b : Bool) → b ≡ true → (a || b) ≡ true
or_right true b h = refl
or_right false b h = h

tail_is : (domain front : List ℕ) → drop (length (front ++ 46 ∷ domain) - length domain - 1) (front ++ 46 ∷ domain) ≡ 46 ∷ domain
tail_is domain front =
    let size : length (front ++ 46 ∷ domain) - length domain - 1 ≡ length front = omega (arith, length-append front (46 ∷ domain)) in
    rw size (drop-append_seam front (46 ∷ domain))

pub domain_is_within : (domain : List ℕ) → is_within domain domain ≡ true
domain_is_within domain = rw (same_text domain)

pub subdomain_is_within : (domain front : List ℕ) → is_within domain (front ++ 46 ∷ domain) ≡ true
subdomain_is_within domain front =
    or_right (str_eq_ignore_ascii_case (front ++ 46 ∷ domain) domain) (is_dotted domain (drop (length (front ++ 46 ∷ domain) - length domain - 1) (front ++ 46 ∷ domain)))
    (rw (tail_is domain front) (same_text domain))
