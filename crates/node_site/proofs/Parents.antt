-- A host is in a domain, if it is the domain or has it behind one of its dots.
use Rattle.std.proofs.Common.{◌≡◌, ℕ, ◌+◌, ◌-◌, ◌≤◌, ◌<◌, ◌==◌, ◌&&◌, ◌||◌, Bool, true, false, cond, nat_lt, nat_le}
use Rattle.std.proofs.Common.{List, [], ◌∷◌, length, slice_index, drop, suc, leb, inl, inr, ◌⊎◌, refl, sym, ap, ◌∙◌, arith}
use Rattle.std.proofs.lemmas.Bool.{leb-true, ltb-false, eqb-true}
use Rattle.std.proofs.lemmas.Bool.Decides.{leb_tells}
use Rattle.std.proofs.lemmas.List.{length-map, length-drop, drop-drop, drop_more}
use Rattle.std.specs.Char.{to_ascii_lowercase}
use Rattle.std.specs.Cmp.Lexicographic.{bytes_decides, nat_list_eq_equiv}
use Rattle.std.specs.List.{list_all, list_any}
use Rattle.std.specs.Str.{bytes_eq, str_eq_ignore_ascii_case, str_to_ascii_lowercase}
use Rattle.node_site.specs.declared.domains.Domains.{Domains}
use Rattle.node_site.specs.declared.places.Places.{Places}
use Rattle.node_site.specs.Indexes.{AreDomains, IsKnown, has_parent, is_known}
use Rattle.node_site.specs.Proxies.{is_excepted}
use Rattle.node_site.specs.Urls.{is_dotted, is_host, is_within}

-- the domain is behind one of the dots of a text
abbrev is_behind : List ℕ → List ℕ → Bool
is_behind domain [] = false
is_behind domain (b ∷ rest) = ((b == 46) && str_eq_ignore_ascii_case rest domain) || is_behind domain rest

same_size : (text domain : List ℕ) → str_eq_ignore_ascii_case text domain ≡ true → length text ≡ length domain
same_size text domain e =
    sym (length-map text to_ascii_lowercase) ∙ ap length ((bytes_decides (str_to_ascii_lowercase text) (str_to_ascii_lowercase domain)).0 e) ∙ length-map domain to_ascii_lowercase

not_same : (text domain : List ℕ) → (length text ≡ length domain → ⊥) → str_eq_ignore_ascii_case text domain ≡ false
not_same text domain apart = go (str_eq_ignore_ascii_case text domain) refl
  where
    go : (b : Bool) → str_eq_ignore_ascii_case text domain ≡ b → b ≡ false
    go true e = absurd (apart (same_size text domain e))
    go false e = refl

dotless : (c : Bool) (b : ℕ) → c ≡ false → ((b == 46) && c) ≡ false
dotless c b e = go (b == 46)
  where
    go : (d : Bool) → (d && c) ≡ false
    go true = e
    go false = refl

-- a text that is not longer has it nowhere
too_short : (domain text : List ℕ) → length text ≤ length domain → is_behind domain text ≡ false
too_short domain [] le = refl
too_short domain (b ∷ rest) le =
    rw (dotless (str_eq_ignore_ascii_case rest domain) b (not_same rest domain (λ e. omega (arith, le, e))), too_short domain rest (omega (arith, le))) refl

or_false : (a : Bool) → (a || false) ≡ a
or_false true = refl
or_false false = refl

-- it can be at one place alone
behind_is : (domain text : List ℕ) → is_behind domain text ≡ is_dotted domain (drop (length text - length domain - 1) text)
behind_is domain [] = let none : 0 - length domain - 1 ≡ 0 = omega arith in rw none refl
behind_is domain (b ∷ rest) = go (leb_tells (length rest) (length domain)) (behind_is domain rest)
  where
    go : (((leb (length rest) (length domain) ≡ true) × (length rest ≤ length domain)) ⊎ ((leb (length rest) (length domain) ≡ false) × (length domain < length rest)))
        → is_behind domain rest ≡ is_dotted domain (drop (length rest - length domain - 1) rest)
        → is_behind domain (b ∷ rest) ≡ is_dotted domain (drop (length (b ∷ rest) - length domain - 1) (b ∷ rest))
    go (inl e) later =
        let none : length (b ∷ rest) - length domain - 1 ≡ 0 = omega (arith, e.1) in
        rw (none, too_short domain rest (omega (arith, e.1))) (or_false ((b == 46) && str_eq_ignore_ascii_case rest domain))
    go (inr e) later =
        let less : length (b ∷ rest) - length domain - 1 ≡ suc (length rest - length domain - 1) = omega (arith, e.1) in
        rw (less, dotless (str_eq_ignore_ascii_case rest domain) b (not_same rest domain (λ same. omega (arith, e.1, same)))) later

-- whether a host is in a domain shows at its end
at_end : (domain host : List ℕ) → length domain ≤ 253 → is_within domain host ≡ is_within domain (drop (length host - 254) host)
at_end domain host short = go (leb_tells (length host) 254)
  where
    end : List ℕ
    end = drop (length host - 254) host

    size : length end ≡ length host - (length host - 254)
    size = length-drop (length host - 254) host

    go : (((leb (length host) 254 ≡ true) × (length host ≤ 254)) ⊎ ((leb (length host) 254 ≡ false) × (254 < length host))) → is_within domain host ≡ is_within domain end
    go (inl e) = let none : length host - 254 ≡ 0 = omega (arith, e.1) in rw none refl
    go (inr e) =
        let place : length host - 254 + (length end - length domain - 1) ≡ length host - length domain - 1 = omega (arith, e.1, size, short) in
        let tail : drop (length end - length domain - 1) end ≡ drop (length host - length domain - 1) host = drop-drop (length end - length domain - 1) (length host - 254) host ∙ ap
        (λ n. drop n host) place in
        rw (not_same host domain (λ same. omega (arith, e.1, same, short)), not_same end domain (λ same. omega (arith, e.1, size, same, short)), tail) refl

-- the domain is the host, or behind one of its dots
abbrev is_in : List ℕ → List ℕ → Bool
is_in host domain = str_eq_ignore_ascii_case host domain || is_behind domain host

within_is : (domain host : List ℕ) → is_host domain ≡ true → is_within domain host ≡ is_in (drop (length host - 254) host) domain
within_is domain host fine =
    let end = drop (length host - 254) host in
    at_end domain host (leb-true (length domain) 253 (and_left (nat_le (length domain) 253) _ fine)) ∙ ap (λ (b : Bool). str_eq_ignore_ascii_case end domain || b) (sym (behind_is domain end))
  where
    and_left : (a b : Bool) → (a && b) ≡ true → a ≡ true
    and_left true b h = refl
    and_left false b h = cc

-- the same of each domain
all_same : (host : List ℕ) (except : List (List ℕ)) → list_all is_host except ≡ true
    → is_excepted except host ≡ list_any (is_in (drop (length host - 254) host)) except
all_same host [] fine = refl
all_same host (domain ∷ except) fine =
    let parts = both (is_host domain) (list_all is_host except) fine in
    rw (within_is domain host parts.0, all_same host except parts.1) refl
  where
    both : (a b : Bool) → (a && b) ≡ true → (a ≡ true) × (b ≡ true)
    both true b h = (refl, h)
    both false b h = cc

or_any : {X : Type 0} (f g : X → Bool) (xs : List X) → list_any (λ x. f x || g x) xs ≡ (list_any f xs || list_any g xs)
or_any f g [] = refl
or_any f g (x ∷ xs) = rw (or_any f g xs) (four (f x) (g x) (list_any f xs) (list_any g xs))
  where
    four : (a b c d : Bool) → ((a || b) || (c || d)) ≡ ((a || c) || (b || d))
    four true b c d = refl
    four false true true d = refl
    four false true false d = refl
    four false false true d = refl
    four false false false d = refl

no_any : {X : Type 0} (xs : List X) → list_any (λ _. false) xs ≡ false
no_any [] = refl
no_any (x ∷ xs) = no_any xs

and_any : {X : Type 0} (c : Bool) (f : X → Bool) (xs : List X) → list_any (λ x. c && f x) xs ≡ (c && list_any f xs)
and_any true f xs = refl
and_any false f xs = no_any xs

any_same : {X : Type 0} (f g : X → Bool) (xs : List X) → ((x : X) → f x ≡ g x) → list_any f xs ≡ list_any g xs
any_same f g [] same = refl
any_same f g (x ∷ xs) same = rw (same x, any_same f g xs same) refl

known_text : (except : List (List ℕ)) (places : Places) (text : List ℕ) → IsKnown except places
    → is_known (str_to_ascii_lowercase text) places ≡ list_any (str_eq_ignore_ascii_case text) except
known_text except places text known =
    known (str_to_ascii_lowercase text)
    ∙ any_same (λ domain. bytes_eq (str_to_ascii_lowercase domain) (str_to_ascii_lowercase text)) (str_eq_ignore_ascii_case text) except
    (λ domain. nat_list_eq_equiv.symm (str_to_ascii_lowercase domain) (str_to_ascii_lowercase text))

-- a dot is one in either case
lower_dot : (b : ℕ) → (to_ascii_lowercase b == 46) ≡ (b == 46)
lower_dot b = go (nat_lt b 65) refl (nat_lt b 91)
  where
    high : (n : ℕ) → 46 < n → (n == 46) ≡ false
    high n more = not_eq (n == 46) refl
      where
        not_eq : (c : Bool) → (n == 46) ≡ c → c ≡ false
        not_eq true e = absurd (let same : n ≡ 46 = eqb-true n 46 e in omega (arith, same, more))
        not_eq false e = refl

    go : (c : Bool) → nat_lt b 65 ≡ c → (d : Bool) → (cond c b (cond d (b + 32) b) == 46) ≡ (b == 46)
    go true e d = refl
    go false e true = let most = ltb-false b 65 e in rw (high (b + 32) (omega (arith, most)), high b (omega (arith, most))) refl
    go false e false = refl

known_parent : (except : List (List ℕ)) (places : Places) (text : List ℕ) → IsKnown except places
    → has_parent places (str_to_ascii_lowercase text) ≡ list_any (λ domain. is_behind domain text) except
known_parent except places [] known = sym (no_any except)
known_parent except places (b ∷ rest) known =
    rw (lower_dot b, known_text except places rest known, known_parent except places rest known)
    (ap (λ (c : Bool). c || list_any (λ domain. is_behind domain rest) except) (sym (and_any (b == 46) (str_eq_ignore_ascii_case rest) except))
    ∙ sym (or_any (λ domain. (b == 46) && str_eq_ignore_ascii_case rest domain) (λ domain. is_behind domain rest) except))

-- the domains cover the hosts that are excepted
pub covered : (except : List (List ℕ)) (domains : Domains) (host end : List ℕ) → AreDomains except domains → end ≡ str_to_ascii_lowercase (drop (length host - 254) host)
    → (is_known end domains.places || has_parent domains.places end) ≡ is_excepted except host
covered except domains host end are is =
    let text = drop (length host - 254) host in
    rw (is, known_text except domains.places text are.known, known_parent except domains.places text are.known)
    (sym (all_same host except are.hosts ∙ or_any (str_eq_ignore_ascii_case text) (λ domain. is_behind domain text) except))

-- a dot with a domain behind it is at a place, or further on
pub next_place : (places : Places) (host : List ℕ) (place : ℕ) → place < length host
    → has_parent places (drop place host) ≡ (((slice_index host place == 46) && is_known (drop (place + 1) host) places) || has_parent places (drop (place + 1) host))
next_place places host place within = ap (has_parent places) (drop_more host place 0 within)
