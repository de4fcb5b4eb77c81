-- The front of a text, and the hosts of texts that begin the same.
use Rattle.std.proofs.Common.{◌≡◌, ℕ, ◌+◌, ◌<◌, ◌&&◌, ◌||◌, ◌==◌, Bool, true, false, not, nat_lt, nat_le, is_some, List, [], ◌∷◌, ◌++◌, length, take, drop, codes, Option, Some, None, All}
use Rattle.std.proofs.Common.{option_map, if◌then◌else◌, cond, refl, sym, ap, ◌∙◌, arith, length-append, suc}
use Rattle.std.specs.List.{before_first, list_all, list_any, prefix_len}
use Rattle.std.proofs.lemmas.List.{take-append-le, drop-append-le}
use Rattle.std.proofs.lemmas.Bool.Decides.{nat_tests}
use Rattle.node_site.specs.Kinds.{has_end, is_front}
use Rattle.node_site.specs.Laws.{is_plain}
use Rattle.node_site.specs.Hosts.{host_behind, host_in, host_of, is_link}
use Rattle.node_site.specs.Urls.{after_scheme, authority_of, begins_with, ends_authority, has_byte, is_visible, url_limit}

-- the front of a list, up to the first element that passes, by recursion
abbrev pub front : (ℕ → Bool) → List ℕ → List ℕ
front p [] = []
front p (b ∷ rest) = if p b then [] else b ∷ front p rest

first_case : (p : ℕ → Bool) (c : Bool) (b : ℕ) (rest more : List ℕ) (n : ℕ) → take n rest ≡ more
    → take (cond (not c) (1 + n) 0) (b ∷ rest) ≡ (if c then [] else b ∷ more)
first_case p true b rest more n e = refl
first_case p false b rest more n e = grind (arith, e)

pub is_front_of : (p : ℕ → Bool) (xs : List ℕ) → before_first p xs ≡ front p xs
is_front_of p [] = refl
is_front_of p (b ∷ rest) = first_case p (p b) b rest (front p rest) (prefix_len (λ x. not (p x)) rest) (is_front_of p rest)

begins_same : (begin fore y : List ℕ) → length begin < length fore → begins_with begin (fore ++ y) ≡ begins_with begin fore
begins_same begin fore y fits =
    let longer : nat_lt (length begin) (length (fore ++ y)) ≡ true = grind (arith, nat_tests, length-append, fits) in
    let long : nat_lt (length begin) (length fore) ≡ true = grind (arith, nat_tests, fits) in
    let same : take (length begin) (fore ++ y) ≡ take (length begin) fore = take-append-le (length begin) fore y (omega (arith, fits)) in
    rw (longer, long, same) refl

scheme_case : (one other : Bool) (fore y : List ℕ) → 8 < length fore
    → (if one then Some (drop 8 (fore ++ y)) else if other then Some (drop 7 (fore ++ y)) else None)
    ≡ option_map (λ rest. rest ++ y) (if one then Some (drop 8 fore) else if other then Some (drop 7 fore) else None)
scheme_case true other fore y long = ap Some (drop-append-le 8 fore y (omega (arith, long)))
scheme_case false true fore y long = ap Some (drop-append-le 7 fore y (omega (arith, long)))
scheme_case false false fore y long = refl

scheme_same : (fore y : List ℕ) → 8 < length fore → after_scheme (fore ++ y) ≡ option_map (λ rest. rest ++ y) (after_scheme fore)
scheme_same fore y long =
    rw (begins_same (codes "https://") fore y long, begins_same (codes "http://") fore y (omega (arith, long)))
    (scheme_case (begins_with (codes "https://") fore) (begins_with (codes "http://") fore) fore y long)

-- two cuts, one after the other, are one
cuts_case : (p q : ℕ → Bool) (c : Bool) (b : ℕ) (rest : List ℕ) → q b ≡ c → front p (front q rest) ≡ front (λ x. p x || q x) rest
    → front p (if c then [] else b ∷ front q rest) ≡ (if p b || c then [] else b ∷ front (λ x. p x || q x) rest)
cuts_case p q true b rest e h = elim (p b) as (λ d. [] ≡ (if d || true then [] else b ∷ front (λ x. p x || q x) rest)) [ true ↦ refl | false ↦ refl ]
cuts_case p q false b rest e h =
    elim (p b) as (λ d. (if d then [] else b ∷ front p (front q rest)) ≡ (if d || false then [] else b ∷ front (λ x. p x || q x) rest))
    [ true ↦ refl | false ↦ ap (λ (xs : List ℕ). b ∷ xs) h ]

pub cuts : (p q : ℕ → Bool) (xs : List ℕ) → front p (front q xs) ≡ front (λ x. p x || q x) xs
cuts p q [] = refl
cuts p q (b ∷ rest) = cuts_case p q (q b) b rest refl (cuts p q rest)

pub authority_is : (xs : List ℕ) → authority_of xs ≡ front ends_authority xs
authority_is xs = is_front_of ends_authority xs

cut_case : (p : ℕ → Bool) (c : Bool) (b : ℕ) (fore y : List ℕ) → (c || list_any p fore) ≡ true
    → (list_any p fore ≡ true → front p (fore ++ y) ≡ front p fore)
    → (if c then [] else b ∷ front p (fore ++ y)) ≡ (if c then [] else b ∷ front p fore)
cut_case p true b fore y h later = refl
cut_case p false b fore y h later = ap (λ (xs : List ℕ). b ∷ xs) (later h)

cut_early : (p : ℕ → Bool) (fore y : List ℕ) → list_any p fore ≡ true → front p (fore ++ y) ≡ front p fore
cut_early p [] y h = cc
cut_early p (b ∷ fore) y h = cut_case p (p b) b fore y h (cut_early p fore y)

authority_same : (rest y : List ℕ) → list_any ends_authority rest ≡ true → authority_of (rest ++ y) ≡ authority_of rest
authority_same rest y h = authority_is (rest ++ y) ∙ cut_early _ rest y h ∙ sym (authority_is rest)

hosts_same : (o : Option (List ℕ)) (y : List ℕ) → has_end o ≡ true → host_behind (option_map (λ rest. rest ++ y) o) ≡ host_behind o
hosts_same None y h = refl
hosts_same (Some rest) y h = ap host_in (authority_same rest y h)

pub and_left : (a b : Bool) → (a && b) ≡ true → a ≡ true
and_left true b h = refl
and_left false b h = h

pub and_right : (a b : Bool) → (a && b) ≡ true → b ≡ true
and_right true b h = h
and_right false b h = cc

pub host_kept : (fore y : List ℕ) → is_front fore ≡ true → host_behind (after_scheme (fore ++ y)) ≡ host_behind (after_scheme fore)
host_kept fore y h =
    let long : 8 < length fore = grind (arith, nat_tests, and_left (nat_lt 8 (length fore)) (is_link fore && has_end (after_scheme fore)) h) in
    let ends = and_right (is_link fore) (has_end (after_scheme fore)) (and_right (nat_lt 8 (length fore)) (is_link fore && has_end (after_scheme fore)) h) in
    ap host_behind (scheme_same fore y long) ∙ hosts_same (after_scheme fore) y ends

-- ---- no backslash

abbrev pub Lacks : List ℕ → Type 0
Lacks text = has_byte 92 text ≡ false

pub lacks_either : (c d : Bool) → c ≡ false → d ≡ false → (c || d) ≡ false
lacks_either false d one other = other
lacks_either true d one other = one

pub lacks_parts : (c d : Bool) → (c || d) ≡ false → (c ≡ false) × (d ≡ false)
lacks_parts false d h = (refl, h)
lacks_parts true d h = cc

pub lacks-append : (xs ys : List ℕ) → Lacks xs → Lacks ys → Lacks (xs ++ ys)
lacks-append [] ys one other = other
lacks-append (b ∷ rest) ys one other =
    let (here, more) = lacks_parts (b == 92) (has_byte 92 rest) one in
    lacks_either (b == 92) (has_byte 92 (rest ++ ys)) here (lacks-append rest ys more other)

plain_lacks : (b : ℕ) → is_plain b ≡ true → (b == 92) ≡ false
plain_lacks b h = grind (arith, nat_tests)

pub plain_text_lacks : (text : List ℕ) → All (λ b. is_plain b ≡ true) text → Lacks text
plain_text_lacks [] h = refl
plain_text_lacks (b ∷ rest) h =
    let here : is_plain b ≡ true = h 0 0 (omega arith) in
    let more : All (λ b. is_plain b ≡ true) rest = λ k d within. h (suc k) d (omega (arith, within)) in
    lacks_either (b == 92) (has_byte 92 rest) (plain_lacks b here) (plain_text_lacks rest more)

pub host_is : (text : List ℕ) → Lacks text → host_of text ≡ host_behind (after_scheme text)
unfolding host_of
host_is text h = rw h

some_lacks : (c : Bool) (o : Option (List ℕ)) → is_some (if c then None else o) ≡ true → c ≡ false
some_lacks true o h = cc
some_lacks false o h = refl

pub link_lacks : (url : List ℕ) → is_link url ≡ true → Lacks url
unfolding host_of
link_lacks url h =
    some_lacks (has_byte 92 url) (host_behind (after_scheme url))
    (and_right (list_all is_visible url) (is_some (host_of url)) (and_right (nat_le (length url) url_limit) (list_all is_visible url && is_some (host_of url)) h))
