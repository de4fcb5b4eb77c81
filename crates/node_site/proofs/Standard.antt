-- The parts of an address, as the URL Standard parses it.
use Rattle.std.proofs.Common.{◌≡◌, ℕ, ◌+◌, ◌-◌, ◌<◌, Bool, true, false, not, ◌&&◌, ◌||◌, ◌==◌, List, [], ◌∷◌, ◌++◌, length, get_or}
use Rattle.std.proofs.Common.{take, drop, Option, Some, None, Ok, All, sym, refl, ap, ◌∙◌, subst, arith, codes, take_all, append_assoc, length-append, take_at, drop_at}
use Rattle.std.specs.Prelude.{is_some, unwrap_or, if◌then◌else◌, nat_lt, nat_le, reverse, bytes_eq}
use Rattle.std.specs.List.{list_all, list_any, prefix_len}
use Rattle.std.specs.Char.{is_ascii_alphabetic, to_ascii_lowercase}
use Rattle.std.specs.Str.Parse.{digits_value}
use Rattle.std.proofs.lemmas.Bool.{cond-false, lt-leb}
use Rattle.std.proofs.lemmas.Bool.Decides.{nat_tests}
use Rattle.std.proofs.lemmas.List.{get_or-reverse, length-reverse, get_or_at}
use Rattle.std.proofs.lemmas.Slice.Eq.{bytes_eq-Decides}
use Rattle.std.proofs.lemmas.List.Elements.{All-head, All-tail, All-weaker, All-cons, All-nil}
use Rattle.std.proofs.Math.Nat.{sub-zero}
use Rattle.percent_encoding.proofs.PercentLemmas.{percent_encode-nil}
use Rattle.url.specs.declared.host.Host.{Host}
use Rattle.url.specs.declared.scheme.SchemeType.TheVariants.{SpecialNotFile}
use Rattle.url.specs.Input.{is_empty, is_c0_control_or_space, is_tab_or_new_line, trim_c0_control_and_space, strip_tabs_and_new_lines, lowercase, split_once}
use Rattle.url.specs.Scheme.{default_port, is_scheme_byte, is_slash, scheme_len, scheme_type}
use Rattle.url.specs.Path.{parse_path_start, segment_len}
use Rattle.url.specs.Parts.{Parts, has_credentials, host_or_empty, kind_of}
use Rattle.url.specs.Head.{with_authority}
use Rattle.url.specs.Host.{host_text}
use Rattle.url.specs.Parser.{after_double_slash, parse_authority, parse_body, parse_parts, parse_port, parse_url, skip_slashes, split_scheme, with_path}
use Rattle.url.specs.Parser as standard
use Rattle.url.proofs.InputLemmas.{IsNot, Passes, StopsAt, All_from_list_all, filter_all, is_empty_nonempty, prefix_len_at, rsplit_once_none}
use Rattle.node_site.specs.Urls.{after_scheme, authority_of, begins_with, has_byte, is_visible, url_limit}
use Rattle.node_site.specs.Hosts.{host_behind, host_in, host_len, host_of, host_part, is_port, is_reachable, ipv6_in, port_part, shown_host, shown_part, written_host}
use Rattle.node_site.specs.HostLaws.{HostsAreStandard, LeadsTo, LinksAreStandard}
use Rattle.node_site.proofs.HostTexts.{and_left, and_right, authority_is, cuts, front, is_front_of, lacks_either, lacks_parts}
use Rattle.node_site.proofs.HostNames.{reachable_is_long, reachable_written}

-- ---- nothing is trimmed or stripped

abbrev IsAbove : ℕ → Type 0
IsAbove b = nat_lt 32 b ≡ true

none_at_front : (xs : List ℕ) → (0 < length xs → 32 < get_or xs 0 0) → prefix_len is_c0_control_or_space xs ≡ 0
none_at_front [] first = refl
none_at_front (x ∷ xs) first = cond-false _ _ _ (lt-leb x 32 (first (omega arith)))

above_at : (xs : List ℕ) → All IsAbove xs → (k : ℕ) → k < length xs → 32 < get_or xs k 0
above_at xs above k inside = let here : nat_lt 32 (get_or xs k 0) ≡ true = above k 0 inside in grind (arith, nat_tests)

untrimmed : (xs : List ℕ) → All IsAbove xs → trim_c0_control_and_space xs ≡ xs
unfolding trim_c0_control_and_space
untrimmed xs above =
    let start = none_at_front xs (λ inside. above_at xs above 0 inside) in
    let len = length-reverse xs in
    let end = none_at_front (reverse xs) (λ inside. rw (get_or-reverse xs 0 0 (omega arith), sub-zero) (above_at xs above (length xs - 1) (omega arith))) in
    rw (start, end) (take_all _ xs (omega arith))

unstripped : (xs : List ℕ) → All IsAbove xs → strip_tabs_and_new_lines xs ≡ xs
unfolding strip_tabs_and_new_lines
unstripped xs above =
    filter_all _ xs (All-weaker IsAbove (Passes (λ b. not (is_tab_or_new_line b))) (λ b h. grind (arith, nat_tests)) xs above)

-- ---- fronts

split_step_case : (c : Bool) (b : ℕ) (bytes rest : List ℕ) (later : List ℕ × Option (List ℕ)) → later.0 ≡ rest
    → (let r : List ℕ × Option (List ℕ) = (if c then ([], Some bytes) else (b ∷ later.0, later.1)) in r.0) ≡ (if c then [] else b ∷ rest)
split_step_case true b bytes rest later e = refl
split_step_case false b bytes rest later e = ap (λ (t : List ℕ). b ∷ t) e

split_front : (s : ℕ) (xs : List ℕ) → (split_once s xs).0 ≡ front (λ b. b == s) xs
unfolding split_once
split_front s [] = refl
split_front s (b ∷ rest) = split_step_case (b == s) b rest (front (λ x. x == s) rest) (split_once s rest) (split_front s rest)

front_case : (c : Bool) (b : ℕ) (more rest : List ℕ) → c ≡ false → more ≡ rest → (if c then [] else b ∷ more) ≡ b ∷ rest
front_case true b more rest h e = cc
front_case false b more rest h e = ap (λ (t : List ℕ). b ∷ t) e

front-append : (p : ℕ → Bool) (xs ys : List ℕ) → list_any p xs ≡ false → front p (xs ++ ys) ≡ xs ++ front p ys
front-append p [] ys h = refl
front-append p (b ∷ rest) ys h =
    let (here, more) = lacks_parts (p b) (list_any p rest) h in
    front_case (p b) b (front p (rest ++ ys)) (rest ++ front p ys) here (front-append p rest ys more)

front_same : (p q : ℕ → Bool) → ((b : ℕ) → p b ≡ q b) → (xs : List ℕ) → front p xs ≡ front q xs
front_same p q same [] = refl
front_same p q same (b ∷ rest) = rw (same b, front_same p q same rest)

-- what is before the query and the fragment
is_mark : ℕ → Bool
is_mark b = (b == 63) || (b == 35)

before_marks : (xs : List ℕ) → (split_once 63 (split_once 35 xs).0).0 ≡ front is_mark xs
unfolding is_mark
before_marks xs =
    ap (λ (t : List ℕ). (split_once 63 t).0) (split_front 35 xs) ∙ split_front 63 (front (λ b. b == 35) xs)
    ∙ cuts (λ b. b == 63) (λ b. b == 35) xs

-- what is before the path
is_bar : ℕ → Bool
is_bar b = (b == 47) || (b == 92)

bars_and_marks : (b : ℕ) → (is_bar b || is_mark b) ≡ ((b == 47) || ((b == 63) || ((b == 35) || (b == 92))))
unfolding is_bar is_mark
bars_and_marks b = grind (arith, nat_tests)

authority_before : (rest : List ℕ) → front is_bar (front is_mark rest) ≡ authority_of rest
authority_before rest =
    cuts is_bar is_mark rest ∙ front_same (λ b. is_bar b || is_mark b) (λ b. (b == 47) || ((b == 63) || ((b == 35) || (b == 92)))) bars_and_marks rest
    ∙ sym (authority_is rest)

bar_is_slash : (b : ℕ) → is_slash SpecialNotFile b ≡ is_bar b
unfolding is_bar
bar_is_slash b = grind (arith, nat_tests)

before_path : (xs : List ℕ) → take (segment_len SpecialNotFile xs) xs ≡ front is_bar xs
before_path xs = is_front_of (is_slash SpecialNotFile) xs ∙ front_same (is_slash SpecialNotFile) is_bar bar_is_slash xs

-- a text whose front before a slash is not empty begins with no slash
stops_case : (c : Bool) (y : ℕ) (ys more : List ℕ) → is_bar y ≡ c → 0 < length (if c then [] else y ∷ more) → ((y == 47) || (y == 92)) ≡ false
unfolding is_bar
stops_case true y ys more e h = absurd (omega arith)
stops_case false y ys more e h = e

stops : (xs : List ℕ) → 0 < length (front is_bar xs) → StopsAt (λ b. (b == 47) || (b == 92)) xs
stops [] h = tt
stops (y ∷ ys) h = stops_case (is_bar y) y ys (front is_bar ys) refl h

-- both slashes are skipped, and no byte behind them
skipped : (xs : List ℕ) → 0 < length (front is_bar xs) → skip_slashes (47 ∷ 47 ∷ xs) ≡ xs
skipped xs h =
    let both = All_from_list_all (λ b. (b == 47) || (b == 92)) (47 ∷ 47 ∷ []) refl in
    rw (prefix_len_at (λ b. (b == 47) || (b == 92)) (47 ∷ 47 ∷ []) xs both (stops xs h))

-- ---- the authority

len_case : (c : Bool) (m n : ℕ) → m ≡ n → (if c then 0 else 1 + m) ≡ (if c then 0 else 1 + n)
len_case true m n e = refl
len_case false m n e = ap (λ k. 1 + k) e

same_len : (inside : Bool) (xs : List ℕ) → standard.host_len inside xs ≡ host_len inside xs
unfolding standard.host_len
same_len inside [] = refl
same_len inside (b ∷ rest) =
    len_case ((b == 58) && not inside) _ _ (same_len (if b == 91 then true else (if b == 93 then false else inside)) rest)

port_case : (c e : Bool) (scheme digits : List ℕ) → is_empty digits ≡ e → is_port digits ≡ true
    → (p : Option ℕ) × (parse_port scheme (unwrap_or (if c then Some digits else None) []) ≡ Ok p)
unfolding parse_port
port_case false e scheme digits empty h = (None, refl)
port_case true true scheme digits empty h = (None, rw empty)
port_case true false scheme digits empty h =
    (standard.without_default_port scheme (Some (digits_value 10 digits)), rw (empty, h))

has_none : (xs : List ℕ) → has_byte 64 xs ≡ false → All (IsNot 64) xs
has_none [] h = All-nil (IsNot 64)
has_none (b ∷ rest) h =
    let (here, more) = lacks_parts (b == 64) (has_byte 64 rest) h in
    All-cons (IsNot 64) b rest (λ same. let k = rw same at here in cc k) (has_none rest more)

record Authority (scheme auth shown : List ℕ) : Type 0 where
  host : Host (List ℕ)
  port : Option ℕ
  parses : parse_authority scheme auth ≡ Ok (with_authority scheme [] [] host port)
  text : host_text host ≡ shown

authority : (scheme auth : List ℕ) → scheme_type scheme ≡ SpecialNotFile → has_byte 64 auth ≡ false → is_reachable (host_part auth) ≡ true
    → is_port (port_part auth) ≡ true → Authority scheme auth (written_host (ipv6_in (host_part auth)) (host_part auth))
unfolding parse_authority split_once
authority scheme auth kind no_user reached port =
    let written = reachable_written (host_part auth) reached in
    let (p, digits) = port_case (nat_lt (host_len false auth) (length auth)) (is_empty (port_part auth)) scheme (port_part auth) refl port in
    record {
      host = written.parsed;
      port = p;
      parses = rw (
        rsplit_once_none 64 auth (has_none auth no_user),
        same_len false auth,
        is_empty_nonempty (host_part auth) (reachable_is_long (host_part auth) reached),
        kind,
        written.parses,
        digits,
      );
      text = written.text;
    }

-- ---- the rest

record Behind (scheme text shown : List ℕ) : Type 0 where
  url : Parts
  parses : after_double_slash scheme (skip_slashes (47 ∷ 47 ∷ text)) ≡ Ok url
  host : host_text (host_or_empty url) ≡ shown
  user : has_credentials url ≡ false
  scheme_is : url.scheme ≡ scheme

part_is_long : (auth : List ℕ) → 0 < length (host_part auth) → 0 < length auth
part_is_long [] h = h
part_is_long (b ∷ rest) h = omega arith

record HostIn (auth host : List ℕ) : Type 0 where
  user : has_byte 64 auth ≡ false
  reached : is_reachable (host_part auth) ≡ true
  port : is_port (port_part auth) ≡ true
  is : host_part auth ≡ host

host_in_case : (c d e : Bool) (part host : List ℕ) → (if not c && (d && e) then Some part else None) ≡ Some host
    → (c ≡ false) × (d ≡ true) × (e ≡ true) × (part ≡ host)
host_in_case true d e part host h = cc
host_in_case false true true part host h = (refl, refl, refl, cc h)
host_in_case false true false part host h = cc
host_in_case false false e part host h = cc

host_in_parts : (auth host : List ℕ) → host_in auth ≡ Some host → HostIn auth host
unfolding host_in
host_in_parts auth host h =
    let (user, reached, port, is) = host_in_case (has_byte 64 auth) (is_reachable (host_part auth)) (is_port (port_part auth)) (host_part auth) host h in
    record { user = user; reached = reached; port = port; is = is }

behind : (scheme text auth host : List ℕ) → scheme_type scheme ≡ SpecialNotFile → front is_bar text ≡ auth → host_in auth ≡ Some host
    → Behind scheme text (written_host (ipv6_in host) host)
unfolding after_double_slash
behind scheme text auth host kind cut found =
    let parts = host_in_parts auth host found in
    let known = authority scheme auth kind parts.user parts.reached parts.port in
    let long : 0 < length (front is_bar text) = rw cut (part_is_long auth (reachable_is_long (host_part auth) parts.reached)) in
    record {
      url = with_path (with_authority scheme [] [] known.host known.port) (parse_path_start SpecialNotFile [] (drop (segment_len SpecialNotFile text) text));
      parses = rw (skipped text long, kind, before_path text, cut, known.parses);
      host = known.text ∙ ap (λ (t : List ℕ). written_host (ipv6_in t) t) parts.is;
      user = rw percent_encode-nil;
      scheme_is = refl;
    }

-- ---- the whole

abbrev LeadsFrom : List ℕ → List ℕ → Type 0
LeadsFrom text shown = LeadsTo text shown

whole : (text scheme lower rest shown : List ℕ) → All IsAbove text → text ≡ scheme ++ 58 ∷ 47 ∷ 47 ∷ rest → list_any is_mark (scheme ++ 58 ∷ 47 ∷ 47 ∷ []) ≡ false
    → (split_scheme (scheme ++ 58 ∷ 47 ∷ 47 ∷ front is_mark rest) ≡ Some (scheme, 47 ∷ 47 ∷ front is_mark rest)) → lowercase scheme ≡ lower
    → scheme_type lower ≡ SpecialNotFile → Behind lower (front is_mark rest) shown → LeadsTo text shown
unfolding parse_url parse_parts parse_body
whole text scheme lower rest shown above spelled unmarked split low kind known =
    let clean : strip_tabs_and_new_lines (trim_c0_control_and_space text) ≡ text = ap strip_tabs_and_new_lines (untrimmed text above) ∙ unstripped text above in
    let front_is : front is_mark text ≡ scheme ++ 58 ∷ 47 ∷ 47 ∷ front is_mark rest =
    ap (front is_mark) (spelled ∙ sym (append_assoc scheme (58 ∷ 47 ∷ 47 ∷ []) rest)) ∙ front-append is_mark (scheme ++ 58 ∷ 47 ∷ 47 ∷ []) rest unmarked
    ∙ append_assoc scheme (58 ∷ 47 ∷ 47 ∷ []) (front is_mark rest) in
    let special : kind_of known.url ≡ SpecialNotFile = ap scheme_type known.scheme_is ∙ kind in
    let hash = split_once 35 text in
    let question = split_once 63 hash.0 in
    record {
      parts = standard.with_tail known.url question.1 hash.1;
      parses = rw (clean, before_marks text, front_is, split, low, kind, known.parses, special, special);
      host = known.host;
      user = known.user;
    }

-- ---- the scheme

record Scheme (text lower rest : List ℕ) : Type 0 where
  scheme : List ℕ
  spelled : text ≡ scheme ++ 58 ∷ 47 ∷ 47 ∷ rest
  unmarked : list_any is_mark (scheme ++ 58 ∷ 47 ∷ 47 ∷ []) ≡ false
  split : (more : List ℕ) → split_scheme (scheme ++ 58 ∷ more) ≡ Some (scheme, more)
  low : lowercase scheme ≡ lower

letter_from : (b c : ℕ) → to_ascii_lowercase b ≡ c → is_ascii_alphabetic c ≡ true → is_ascii_alphabetic b ≡ true
letter_from b c e h = grind (arith, nat_tests)

letter_in_scheme : (b : ℕ) → is_ascii_alphabetic b ≡ true → is_scheme_byte b ≡ true
letter_in_scheme b h = grind (arith, nat_tests)

letter_unmarked : (b : ℕ) → is_ascii_alphabetic b ≡ true → is_mark b ≡ false
unfolding is_mark
letter_unmarked b h = grind (arith, nat_tests)

colon_from : (b : ℕ) → to_ascii_lowercase b ≡ 58 → b ≡ 58
colon_from b e = grind (arith, nat_tests)

slash_from : (b : ℕ) → to_ascii_lowercase b ≡ 47 → b ≡ 47
slash_from b e = grind (arith, nat_tests)

abbrev IsLetter : ℕ → Type 0
IsLetter b = is_ascii_alphabetic b ≡ true

letters_in_scheme : (scheme : List ℕ) → All IsLetter scheme → All (Passes is_scheme_byte) scheme
letters_in_scheme scheme h = All-weaker IsLetter (Passes is_scheme_byte) letter_in_scheme scheme h

letters_unmarked : (scheme : List ℕ) → All IsLetter scheme → list_any is_mark (scheme ++ 58 ∷ 47 ∷ 47 ∷ []) ≡ false
unfolding is_mark
letters_unmarked [] h = refl
letters_unmarked (b ∷ rest) h =
    lacks_either (is_mark b) (list_any is_mark (rest ++ 58 ∷ 47 ∷ 47 ∷ [])) (letter_unmarked b (All-head IsLetter b rest h)) (letters_unmarked rest (All-tail IsLetter b rest h))

letters_split : (b : ℕ) (rest more : List ℕ) → All IsLetter (b ∷ rest) → split_scheme ((b ∷ rest) ++ 58 ∷ more) ≡ Some (b ∷ rest, more)
unfolding split_scheme scheme_len
letters_split b rest more h =
    let scheme : List ℕ = b ∷ rest in
    let first = All-head IsLetter b rest h in
    let len = prefix_len_at is_scheme_byte scheme (58 ∷ more) (letters_in_scheme scheme h) refl in
    let colon = get_or_at scheme 58 more 0 _ refl in
    let found : (nat_lt 0 (length scheme) && (get_or (scheme ++ 58 ∷ more) (length scheme) 0 == 58)) ≡ true = grind (arith, nat_tests) in
    let after = ap (drop (length scheme + 1)) (sym (append_assoc scheme (58 ∷ []) more)) ∙ drop_at (scheme ++ 58 ∷ []) more _ (length-append scheme (58 ∷ [])) in
    rw (first, len, found) (λ i. Some (take_at scheme (58 ∷ more) _ refl i, after i))

scheme_of : (b : ℕ) (rest tail lower : List ℕ) (x y z : ℕ) → All IsLetter (b ∷ rest) → lowercase (b ∷ rest) ≡ lower → x ≡ 58 → y ≡ 47 → z ≡ 47
    → Scheme ((b ∷ rest) ++ x ∷ y ∷ z ∷ tail) lower tail
scheme_of b rest tail lower x y z letters low ex ey ez = record {
  scheme = b ∷ rest;
  spelled = rw (ex, ey, ez);
  unmarked = letters_unmarked (b ∷ rest) letters;
  split = λ more. letters_split b rest more letters;
  low = low;
}

letters_from : (scheme lower : List ℕ) → lowercase scheme ≡ lower → All IsLetter lower → All IsLetter scheme
letters_from [] lower e h = All-nil IsLetter
letters_from (b ∷ rest) [] e h = cc
letters_from (b ∷ rest) (c ∷ more) e h =
    let here : to_ascii_lowercase b ≡ c = cc in
    let later : lowercase rest ≡ more = cc in
    All-cons IsLetter b rest (letter_from b c here (All-head IsLetter c more h)) (letters_from rest more later (All-tail IsLetter c more h))

four_letters : All IsLetter (codes "http")
four_letters = All_from_list_all is_ascii_alphabetic (codes "http") refl

five_letters : All IsLetter (codes "https")
five_letters = All_from_list_all is_ascii_alphabetic (codes "https") refl

http : (text : List ℕ) → lowercase (take 7 text) ≡ codes "http://" → Scheme text (codes "http") (drop 7 text)
http [] e = cc
http (a ∷ []) e = cc
http (a ∷ b ∷ []) e = cc
http (a ∷ b ∷ c ∷ []) e = cc
http (a ∷ b ∷ c ∷ d ∷ []) e = cc
http (a ∷ b ∷ c ∷ d ∷ x ∷ []) e = cc
http (a ∷ b ∷ c ∷ d ∷ x ∷ y ∷ []) e = cc
http (a ∷ b ∷ c ∷ d ∷ x ∷ y ∷ z ∷ tail) e =
    let low : lowercase (a ∷ b ∷ c ∷ d ∷ []) ≡ codes "http" = ap (take 4) e in
    let ex : to_ascii_lowercase x ≡ 58 = cc in
    let ey : to_ascii_lowercase y ≡ 47 = cc in
    let ez : to_ascii_lowercase z ≡ 47 = cc in
    scheme_of a (b ∷ c ∷ d ∷ []) tail (codes "http") x y z (letters_from (a ∷ b ∷ c ∷ d ∷ []) (codes "http") low four_letters) low (colon_from x ex) (slash_from y ey) (slash_from z ez)

https : (text : List ℕ) → lowercase (take 8 text) ≡ codes "https://" → Scheme text (codes "https") (drop 8 text)
https [] e = cc
https (a ∷ []) e = cc
https (a ∷ b ∷ []) e = cc
https (a ∷ b ∷ c ∷ []) e = cc
https (a ∷ b ∷ c ∷ d ∷ []) e = cc
https (a ∷ b ∷ c ∷ d ∷ s ∷ []) e = cc
https (a ∷ b ∷ c ∷ d ∷ s ∷ x ∷ []) e = cc
https (a ∷ b ∷ c ∷ d ∷ s ∷ x ∷ y ∷ []) e = cc
https (a ∷ b ∷ c ∷ d ∷ s ∷ x ∷ y ∷ z ∷ tail) e =
    let low : lowercase (a ∷ b ∷ c ∷ d ∷ s ∷ []) ≡ codes "https" = ap (take 5) e in
    let ex : to_ascii_lowercase x ≡ 58 = cc in
    let ey : to_ascii_lowercase y ≡ 47 = cc in
    let ez : to_ascii_lowercase z ≡ 47 = cc in
    scheme_of a (b ∷ c ∷ d ∷ s ∷ []) tail (codes "https") x y z (letters_from (a ∷ b ∷ c ∷ d ∷ s ∷ []) (codes "https") low five_letters) low (colon_from x ex) (slash_from y ey) (slash_from z ez)

-- ---- the laws

equal_bytes : (xs ys : List ℕ) → bytes_eq xs ys ≡ true → xs ≡ ys
equal_bytes xs ys h = (bytes_eq-Decides xs ys).0 h

leads : (text lower rest host : List ℕ) → All IsAbove text → Scheme text lower rest → scheme_type lower ≡ SpecialNotFile → host_in (authority_of rest) ≡ Some host
    → LeadsTo text (written_host (ipv6_in host) host)
leads text lower rest host above s kind found =
    whole text s.scheme lower rest (written_host (ipv6_in host) host) above s.spelled s.unmarked (s.split (47 ∷ 47 ∷ front is_mark rest)) s.low kind
    (behind lower (front is_mark rest) (authority_of rest) host kind (authority_before rest) found)

http_is_special : scheme_type (codes "http") ≡ SpecialNotFile
unfolding scheme_type default_port
http_is_special = refl

https_is_special : scheme_type (codes "https") ≡ SpecialNotFile
unfolding scheme_type default_port
https_is_special = refl

scheme_case : (c d : Bool) (text host : List ℕ) → begins_with (codes "https://") text ≡ c → begins_with (codes "http://") text ≡ d → All IsAbove text
    → host_behind (if c then Some (drop 8 text) else if d then Some (drop 7 text) else None) ≡ Some host → LeadsTo text (written_host (ipv6_in host) host)
scheme_case true d text host one other above found =
    let same = equal_bytes _ _ (and_right (nat_lt 8 (length text)) _ one) in
    leads text (codes "https") (drop 8 text) host above (https text same) https_is_special found
scheme_case false true text host one other above found =
    let same = equal_bytes _ _ (and_right (nat_lt 7 (length text)) _ other) in
    leads text (codes "http") (drop 7 text) host above (http text same) http_is_special found
scheme_case false false text host one other above found = cc

found_case : (c : Bool) (o : Option (List ℕ)) (host : List ℕ) → (if c then None else o) ≡ Some host → o ≡ Some host
found_case true o host h = cc
found_case false o host h = h

host_found : (url host : List ℕ) → host_of url ≡ Some host → host_behind (after_scheme url) ≡ Some host
unfolding host_of
host_found url host h = found_case (has_byte 92 url) (host_behind (after_scheme url)) host h

pub hosts_are_standard : HostsAreStandard
unfolding shown_host
hosts_are_standard url host above found =
    let known = scheme_case (begins_with (codes "https://") url) (begins_with (codes "http://") url) url host refl refl (All_from_list_all (λ b. nat_lt 32 b) url above) (host_found url host found) in
    subst (LeadsTo url) (ap shown_part (sym found)) known

visible_above : (xs : List ℕ) → list_all is_visible xs ≡ true → list_all (λ b. nat_lt 32 b) xs ≡ true
visible_above [] h = refl
visible_above (b ∷ rest) h =
    let visible = and_left (is_visible b) (list_all is_visible rest) h in
    let here : nat_lt 32 b ≡ true = grind (arith, nat_tests) in
    rw (here, visible_above rest (and_right (is_visible b) (list_all is_visible rest) h))

has_host : (o : Option (List ℕ)) → is_some o ≡ true → (x : List ℕ) × (o ≡ Some x)
has_host None h = cc
has_host (Some x) h = (x, refl)

pub links_are_standard : LinksAreStandard
links_are_standard url h =
    let rest = and_right (nat_le (length url) url_limit) (list_all is_visible url && is_some (host_of url)) h in
    let (host, found) = has_host (host_of url) (and_right (list_all is_visible url) (is_some (host_of url)) rest) in
    hosts_are_standard url host (visible_above url (and_left (list_all is_visible url) (is_some (host_of url)) rest)) found
