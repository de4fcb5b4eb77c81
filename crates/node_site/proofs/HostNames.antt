-- How the URL Standard parses the hosts that an address may have.
use Rattle.std.proofs.Common.{◌≡◌, ℕ, zero, suc, ◌-◌, ◌<◌, Bool, true, false, not, ◌&&◌, ◌||◌, ◌==◌, List, []}
use Rattle.std.proofs.Common.{◌∷◌, length, get_or, Option, Some, None, Ok, All, sym, refl, ap, ◌∙◌, subst, cond, arith, lit<}
use Rattle.std.specs.Prelude.{is_some, if◌then◌else◌, slice_range}
use Rattle.std.specs.List.{list_all, onto_first}
use Rattle.std.specs.Char.{is_ascii, is_ascii_alphanumeric, is_digit, is_ascii_digit, to_ascii_lowercase}
use Rattle.std.proofs.lemmas.Bool.{lt-ltb, ne_eqb, cond-true}
use Rattle.std.proofs.lemmas.Bool.Decides.{nat_tests}
use Rattle.std.proofs.lemmas.List.{length-map}
use Rattle.std.proofs.lemmas.List.Elements.{All-head, All-tail, All-weaker, All-map, All-cons, All-nil}
use Rattle.std.specs.Net.Grammar.{IsDotted}
use Rattle.std.specs.Net.Reader.{read_ipv4, read_ipv6, whole_value}
use Rattle.std.specs.Net.Text.{ipv4_text}
use Rattle.std.proofs.NetLemmas.Alphabet.{IsDigitOrDot, All-ipv4_text}
use Rattle.percent_encoding.specs.Percent.{IsKept, percent_decode}
use Rattle.percent_encoding.proofs.PercentLemmas.{percent_decode-nil, percent_decode_not_percent}
use Rattle.url.specs.declared.sets.TheConstants.{FORBIDDEN_DOMAIN}
use Rattle.url.specs.declared.host.Host.{Host}
use Rattle.url.specs.declared.host.Host.TheVariants.{Domain, Ipv4, Ipv6}
use Rattle.url.specs.Input.{is_empty, lowercase, rsplit_once, rsplit_step}
use Rattle.url.specs.Ipv4.{is_number, ends_in_a_number, last_label, last_label_of, parse_number}
use Rattle.url.specs.Host.{host_text, parse_special_host, parse_bracketed, ascii_domain, host_of_ascii, IsDomain}
use Rattle.url.proofs.InputLemmas.{IsNot, Passes, list_all_from_All, map_fixed, is_empty_nonempty}
use Rattle.url.proofs.SetLemmas.{kept_from_passes, All_kept_differs}
use Rattle.url.proofs.HostLemmas.{ascii_domain-kept}
use Rattle.url.proofs.SchemeLemmas.{lowercase-lowercase_all}
use Rattle.url.proofs.HostRoundTrip.{parse_special_host-host_text}
use Rattle.node_site.specs.Urls.{is_host, is_label, is_label_byte, parts_between}
use Rattle.node_site.specs.Hosts.{begins_with_letter, ends_named, ipv6_in, is_ipv4, is_name, is_reachable, written_host}
use Rattle.node_site.proofs.Addresses.{dotted_from_whole}
use Rattle.node_site.proofs.HostTexts.{and_left, and_right}

-- ---- the bytes of a name

is_name_byte : ℕ → Bool
is_name_byte b = is_ascii_alphanumeric b || (b == 45) || (b == 46)

abbrev IsNameByte : ℕ → Type 0
IsNameByte b = is_name_byte b ≡ true

label_byte : (b : ℕ) → is_label_byte b ≡ true → IsNameByte b
unfolding is_name_byte
label_byte b h = grind (arith, nat_tests)

dot_byte : (b : ℕ) → (b == 46) ≡ true → IsNameByte b
unfolding is_name_byte
dot_byte b h = grind (arith, nat_tests)

abbrev are_plain : List (List ℕ) → Bool
are_plain parts = list_all (λ part. list_all is_label_byte part) parts

label_is_plain : (label : List ℕ) → is_label label ≡ true → list_all is_label_byte label ≡ true
label_is_plain label h = and_right _ (list_all is_label_byte label) (and_left _ _ h)

labels_are_plain : (labels : List (List ℕ)) → list_all is_label labels ≡ true → are_plain labels ≡ true
labels_are_plain [] h = refl
labels_are_plain (label ∷ more) h =
    rw (label_is_plain label (and_left (is_label label) (list_all is_label more) h), labels_are_plain more (and_right (is_label label) (list_all is_label more) h))

first_is_plain : (x : ℕ) (parts : List (List ℕ)) → are_plain (onto_first x parts) ≡ true → (is_label_byte x ≡ true) × (are_plain parts ≡ true)
first_is_plain x [] h = (and_left (is_label_byte x) true (and_left (is_label_byte x && true) true h), refl)
first_is_plain x (part ∷ parts) h =
    let here = and_left (is_label_byte x && list_all is_label_byte part) (are_plain parts) h in
    let more = and_right (is_label_byte x && list_all is_label_byte part) (are_plain parts) h in
    (and_left (is_label_byte x) (list_all is_label_byte part) here, rw (and_right (is_label_byte x) (list_all is_label_byte part) here, more))

split_case : (c : Bool) (x : ℕ) (parts : List (List ℕ)) → (x == 46) ≡ c → are_plain (cond c ([] ∷ parts) (onto_first x parts)) ≡ true
    → IsNameByte x × (are_plain parts ≡ true)
split_case true x parts e h = (dot_byte x e, h)
split_case false x parts e h = let (here, more) = first_is_plain x parts h in (label_byte x here, more)

name_bytes : (xs : List ℕ) → are_plain (parts_between 46 xs) ≡ true → All IsNameByte xs
name_bytes [] h = All-nil IsNameByte
name_bytes (x ∷ xs) h =
    let (here, more) = split_case (x == 46) x (parts_between 46 xs) refl h in
    All-cons IsNameByte x xs here (name_bytes xs more)

host_bytes : (host : List ℕ) → is_host host ≡ true → All IsNameByte host
host_bytes host h = name_bytes host (labels_are_plain (parts_between 46 host) (and_right _ (list_all is_label (parts_between 46 host)) h))

host_is_long : (host : List ℕ) → is_host host ≡ true → 0 < length host
host_is_long [] h = cc
host_is_long (b ∷ rest) h = omega arith

-- ---- names that are not numbers

begins_lower : (text : List ℕ) → begins_with_letter text ≡ true → begins_with_letter (lowercase text) ≡ true
begins_lower [] h = h
begins_lower (b ∷ rest) h = grind (arith, nat_tests)

-- what is behind the last dot begins with a letter, or the whole text if it has no dot
abbrev LastNamed : Bool → List ℕ → Option (List ℕ) → List ℕ → Type 0
LastNamed named text None last = (named ≡ true) × (last ≡ text)
LastNamed named text (Some front) last = begins_with_letter last ≡ true

after_dot : (text : List ℕ) (b : ℕ) (o : Option (List ℕ)) (last : List ℕ) (named named' : Bool) (whole : List ℕ)
    → (named' ≡ true → begins_with_letter text ≡ true) → (b == 46) ≡ true → LastNamed named' text o last
    → LastNamed named whole (rsplit_step 46 b o last).0 (rsplit_step 46 b o last).1
after_dot text b None last named named' whole letter dot (is, same) = rw dot (subst (λ t. begins_with_letter t ≡ true) (sym same) (letter is))
after_dot text b (Some front) last named named' whole letter dot h = h

after_other : (text : List ℕ) (b : ℕ) (o : Option (List ℕ)) (last : List ℕ) (named : Bool) → (b == 46) ≡ false → LastNamed named text o last
    → LastNamed named (b ∷ text) (rsplit_step 46 b o last).0 (rsplit_step 46 b o last).1
after_other text b None last named other (is, same) = rw other (is, ap (λ (t : List ℕ). b ∷ t) same)
after_other text b (Some front) last named other h = h

lower_dot : (b : ℕ) (c : Bool) → (b == 46) ≡ c → (to_ascii_lowercase b == 46) ≡ c
lower_dot b true e = grind (arith, nat_tests)
lower_dot b false e = grind (arith, nat_tests)

named_case : (c : Bool) (named : Bool) (b : ℕ) (rest : List ℕ) → (b == 46) ≡ c
    → (if c then ends_named (begins_with_letter rest) rest else ends_named named rest) ≡ true
    → ((n : Bool) → ends_named n rest ≡ true → LastNamed n (lowercase rest) (rsplit_once 46 (lowercase rest)).0 (rsplit_once 46 (lowercase rest)).1)
    → LastNamed named (to_ascii_lowercase b ∷ lowercase rest)
    (rsplit_step 46 (to_ascii_lowercase b) (rsplit_once 46 (lowercase rest)).0 (rsplit_once 46 (lowercase rest)).1).0
    (rsplit_step 46 (to_ascii_lowercase b) (rsplit_once 46 (lowercase rest)).0 (rsplit_once 46 (lowercase rest)).1).1
named_case true named b rest e h later =
    after_dot (lowercase rest) (to_ascii_lowercase b) (rsplit_once 46 (lowercase rest)).0 (rsplit_once 46 (lowercase rest)).1 named (begins_with_letter rest)
    (to_ascii_lowercase b ∷ lowercase rest) (begins_lower rest) (lower_dot b true e) (later (begins_with_letter rest) h)
named_case false named b rest e h later =
    after_other (lowercase rest) (to_ascii_lowercase b) (rsplit_once 46 (lowercase rest)).0 (rsplit_once 46 (lowercase rest)).1 named (lower_dot b false e) (later named h)

last_named : (named : Bool) (text : List ℕ) → ends_named named text ≡ true
    → LastNamed named (lowercase text) (rsplit_once 46 (lowercase text)).0 (rsplit_once 46 (lowercase text)).1
unfolding rsplit_once
last_named named [] h = (h, refl)
last_named named (b ∷ rest) h = named_case (b == 46) named b rest refl h (λ n. last_named n rest)

not_empty : (text : List ℕ) → begins_with_letter text ≡ true → is_empty text ≡ false
not_empty [] h = cc
not_empty (b ∷ rest) h = is_empty_nonempty (b ∷ rest) (omega arith)

of_last : (named : Bool) (text : List ℕ) (o : Option (List ℕ)) (last : List ℕ) → (named ≡ true → begins_with_letter text ≡ true) → LastNamed named text o last
    → begins_with_letter (last_label_of o last) ≡ true
of_last named text None last letter (is, same) = subst (λ t. begins_with_letter t ≡ true) (sym same) (letter is)
of_last named text (Some front) last letter h = rw (not_empty last h) h

no_number : (last : List ℕ) → begins_with_letter last ≡ true
    → ((not (is_empty last) && list_all is_ascii_digit last) || is_number (parse_number last)) ≡ false
unfolding parse_number
no_number [] h = cc
no_number (b ∷ rest) h =
    let digit : is_ascii_digit b ≡ false = grind (arith, nat_tests) in
    let zero_digit : (b == 48) ≡ false = grind (arith, nat_tests) in
    let ten : is_digit b 10 ≡ false = grind (arith, nat_tests) in
    rw (is_empty_nonempty (b ∷ rest) (omega arith), digit, zero_digit, ten)

name_is_no_number : (host : List ℕ) → is_name host ≡ true → ends_in_a_number (lowercase host) ≡ false
unfolding ends_in_a_number
name_is_no_number host h =
    no_number (last_label (lowercase host))
    (of_last (begins_with_letter host) (lowercase host) _ _ (begins_lower host) (last_named (begins_with_letter host) host h))

-- ---- names

decoded_same : (xs : List ℕ) → All (IsNot 37) xs → percent_decode xs ≡ xs
decoded_same [] h = percent_decode-nil
decoded_same (x ∷ xs) h =
    percent_decode_not_percent x xs (All-head (IsNot 37) x xs h) ∙ ap (λ t. x ∷ t) (decoded_same xs (All-tail (IsNot 37) x xs h))

no_bracket : (xs : List ℕ) → All (IsNot 91) xs → (get_or xs 0 0 == 91) ≡ false
no_bracket [] h = refl
no_bracket (x ∷ xs) h = ne_eqb x 91 (All-head (IsNot 91) x xs h)

name_byte_ascii : (b : ℕ) → IsNameByte b → b < 128
unfolding is_name_byte
name_byte_ascii b h = grind (arith, nat_tests)

lower_name_byte : (b : ℕ) → IsNameByte b → IsNameByte (to_ascii_lowercase b)
unfolding is_name_byte
lower_name_byte b h = grind (arith, nat_tests)

name_byte_kept : (b : ℕ) → IsNameByte b → IsKept FORBIDDEN_DOMAIN b
unfolding is_name_byte
name_byte_kept b h = kept_from_passes is_name_byte FORBIDDEN_DOMAIN refl b (name_byte_ascii b h) h

plain_parse : (d e : List ℕ) → All (IsKept FORBIDDEN_DOMAIN) d → ascii_domain d ≡ Some e → parse_special_host d ≡ host_of_ascii (Some e)
unfolding parse_special_host
plain_parse d e kept ascii =
    rw (no_bracket d (All_kept_differs FORBIDDEN_DOMAIN 91 refl d kept), decoded_same d (All_kept_differs FORBIDDEN_DOMAIN 37 refl d kept), ascii)

name_in_ascii : (host : List ℕ) → All IsNameByte host → ascii_domain host ≡ Some (lowercase host)
unfolding ascii_domain
name_in_ascii host bytes =
    cond-true _ _ _ (list_all_from_All is_ascii host (All-weaker IsNameByte (Passes is_ascii) (λ b h. lt-ltb b 128 (name_byte_ascii b h)) host bytes))

-- the standard parses the host, and writes it so
pub record IsWritten (host shown : List ℕ) : Type 0 where
  pub parsed : Host (List ℕ)
  pub parses : parse_special_host host ≡ Ok parsed
  pub text : host_text parsed ≡ shown

name_written : (host : List ℕ) → is_host host ≡ true → is_name host ≡ true → IsWritten host (lowercase host)
name_written host h name =
    let bytes = host_bytes host h in
    let kept = All-weaker IsNameByte (IsKept FORBIDDEN_DOMAIN) name_byte_kept host bytes in
    let low : All (IsKept FORBIDDEN_DOMAIN) (lowercase host) =
    All-map (IsKept FORBIDDEN_DOMAIN) to_ascii_lowercase host
    (All-weaker IsNameByte (λ b. IsKept FORBIDDEN_DOMAIN (to_ascii_lowercase b)) (λ b k. name_byte_kept _ (lower_name_byte b k)) host bytes) in
    let same = lowercase-lowercase_all host in
    let long : 0 < length (lowercase host) = simp length-map (host_is_long host h) in
    let domain : IsDomain (lowercase host) = record { allowed = low; lower = same; named = name_is_no_number host name } in
    record {
      parsed = Domain (lowercase host);
      parses =
          plain_parse host (lowercase host) kept (name_in_ascii host bytes)
          ∙ sym (plain_parse (lowercase host) (lowercase host) low (ascii_domain-kept (lowercase host) low same))
          ∙ parse_special_host-host_text (Domain (lowercase host)) (domain, long);
      text = refl;
    }

-- ---- addresses

within : (a b c d : ℕ) → a < 256 → b < 256 → c < 256 → d < 256 → (k : ℕ) → get_or (a ∷ b ∷ c ∷ d ∷ []) k 0 < 256
within a b c d ha hb hc hd zero = ha
within a b c d ha hb hc hd (suc zero) = hb
within a b c d ha hb hc hd (suc (suc zero)) = hc
within a b c d ha hb hc hd (suc (suc (suc zero))) = hd
within a b c d ha hb hc hd (suc (suc (suc (suc k)))) = lit< tt

dotted_written : (host octets : List ℕ) → IsDotted host octets → IsWritten host (lowercase host)
dotted_written host octets d =
    let o = d.a ∷ d.b ∷ d.c ∷ d.d ∷ [] in
    let bounded = within d.a d.b d.c d.d d.fit.0 d.fit.1 d.fit.2 d.fit.3 in
    let back = parse_special_host-host_text (Ipv4 (record { octets = o })) (refl, bounded) in
    let digits = All-ipv4_text o bounded in
    let low : lowercase (ipv4_text o) ≡ ipv4_text o =
    map_fixed to_ascii_lowercase (ipv4_text o) (All-weaker IsDigitOrDot (λ b. to_ascii_lowercase b ≡ b) (λ b k. grind (arith, nat_tests)) (ipv4_text o) digits) in
    record {
      parsed = Ipv4 (record { octets = o });
      parses = ap parse_special_host d.spelled ∙ back;
      text = sym low ∙ ap lowercase (sym d.spelled);
    }

opened_case : (c d : Bool) (o : Option (List ℕ)) (segments : List ℕ) → (if c && d then o else None) ≡ Some segments
    → (c ≡ true) × (d ≡ true) × (o ≡ Some segments)
opened_case true true o segments e = (refl, refl, e)
opened_case true false o segments e = cc
opened_case false d o segments e = cc

bracketed_parses : (host segments : List ℕ) → (get_or host 0 0 == 91) ≡ true → (get_or host (length host - 1) 0 == 93) ≡ true
    → whole_value (read_ipv6 (slice_range host 1 (length host - 1))) ≡ Some segments → parse_special_host host ≡ Ok (Ipv6 (record { segments = segments }))
unfolding parse_special_host parse_bracketed
bracketed_parses host segments opened closed whole = rw (opened, closed, whole)

bracketed_written : (host segments : List ℕ) → ipv6_in host ≡ Some segments → IsWritten host (written_host (Some segments) host)
bracketed_written host segments e =
    let (opened, closed, whole) = opened_case (get_or host 0 0 == 91) (get_or host (length host - 1) 0 == 93) (whole_value (read_ipv6 (slice_range host 1 (length host - 1)))) segments e in
    record {
      parsed = Ipv6 (record { segments = segments });
      parses = bracketed_parses host segments opened closed whole;
      text = refl;
    }

some_of : (o : Option (List ℕ)) → is_some o ≡ true → (x : List ℕ) × (o ≡ Some x)
some_of None h = cc
some_of (Some x) h = (x, refl)

named_or_dotted : (host : List ℕ) (c : Bool) → is_host host ≡ true → is_name host ≡ c → (c || is_ipv4 host) ≡ true → IsWritten host (lowercase host)
named_or_dotted host true h name either = name_written host h name
named_or_dotted host false h name either =
    let (octets, whole) = some_of (whole_value (read_ipv4 host)) either in
    dotted_written host octets (dotted_from_whole host octets whole)

host_written : (host : List ℕ) (o : Option (List ℕ)) → ipv6_in host ≡ o → (is_some o || (is_host host && (is_name host || is_ipv4 host))) ≡ true
    → IsWritten host (written_host o host)
host_written host (Some segments) e h = bracketed_written host segments e
host_written host None e h =
    named_or_dotted host (is_name host) (and_left (is_host host) (is_name host || is_ipv4 host) h) refl
    (and_right (is_host host) (is_name host || is_ipv4 host) h)

pub reachable_written : (host : List ℕ) → is_reachable host ≡ true → IsWritten host (written_host (ipv6_in host) host)
unfolding is_reachable
reachable_written host h = host_written host (ipv6_in host) refl h

bracketed_is_long : (host segments : List ℕ) → ipv6_in host ≡ Some segments → 0 < length host
bracketed_is_long [] segments e = cc
bracketed_is_long (b ∷ rest) segments e = omega arith

long_case : (host : List ℕ) (o : Option (List ℕ)) → ipv6_in host ≡ o → (is_some o || (is_host host && (is_name host || is_ipv4 host))) ≡ true → 0 < length host
long_case host (Some segments) e h = bracketed_is_long host segments e
long_case host None e h = host_is_long host (and_left (is_host host) (is_name host || is_ipv4 host) h)

pub reachable_is_long : (host : List ℕ) → is_reachable host ≡ true → 0 < length host
unfolding is_reachable
reachable_is_long host h = long_case host (ipv6_in host) refl h
