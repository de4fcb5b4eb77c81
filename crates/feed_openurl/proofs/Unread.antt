-- A pair whose key nobody reads, and keys that may name people.
use Rattle.std.proofs.Common.{◌≡◌, ℕ, Bool, true, false, ◌||◌, ◌&&◌, List, [], ◌∷◌, ◌++◌, map, take, drop, length, Option, Some, None, if◌then◌else◌, codes, refl, sym, ap, ◌∙◌}
use Rattle.std.specs.Prelude.{is_some, nat_le, not, option_map}
use Rattle.std.specs.Char.{to_ascii_lowercase}
use Rattle.std.specs.List.{cons_option, filter_map, flat_map, list_any}
use Rattle.std.specs.Str.{bytes_eq}
use Rattle.std.proofs.lemmas.List.{length-map, take-map}
use Rattle.std.proofs.lemmas.Slice.Eq.{bytes_eq-Decides}
use Rattle.feed_identifiers.specs.Isbn.{isbn_of}
use Rattle.feed_identifiers.specs.Issn.{issn_of}
use Rattle.feed_bytes.specs.Trim.{trimmed}
use Rattle.feed_answer.specs.Pairs.{book_format, first, has_key, identifier_of_pair, issn_of_urn, journal_format}
use Rattle.feed_openurl.specs.Citations.{named, named_after, part_of}
use Rattle.feed_citation.specs.declared.citation_part.CitationPart.{CitationPart}
use Rattle.feed_openurl.specs.Core.{core_date, core_volume, date_of_pair, volume_of_pair}
use Rattle.feed_openurl.specs.Dropped.{is_dropped, is_other}
use Rattle.feed_openurl.specs.Identifiers.{IdentifiersValue, LookedUp, are_none, identifiers_among, identifiers_of, looked_up, number_or_others, number_text}
use Rattle.feed_openurl.specs.Identifiers.{numbers_in_text, numbers_of_pair, reason_without, refused, within_limit}
use Rattle.feed_openurl.specs.Keys.{after_prefix, envelope_key, is_name, key_of, key_with, keyed, mended, or_text}
use Rattle.feed_openurl.specs.Kinds.{names_format, names_other_format, names_other_version}
use Rattle.feed_openurl.specs.Laws.{DroppedIsUnread, PeopleAreDropped, names_people}
use Rattle.feed_openurl.specs.Texts.{date_text_of, volume_text_of}
use Rattle.feed_openurl.specs.Tiers.{date_in, date_of, lenient_date_of, lenient_volume_of, strict_date_of, strict_volume_of, volume_in, volume_of}
use Rattle.feed_openurl.specs.Values.{OpenUrlValue, understood_pairs, with_dates}
use Rattle.feed_openurl.specs.declared.fault.OpenUrlFault.{OpenUrlFault}
use Rattle.feed_openurl.specs.declared.fault.OpenUrlFault.TheVariants as reason
use Rattle.feed_openurl.specs.declared.key.Key.{Key}
use Rattle.feed_openurl.specs.declared.key.Key.TheVariants as key
use Rattle.feed_openurl.specs.declared.key.Tier.{Tier}
use Rattle.feed_openurl.specs.declared.key.Tier.TheVariants.{Old, Rft}
use Rattle.feed_identifiers.specs.declared.identifier.Identifier.{Identifier}
use Rattle.feed_identifiers.specs.declared.identifier.Identifier.TheVariants.{Isbn, Issn}
use Rattle.feed_openurl.proofs.Swapped.{Pair}

-- what reads nothing of a pair reads the same without it
passed : {A : Type 0} (read : Pair → Option A) (pair : Pair) (before after : List Pair) → read pair ≡ None
    → filter_map read (before ++ pair ∷ after) ≡ filter_map read (before ++ after)
passed read pair [] after none = ap (λ o. cons_option o (filter_map read after)) none
passed read pair (other ∷ before) after none = ap (cons_option (read other)) (passed read pair before after none)

value_passed : {A : Type 0} (read : Key × List ℕ → Option A) (pair : Pair) (before after : List Pair) → read (keyed pair) ≡ None
    → filter_map read (map keyed (before ++ pair ∷ after)) ≡ filter_map read (map keyed (before ++ after))
value_passed read pair [] after none = ap (λ o. cons_option o (filter_map read (map keyed after))) none
value_passed read pair (other ∷ before) after none = ap (cons_option (read (keyed other))) (value_passed read pair before after none)

any_passed : (p : Key × List ℕ → Bool) (pair : Pair) (before after : List Pair) → p (keyed pair) ≡ false
    → list_any p (map keyed (before ++ pair ∷ after)) ≡ list_any p (map keyed (before ++ after))
any_passed p pair [] after none = ap (λ b. b || list_any p (map keyed after)) none
any_passed p pair (other ∷ before) after none = ap (λ b. p (keyed other) || b) (any_passed p pair before after none)

numbers_passed : (pair : Pair) (before after : List Pair) → numbers_of_pair pair ≡ []
    → flat_map numbers_of_pair (before ++ pair ∷ after) ≡ flat_map numbers_of_pair (before ++ after)
numbers_passed pair [] after none = ap (λ l. l ++ flat_map numbers_of_pair after) none
numbers_passed pair (other ∷ before) after none = ap (λ l. numbers_of_pair other ++ l) (numbers_passed pair before after none)

module _ (pair : Pair) (unread : key_of pair.0 ≡ key.Other) where
  keyed_other : keyed pair ≡ (key.Other, pair.1)
  keyed_other = ap (λ (k : Key). (k, pair.1)) unread

  -- no key that is read is this one
  no_key : (name : List ℕ) → is_other (key_of name) ≡ false → has_key name pair ≡ false
  no_key name read = by (has_key name pair) refl
    where
      by : (b : Bool) → has_key name pair ≡ b → b ≡ false
      by false e = refl
      by true e =
          let is : pair.0 ≡ name = (bytes_eq-Decides pair.0 name).0 e in
          let other : is_other (key_of name) ≡ true = ap is_other (ap key_of (sym is) ∙ unread) in
          absurd (cc)

  no_identifier : identifier_of_pair pair ≡ None
  no_identifier =
      let isbn = if has_key (codes "rft.isbn") pair then option_map Isbn (isbn_of pair.1) else None in
      let named = if has_key (codes "rft_id") pair then option_map Issn (issn_of_urn pair.1) else isbn in
      ap (λ b. if b || has_key (codes "rft.eissn") pair then option_map Issn (issn_of pair.1) else named) (no_key (codes "rft.issn") refl)
      ∙ ap (λ b. if b then option_map Issn (issn_of pair.1) else named) (no_key (codes "rft.eissn") refl)
      ∙ ap (λ b. if b then option_map Issn (issn_of_urn pair.1) else isbn) (no_key (codes "rft_id") refl)
      ∙ ap (λ b. if b then option_map Isbn (isbn_of pair.1) else None) (no_key (codes "rft.isbn") refl)

  no_numbers : numbers_of_pair pair ≡ []
  unfolding numbers_of_pair
  no_numbers =
      ap (λ (o : Option Identifier). number_or_others o (numbers_in_text (number_text (keyed pair)))) no_identifier
      ∙ ap (λ (v : Key × List ℕ). numbers_in_text (number_text v)) keyed_other

  module _ (before after : List Pair) where
    abbrev all : List Pair
    all = before ++ pair ∷ after

    abbrev rest : List Pair
    rest = before ++ after

    any_same : (p : Key × List ℕ → Bool) → p (key.Other, pair.1) ≡ false → list_any p (map keyed all) ≡ list_any p (map keyed rest)
    any_same p none = any_passed p pair before after (ap p keyed_other ∙ none)

    reason_same : reason_without (map keyed all) ≡ reason_without (map keyed rest)
    reason_same =
        let reason_of = λ (version other journal book : Bool). if version then reason.Version else if other then reason.OtherFormat
        else (if book && not journal then reason.NoIsbn else reason.NoIssn) in
        let other = list_any names_other_format (map keyed all) in
        let journal = list_any (names_format journal_format) (map keyed all) in
        let book = list_any (names_format book_format) (map keyed all) in
        ap (λ b. reason_of b other journal book) (any_same names_other_version refl)
        ∙ ap (λ b. reason_of (list_any names_other_version (map keyed rest)) b journal book) (any_same names_other_format refl)
        ∙ ap (λ b. reason_of (list_any names_other_version (map keyed rest)) (list_any names_other_format (map keyed rest)) b book) (any_same (names_format journal_format) refl)
        ∙ ap (λ b. reason_of (list_any names_other_version (map keyed rest)) (list_any names_other_format (map keyed rest)) (list_any (names_format journal_format) (map keyed rest)) b)
        (any_same (names_format book_format) refl)

    looked_same : looked_up all ≡ looked_up rest
    looked_same =
        ap (λ (f : List Identifier). if are_none (identifiers_among f) then refused (reason_without (map keyed all)) else within_limit (identifiers_among f))
        (numbers_passed pair before after no_numbers)
        ∙ ap (λ (r : OpenUrlFault). if are_none (identifiers_of rest) then refused r else within_limit (identifiers_of rest)) reason_same

    first_same : (read : Key × List ℕ → Option (List ℕ)) → read (key.Other, pair.1) ≡ None
        → first (filter_map read (map keyed all)) ≡ first (filter_map read (map keyed rest))
    first_same read none = ap first (value_passed read pair before after (ap read keyed_other ∙ none))

    date_same : (tier : Tier) → date_in tier (map keyed all) ≡ date_in tier (map keyed rest)
    date_same tier =
        ap (λ o. or_text o (first (filter_map (lenient_date_of tier) (map keyed all)))) (first_same (strict_date_of tier) refl)
        ∙ ap (or_text (first (filter_map (strict_date_of tier) (map keyed rest)))) (first_same (lenient_date_of tier) refl)

    volume_same : (tier : Tier) → volume_in tier (map keyed all) ≡ volume_in tier (map keyed rest)
    volume_same tier =
        ap (λ o. or_text o (first (filter_map (lenient_volume_of tier) (map keyed all)))) (first_same (strict_volume_of tier) refl)
        ∙ ap (or_text (first (filter_map (strict_volume_of tier) (map keyed rest)))) (first_same (lenient_volume_of tier) refl)

    core_date_same : core_date all ≡ core_date rest
    core_date_same =
        ap first (passed date_of_pair pair before after (ap (λ b. if b then date_text_of (trimmed pair.1) else None) (no_key (codes "rft.date") refl)))

    core_volume_same : core_volume all ≡ core_volume rest
    core_volume_same =
        ap first (passed volume_of_pair pair before after (ap (λ b. if b then volume_text_of (trimmed pair.1) else None) (no_key (codes "rft.volume") refl)))

    dates_same : date_of all ≡ date_of rest
    dates_same =
        ap (λ o. or_text o (or_text (date_in Rft (map keyed all)) (date_in Old (map keyed all)))) core_date_same
        ∙ ap (λ o. or_text (core_date rest) (or_text o (date_in Old (map keyed all)))) (date_same Rft)
        ∙ ap (λ o. or_text (core_date rest) (or_text (date_in Rft (map keyed rest)) o)) (date_same Old)

    volumes_same : volume_of all ≡ volume_of rest
    volumes_same =
        ap (λ o. or_text o (or_text (volume_in Rft (map keyed all)) (volume_in Old (map keyed all)))) core_volume_same
        ∙ ap (λ o. or_text (core_volume rest) (or_text o (volume_in Old (map keyed all)))) (volume_same Rft)
        ∙ ap (λ o. or_text (core_volume rest) (or_text (volume_in Rft (map keyed rest)) o)) (volume_same Old)

    understood_same : understood_pairs all ≡ understood_pairs rest
    understood_same =
        ap (λ (l : LookedUp). with_dates l (date_of all) (volume_of all)) looked_same
        ∙ ap (λ (d : Option (List ℕ)). with_dates (looked_up rest) d (volume_of all)) dates_same
        ∙ ap (λ (v : Option (List ℕ)). with_dates (looked_up rest) (date_of rest) v) volumes_same

-- a key that nobody reads asks for nothing
other_of : (k : Key) (b : Bool) → (is_other k && b) ≡ true → k ≡ key.Other
other_of key.Other b h = refl
other_of key.Version b h = absurd (let u : false ≡ true = h in cc)
other_of key.Format b h = absurd (let u : false ≡ true = h in cc)
other_of key.Number b h = absurd (let u : false ≡ true = h in cc)
other_of (key.Name tier) b h = absurd (let u : false ≡ true = h in cc)
other_of (key.Date tier) b h = absurd (let u : false ≡ true = h in cc)
other_of (key.Volume tier) b h = absurd (let u : false ≡ true = h in cc)

pub dropped_unread : DroppedIsUnread
dropped_unread name value dropped before after =
    understood_same (name, value) (other_of (key_of name) (not (is_some (part_of name))) dropped) before after

-- a key that may name people: what is tested of it is its letters in lower case
lower_same : (key name : List ℕ) → is_name key name ≡ true → map to_ascii_lowercase key ≡ map to_ascii_lowercase name
lower_same key name h = (bytes_eq-Decides (map to_ascii_lowercase key) (map to_ascii_lowercase name)).0 h

abbrev rft : List ℕ
rft = codes "rft."

no_rft : (m : List ℕ) (c : List ℕ) → map to_ascii_lowercase m ≡ c
    → (nat_le 4 (length c) && bytes_eq (take 4 c) (map to_ascii_lowercase rft)) ≡ false → after_prefix rft m ≡ None
no_rft m c e apart =
    let long : length m ≡ length c = sym (length-map m to_ascii_lowercase) ∙ ap length e in
    let front : map to_ascii_lowercase (take 4 m) ≡ take 4 c = sym (take-map to_ascii_lowercase 4 m) ∙ ap (take 4) e in
    let test : (nat_le 4 (length m) && is_name (take 4 m) rft) ≡ false =
    ap (λ (n : ℕ). nat_le 4 n && is_name (take 4 m) rft) long
    ∙ ap (λ (l : List ℕ). nat_le 4 (length c) && bytes_eq l (map to_ascii_lowercase rft)) front ∙ apart in
    ap (λ (b : Bool). if b then Some (drop 4 m) else None) test

dropped_if : (name c : List ℕ) → map to_ascii_lowercase (mended name) ≡ c → (nat_le 4 (length c) && bytes_eq (take 4 c) (map to_ascii_lowercase rft)) ≡ false
    → envelope_key (mended name) ≡ key.Other → named Old (mended name) ≡ None → is_dropped name ≡ true
dropped_if name c e apart other none =
    let m = mended name in
    let asks : key_of name ≡ key.Other = ap (λ (o : Option (List ℕ)). key_with o m) (no_rft m c e apart) ∙ other in
    let cites : part_of name ≡ None = ap (λ (o : Option (List ℕ)). named_after o m) (no_rft m c e apart) ∙ none in
    ap (λ (k : Key). is_other k && not (is_some (part_of name))) asks ∙ ap (λ (o : Option (CitationPart × ℕ)). not (is_some o)) cites

either : {P : Type 0} (a b : Bool) → (a ≡ true → P) → (b ≡ true → P) → (a || b) ≡ true → P
either true b first second h = first refl
either false b first second h = second h

is_pid : (name : List ℕ) → is_name (mended name) (codes "pid") ≡ true → is_dropped name ≡ true
is_pid name h =
    let e : map to_ascii_lowercase (mended name) ≡ codes "pid" = lower_same (mended name) (codes "pid") h in
    dropped_if name (codes "pid") e refl (rw e refl) (rw e refl)

is_req_id : (name : List ℕ) → is_name (mended name) (codes "req_id") ≡ true → is_dropped name ≡ true
is_req_id name h =
    let e : map to_ascii_lowercase (mended name) ≡ codes "req_id" = lower_same (mended name) (codes "req_id") h in
    dropped_if name (codes "req_id") e refl (rw e refl) (rw e refl)

is_req_ref : (name : List ℕ) → is_name (mended name) (codes "req_ref") ≡ true → is_dropped name ≡ true
is_req_ref name h =
    let e : map to_ascii_lowercase (mended name) ≡ codes "req_ref" = lower_same (mended name) (codes "req_ref") h in
    dropped_if name (codes "req_ref") e refl (rw e refl) (rw e refl)

is_req_ref_fmt : (name : List ℕ) → is_name (mended name) (codes "req_ref_fmt") ≡ true → is_dropped name ≡ true
is_req_ref_fmt name h =
    let e : map to_ascii_lowercase (mended name) ≡ codes "req_ref_fmt" = lower_same (mended name) (codes "req_ref_fmt") h in
    dropped_if name (codes "req_ref_fmt") e refl (rw e refl) (rw e refl)

is_req_val_fmt : (name : List ℕ) → is_name (mended name) (codes "req_val_fmt") ≡ true → is_dropped name ≡ true
is_req_val_fmt name h =
    let e : map to_ascii_lowercase (mended name) ≡ codes "req_val_fmt" = lower_same (mended name) (codes "req_val_fmt") h in
    dropped_if name (codes "req_val_fmt") e refl (rw e refl) (rw e refl)

is_req_dat : (name : List ℕ) → is_name (mended name) (codes "req_dat") ≡ true → is_dropped name ≡ true
is_req_dat name h =
    let e : map to_ascii_lowercase (mended name) ≡ codes "req_dat" = lower_same (mended name) (codes "req_dat") h in
    dropped_if name (codes "req_dat") e refl (rw e refl) (rw e refl)

is_rft_dat : (name : List ℕ) → is_name (mended name) (codes "rft_dat") ≡ true → is_dropped name ≡ true
is_rft_dat name h =
    let e : map to_ascii_lowercase (mended name) ≡ codes "rft_dat" = lower_same (mended name) (codes "rft_dat") h in
    dropped_if name (codes "rft_dat") e refl (rw e refl) (rw e refl)

is_rfe_dat : (name : List ℕ) → is_name (mended name) (codes "rfe_dat") ≡ true → is_dropped name ≡ true
is_rfe_dat name h =
    let e : map to_ascii_lowercase (mended name) ≡ codes "rfe_dat" = lower_same (mended name) (codes "rfe_dat") h in
    dropped_if name (codes "rfe_dat") e refl (rw e refl) (rw e refl)

pub people_dropped : PeopleAreDropped
people_dropped name h =
    either (is_name (mended name) (codes "pid")) _ (is_pid name)
    (either (is_name (mended name) (codes "req_id")) _ (is_req_id name)
    (either (is_name (mended name) (codes "req_ref")) _ (is_req_ref name)
    (either (is_name (mended name) (codes "req_ref_fmt")) _ (is_req_ref_fmt name)
    (either (is_name (mended name) (codes "req_val_fmt")) _ (is_req_val_fmt name)
    (either (is_name (mended name) (codes "req_dat")) _ (is_req_dat name)
    (either (is_name (mended name) (codes "rft_dat")) _ (is_rft_dat name)
    (either (is_name (mended name) (codes "rfe_dat")) _ (is_rfe_dat name)
    (λ (u : false ≡ true). absurd (cc))))))))) h
