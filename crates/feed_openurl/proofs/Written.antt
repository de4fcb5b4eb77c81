-- The core accepts what is written for a query, and asks for what was understood.
use Rattle.std.proofs.Common.{◌≡◌, ◌≤◌, ◌<◌, ℕ, Bool, false, ◌&&◌, ◌||◌, List, [], ◌∷◌, ◌++◌, length, Option}
use Rattle.std.proofs.Common.{Some, None, Ok, Err, if◌then◌else◌, codes, refl, sym, ap, subst, ◌∙◌, map, append_assoc, arith}
use Rattle.std.specs.Prelude.{IfSome, fold, option_map}
use Rattle.std.specs.Option.{option_and_then}
use Rattle.std.specs.declared.cmp.Ordering.TheVariants.{Less, Greater}
use Rattle.std.specs.Ordering.{match_ordering, ordering_reverse}
use Rattle.std.specs.BTreeSet.{insert_key}
use Rattle.std.specs.List.{All, AllByRecursion, cons_option, filter_map, list_any}
use Rattle.std.specs.List.Sorted.{IsStrictlySortedBy}
use Rattle.std.proofs.lemmas.Bool.{le-ltb}
use Rattle.std.proofs.lemmas.Cmp.{nat_list_cmp_total}
use Rattle.std.proofs.lemmas.List.{append-nil}
use Rattle.std.proofs.lemmas.List.Elements.{All-cons, All-head, All-nil, All-tail, All-weaker}
use Rattle.form_urlencoded.specs.Form as form
use Rattle.form_urlencoded.specs.Form.{IsUnchanged}
use Rattle.form_urlencoded.proofs.FormLemmas.{round_trip}
use Rattle.feed_identifiers.specs.Identifier.{isbn_in, issn_in}
use Rattle.feed_identifiers.specs.Isbn.{isbn_of}
use Rattle.feed_identifiers.specs.Issn.{issn_of}
use Rattle.feed_identifiers.specs.declared.identifier.Identifier.TheVariants.{Isbn, Issn}
use Rattle.feed_answer.specs.IdentifierSet.{bytes_cmp, IsAscending, identifier_set}
use Rattle.feed_answer.specs.Limits.{query_limit}
use Rattle.feed_answer.specs.Pairs.{book_format, first, first_days, first_volume, has_format, is_empty, is_other_format, is_other_version, isbn_of_pair, issn_of_pair, journal_format}
use Rattle.feed_answer.specs.Queries.{has_book_format, has_journal_format, has_other_format, query_isbns, query_issns, query_of, query_of_pairs}
use Rattle.feed_answer.specs.QueryValue.{QueryValue}
use Rattle.feed_answer.specs.declared.fault.QueryFault.TheVariants.{NoIsbn, NoIssn, OtherFormat, TooLong, Version}
use Rattle.feed_dates.specs.DayRanges.{query_days_of}
use Rattle.feed_dates.specs.declared.day_range.DayRange.{DayRange}
use Rattle.feed_kbart.specs.Volumes.{volume_of}
use Rattle.feed_openurl.specs.Core.{core_date, core_volume, date_of_pair, volume_of_pair}
use Rattle.feed_openurl.specs.Identifiers.{count, identifier_limit}
use Rattle.feed_openurl.specs.Laws.{WrittenIsAccepted}
use Rattle.feed_openurl.specs.Texts.{IsDateText, IsVolumeText, date_text_of, volume_text_of}
use Rattle.feed_openurl.specs.Values.{AreIdentifiers, IsCounted, IsIsbnText, IsIssnText, IsWellFormed, OpenUrlValue}
use Rattle.feed_openurl.specs.Written.{date_pairs, isbn_pairs, issn_pairs, pairs_for, version_pair, volume_pairs, with_key, written}
use Rattle.feed_openurl.specs.declared.fault.OpenUrlFault.{OpenUrlFault}
use Rattle.feed_openurl.proofs.Bounds.{IsShort, date_is_short, date_key, isbn_is_short, isbn_key, issn_is_short, issn_key, kept_bytes, short_written, trimmed_kept}
use Rattle.feed_openurl.proofs.Bounds.{version_key, version_value, volume_is_short, volume_key}
use Rattle.feed_openurl.proofs.Kept.{core_days, core_number}

-- an identifier above all others is inserted last
at_last : (P : List ℕ → Type 0) (front : List (List ℕ)) (one : List ℕ) (rest : List (List ℕ)) → AllByRecursion P (front ++ one ∷ rest) → P one
at_last P [] one rest all = all.0
at_last P (other ∷ others) one rest all = at_last P others one rest all.1

insert_last : (front : List (List ℕ)) (one : List ℕ) (rest : List (List ℕ)) → IsAscending (front ++ one ∷ rest)
    → insert_key bytes_cmp front one ≡ front ++ one ∷ []
unfolding IsStrictlySortedBy
insert_last [] one rest up = refl
insert_last (other ∷ others) one rest up =
    let below = at_last (λ y. bytes_cmp other y ≡ Less) others one rest up.0 in
    let above : bytes_cmp one other ≡ Greater = nat_list_cmp_total.antisymm one other ∙ ap ordering_reverse below in
    let later = insert_last others one rest up.1 in
    ap (λ o. match_ordering o (one ∷ other ∷ others) (other ∷ others) (other ∷ insert_key bytes_cmp others one)) above
    ∙ ap (λ l. other ∷ l) later

fold_ascending : (rest front : List (List ℕ)) → IsAscending (front ++ rest) → fold (insert_key bytes_cmp) front rest ≡ front ++ rest
fold_ascending [] front up = sym (append-nil front)
fold_ascending (one ∷ rest) front up =
    let same = append_assoc front (one ∷ []) rest in
    ap (λ s. fold (insert_key bytes_cmp) s rest) (insert_last front one rest up)
    ∙ fold_ascending rest (front ++ one ∷ []) (subst IsAscending (sym same) up)
    ∙ same

-- an ascending list is the set of its elements
pub set_of_ascending : (ones : List (List ℕ)) → IsAscending ones → identifier_set ones ≡ ones
set_of_ascending ones up = fold_ascending ones [] up

abbrev pub Pair : Type 0
Pair = List ℕ × List ℕ

-- no written pair passes a test that fails for each of the keys
none_in : (p : Pair → Bool) (key : List ℕ) → ((text : List ℕ) → p (key, text) ≡ false) → (texts : List (List ℕ)) (rest : List Pair)
    → list_any p (map (with_key key) texts ++ rest) ≡ list_any p rest
none_in p key fails [] rest = refl
none_in p key fails (text ∷ texts) rest = ap (λ b. b || list_any p (map (with_key key) texts ++ rest)) (fails text) ∙ none_in p key fails texts rest

none_last : (p : Pair → Bool) → ((text : List ℕ) → p (codes "rft.date", text) ≡ false) → ((text : List ℕ) → p (codes "rft.volume", text) ≡ false)
    → (date volume : Option (List ℕ)) → list_any p (date_pairs date ++ volume_pairs volume) ≡ false
none_last p dates volumes None None = refl
none_last p dates volumes None (Some volume) = ap (λ b. b || false) (volumes volume)
none_last p dates volumes (Some date) None = ap (λ b. b || false) (dates date)
none_last p dates volumes (Some date) (Some volume) = ap (λ b. b || (p (codes "rft.volume", volume) || false)) (dates date) ∙ ap (λ b. b || false) (volumes volume)

none_written : (p : Pair → Bool) → p version_pair ≡ false → ((text : List ℕ) → p (codes "rft.issn", text) ≡ false)
    → ((text : List ℕ) → p (codes "rft.isbn", text) ≡ false) → ((text : List ℕ) → p (codes "rft.date", text) ≡ false)
    → ((text : List ℕ) → p (codes "rft.volume", text) ≡ false)
    → (issns isbns : List (List ℕ)) (date volume : Option (List ℕ)) → list_any p (pairs_for issns isbns date volume) ≡ false
none_written p version first second third fourth issns isbns date volume =
    ap (λ b. b || list_any p (issn_pairs issns ++ (isbn_pairs isbns ++ (date_pairs date ++ volume_pairs volume)))) version
    ∙ none_in p (codes "rft.issn") first issns (isbn_pairs isbns ++ (date_pairs date ++ volume_pairs volume))
    ∙ none_in p (codes "rft.isbn") second isbns (date_pairs date ++ volume_pairs volume)
    ∙ none_last p third fourth date volume

-- the values of a key that are read, and those of a key that is not
read_in : (P : List ℕ → Type 0) (read : Pair → Option (List ℕ)) (key : List ℕ) → ((text : List ℕ) → P text → read (key, text) ≡ Some text)
    → (texts : List (List ℕ)) (rest : List Pair) → All P texts → filter_map read (map (with_key key) texts ++ rest) ≡ texts ++ filter_map read rest
read_in P read key reads [] rest all = refl
read_in P read key reads (text ∷ texts) rest all =
    ap (λ o. cons_option o (filter_map read (map (with_key key) texts ++ rest))) (reads text (All-head P text texts all))
    ∙ ap (λ l. text ∷ l) (read_in P read key reads texts rest (All-tail P text texts all))

skipped_in : {A : Type 0} (read : Pair → Option A) (key : List ℕ) → ((text : List ℕ) → read (key, text) ≡ None)
    → (texts : List (List ℕ)) (rest : List Pair) → filter_map read (map (with_key key) texts ++ rest) ≡ filter_map read rest
skipped_in read key fails [] rest = refl
skipped_in read key fails (text ∷ texts) rest =
    ap (λ o. cons_option o (filter_map read (map (with_key key) texts ++ rest))) (fails text) ∙ skipped_in read key fails texts rest

issns_last : (date volume : Option (List ℕ)) → filter_map issn_of_pair (date_pairs date ++ volume_pairs volume) ≡ []
issns_last None None = refl
issns_last None (Some volume) = refl
issns_last (Some date) None = refl
issns_last (Some date) (Some volume) = refl

isbns_last : (date volume : Option (List ℕ)) → filter_map isbn_of_pair (date_pairs date ++ volume_pairs volume) ≡ []
isbns_last None None = refl
isbns_last None (Some volume) = refl
isbns_last (Some date) None = refl
isbns_last (Some date) (Some volume) = refl

isbn_is_no_issn : (o : Option (List ℕ)) → option_and_then issn_in (option_map Isbn o) ≡ None
isbn_is_no_issn None = refl
isbn_is_no_issn (Some isbn) = refl

issn_is_no_isbn : (o : Option (List ℕ)) → option_and_then isbn_in (option_map Issn o) ≡ None
issn_is_no_isbn None = refl
issn_is_no_isbn (Some issn) = refl

issns_written : (issns isbns : List (List ℕ)) (date volume : Option (List ℕ)) → All IsIssnText issns
    → filter_map issn_of_pair (pairs_for issns isbns date volume) ≡ issns
issns_written issns isbns date volume all =
    read_in IsIssnText issn_of_pair (codes "rft.issn") (λ text is. ap (λ o. option_and_then issn_in (option_map Issn o)) is) issns (isbn_pairs isbns ++ (date_pairs date ++ volume_pairs volume)) all
    ∙ ap (λ l. issns ++ l) (skipped_in issn_of_pair (codes "rft.isbn") (λ text. isbn_is_no_issn (isbn_of text)) isbns (date_pairs date ++ volume_pairs volume) ∙ issns_last date volume)
    ∙ append-nil issns

isbns_written : (issns isbns : List (List ℕ)) (date volume : Option (List ℕ)) → All IsIsbnText isbns
    → filter_map isbn_of_pair (pairs_for issns isbns date volume) ≡ isbns
isbns_written issns isbns date volume all =
    skipped_in isbn_of_pair (codes "rft.issn") (λ text. issn_is_no_isbn (issn_of text)) issns (isbn_pairs isbns ++ (date_pairs date ++ volume_pairs volume))
    ∙ read_in IsIsbnText isbn_of_pair (codes "rft.isbn") (λ text is. ap (λ o. option_and_then isbn_in (option_map Isbn o)) is) isbns (date_pairs date ++ volume_pairs volume) all
    ∙ ap (λ l. isbns ++ l) (isbns_last date volume)
    ∙ append-nil isbns

module _ (issns isbns : List (List ℕ)) (date volume : Option (List ℕ)) (are : AreIdentifiers issns isbns) where
  abbrev all_pairs : List Pair
  all_pairs = pairs_for issns isbns date volume

  pub no_version : list_any is_other_version all_pairs ≡ false
  no_version = none_written is_other_version refl (λ t. refl) (λ t. refl) (λ t. refl) (λ t. refl) issns isbns date volume

  no_other : list_any is_other_format all_pairs ≡ false
  no_other = none_written is_other_format refl (λ t. refl) (λ t. refl) (λ t. refl) (λ t. refl) issns isbns date volume

  no_book : has_book_format all_pairs ≡ false
  no_book = none_written (has_format book_format) refl (λ t. refl) (λ t. refl) (λ t. refl) (λ t. refl) issns isbns date volume

  no_journal : has_journal_format all_pairs ≡ false
  no_journal = none_written (has_format journal_format) refl (λ t. refl) (λ t. refl) (λ t. refl) (λ t. refl) issns isbns date volume

  pub no_format : has_other_format all_pairs ≡ false
  no_format = ap (λ b. b || (has_journal_format all_pairs && has_book_format all_pairs)) no_other ∙ ap (λ b. b && has_book_format all_pairs) no_journal

  pub own_issns : query_issns all_pairs ≡ issns
  own_issns =
      ap (λ b. if b then [] else identifier_set (filter_map issn_of_pair all_pairs)) no_book
      ∙ ap identifier_set (issns_written issns isbns date volume are.issns_parse) ∙ set_of_ascending issns are.issns_ascend

  pub own_isbns : query_isbns all_pairs ≡ isbns
  own_isbns =
      ap (λ b. if b then [] else identifier_set (filter_map isbn_of_pair all_pairs)) no_journal
      ∙ ap identifier_set (isbns_written issns isbns date volume are.isbns_parse) ∙ set_of_ascending isbns are.isbns_ascend

pub some_are : (issns isbns : List (List ℕ)) → 0 < count issns isbns → (is_empty issns && is_empty isbns) ≡ false
some_are [] [] e = absurd (omega (arith, e))
some_are [] (isbn ∷ isbns) e = refl
some_are (issn ∷ issns) isbns e = refl

not_empty : (issns isbns : List (List ℕ)) (refusal : Option OpenUrlFault) → IsCounted issns isbns refusal → refusal ≡ None
    → (0 < count issns isbns) × (count issns isbns ≤ identifier_limit)
not_empty issns isbns None is none = is
not_empty issns isbns (Some why) is none = absurd (cc)

abbrev query_value : List (List ℕ) → List (List ℕ) → Option DayRange → Option ℕ → QueryValue
query_value issns isbns days volume = record { issns = issns; isbns = isbns; days = days; volume = volume }

abbrev asked : List Pair → List (List ℕ) → List (List ℕ) → QueryValue
asked pairs issns isbns = query_value issns isbns (first_days pairs) (first_volume pairs)

-- the core answers the pairs that are written
pairs_accepted : (issns isbns : List (List ℕ)) (date volume : Option (List ℕ)) → AreIdentifiers issns isbns → 0 < count issns isbns
    → query_of_pairs (pairs_for issns isbns date volume) ≡ Ok (asked (pairs_for issns isbns date volume) issns isbns)
pairs_accepted issns isbns date volume are counted =
    let pairs = pairs_for issns isbns date volume in
    let some = some_are issns isbns counted in
    let fault = if has_book_format pairs then NoIsbn else NoIssn in
    let answer = λ (a : List (List ℕ)) (b : List (List ℕ)). if is_empty a && is_empty b then Err fault else Ok (asked pairs a b) in
    ap (λ b. if b then Err Version else if has_other_format pairs then Err OtherFormat else answer (query_issns pairs) (query_isbns pairs)) (no_version issns isbns date volume are)
    ∙ ap (λ b. if b then Err OtherFormat else answer (query_issns pairs) (query_isbns pairs)) (no_format issns isbns date volume are)
    ∙ ap (λ l. answer l (query_isbns pairs)) (own_issns issns isbns date volume are)
    ∙ ap (λ l. answer issns l) (own_isbns issns isbns date volume are)
    ∙ ap (λ b. if b then Err fault else Ok (asked pairs issns isbns)) some

-- the core accepts the text that is written
text_accepted : (text : List ℕ) (pairs : List Pair) (q : QueryValue) → length text ≤ query_limit → form.parse text ≡ pairs → query_of_pairs pairs ≡ Ok q
    → query_of text ≡ Ok q
unfolding query_of
text_accepted text pairs q short are is =
    ap (λ b. if b then Err TooLong else query_of_pairs (form.parse text)) (le-ltb query_limit (length text) short) ∙ ap query_of_pairs are ∙ is

-- the pairs that are written are bytes
abbrev AreBytes : Pair → Type 0
AreBytes pair = All (λ b. b < 256) pair.0 × All (λ b. b < 256) pair.1

texts_bytes : (n : ℕ) (key : List ℕ) → All IsUnchanged key → (texts : List (List ℕ)) (rest : List Pair) → All (IsShort n) texts → All AreBytes rest
    → All AreBytes (map (with_key key) texts ++ rest)
texts_bytes n key kept [] rest all others = others
texts_bytes n key kept (text ∷ texts) rest all others =
    All-cons AreBytes (key, text) (map (with_key key) texts ++ rest) (kept_bytes key kept, kept_bytes text (All-head (IsShort n) text texts all).kept)
    (texts_bytes n key kept texts rest (All-tail (IsShort n) text texts all) others)

volume_bytes : (volume : Option (List ℕ)) → IfSome volume IsVolumeText → All AreBytes (volume_pairs volume)
volume_bytes None is = All-nil AreBytes
volume_bytes (Some volume) is =
    All-cons AreBytes (codes "rft.volume", volume) [] (kept_bytes (codes "rft.volume") volume_key, kept_bytes volume (volume_is_short volume is).kept) (All-nil AreBytes)

last_bytes : (date volume : Option (List ℕ)) → IfSome date IsDateText → IfSome volume IsVolumeText → All AreBytes (date_pairs date ++ volume_pairs volume)
last_bytes None volume first second = volume_bytes volume second
last_bytes (Some date) volume first second =
    All-cons AreBytes (codes "rft.date", date) (volume_pairs volume) (kept_bytes (codes "rft.date") date_key, kept_bytes date (date_is_short date first).kept)
    (volume_bytes volume second)

abbrev pub written_pairs : OpenUrlValue → List Pair
written_pairs u = pairs_for u.issns u.isbns u.date u.volume

-- the text that is written has these pairs
pub written_parses : (u : OpenUrlValue) → IsWellFormed u → form.parse (written u) ≡ written_pairs u
written_parses u is =
    round_trip (written_pairs u)
    (All-cons AreBytes version_pair (issn_pairs u.issns ++ (isbn_pairs u.isbns ++ (date_pairs u.date ++ volume_pairs u.volume)))
    (kept_bytes version_pair.0 version_key, kept_bytes version_pair.1 version_value)
    (texts_bytes 9 (codes "rft.issn") issn_key u.issns (isbn_pairs u.isbns ++ (date_pairs u.date ++ volume_pairs u.volume))
    (All-weaker IsIssnText (IsShort 9) issn_is_short u.issns is.identifiers.issns_parse)
    (texts_bytes 13 (codes "rft.isbn") isbn_key u.isbns (date_pairs u.date ++ volume_pairs u.volume) (All-weaker IsIsbnText (IsShort 13) isbn_is_short u.isbns is.identifiers.isbns_parse)
    (last_bytes u.date u.volume is.date is.volume))))

-- a key whose values are not read
pub none_read : {A : Type 0} (read : Pair → Option A) → read version_pair ≡ None → ((text : List ℕ) → read (codes "rft.issn", text) ≡ None)
    → ((text : List ℕ) → read (codes "rft.isbn", text) ≡ None) → (issns isbns : List (List ℕ)) (rest : List Pair)
    → filter_map read (version_pair ∷ (issn_pairs issns ++ (isbn_pairs isbns ++ rest))) ≡ filter_map read rest
none_read read version first second issns isbns rest =
    ap (λ o. cons_option o (filter_map read (issn_pairs issns ++ (isbn_pairs isbns ++ rest)))) version
    ∙ skipped_in read (codes "rft.issn") first issns (isbn_pairs isbns ++ rest)
    ∙ skipped_in read (codes "rft.isbn") second isbns rest

-- the date that is written is read
date_read : (date : List ℕ) → IsDateText date → date_of_pair (codes "rft.date", date) ≡ Some date
date_read date is = ap date_text_of (trimmed_kept date (date_is_short date is).kept) ∙ is

date_last : (date volume : Option (List ℕ)) → IfSome date IsDateText → first (filter_map date_of_pair (date_pairs date ++ volume_pairs volume)) ≡ date
date_last None None is = refl
date_last None (Some volume) is = refl
date_last (Some date) volume is = ap (λ o. first (cons_option o (filter_map date_of_pair (volume_pairs volume)))) (date_read date is)

pub date_written : (issns isbns : List (List ℕ)) (date volume : Option (List ℕ)) → IfSome date IsDateText
    → core_date (pairs_for issns isbns date volume) ≡ date
date_written issns isbns date volume is =
    ap first (none_read date_of_pair refl (λ t. refl) (λ t. refl) issns isbns (date_pairs date ++ volume_pairs volume)) ∙ date_last date volume is

-- the volume that is written is read
volume_read : (volume : List ℕ) → IsVolumeText volume → volume_of_pair (codes "rft.volume", volume) ≡ Some volume
volume_read volume is = ap volume_text_of (trimmed_kept volume (volume_is_short volume is).kept) ∙ is

volume_last : (date volume : Option (List ℕ)) → IfSome volume IsVolumeText → first (filter_map volume_of_pair (date_pairs date ++ volume_pairs volume)) ≡ volume
volume_last None None is = refl
volume_last (Some date) None is = refl
volume_last None (Some volume) is = ap (λ o. first (cons_option o [])) (volume_read volume is)
volume_last (Some date) (Some volume) is = ap (λ o. first (cons_option o [])) (volume_read volume is)

pub volume_written : (issns isbns : List (List ℕ)) (date volume : Option (List ℕ)) → IfSome volume IsVolumeText
    → core_volume (pairs_for issns isbns date volume) ≡ volume
volume_written issns isbns date volume is =
    ap first (none_read volume_of_pair refl (λ t. refl) (λ t. refl) issns isbns (date_pairs date ++ volume_pairs volume)) ∙ volume_last date volume is

-- what the core asks for
asked_for : (u : OpenUrlValue) → IsWellFormed u
    → asked (written_pairs u) u.issns u.isbns
    ≡ record { issns = u.issns; isbns = u.isbns; days = option_and_then query_days_of u.date; volume = option_and_then volume_of u.volume }
asked_for u is =
    let days = sym (core_days (written_pairs u)) ∙ ap (option_and_then query_days_of) (date_written u.issns u.isbns u.date u.volume is.date) in
    let number = sym (core_number (written_pairs u)) ∙ ap (option_and_then volume_of) (volume_written u.issns u.isbns u.date u.volume is.volume) in
    ap (λ d. query_value u.issns u.isbns d (first_volume (written_pairs u))) days
    ∙ ap (λ n. query_value u.issns u.isbns (option_and_then query_days_of u.date) n) number

pub written_accepted : WrittenIsAccepted
written_accepted u is none =
    let counted = not_empty u.issns u.isbns u.refusal is.counted none in
    let short = short_written u is in
    text_accepted (written u) (written_pairs u) (query_value u.issns u.isbns (option_and_then query_days_of u.date) (option_and_then volume_of u.volume))
    (omega (arith, short)) (written_parses u is)
    (pairs_accepted u.issns u.isbns u.date u.volume is.identifiers counted.0 ∙ ap Ok (asked_for u is))
