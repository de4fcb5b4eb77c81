-- What the core reads of a query is looked up.
use Rattle.std.proofs.Common.{◌≡◌, ◌≤◌, ℕ, Bool, true, false, ◌||◌, ◌&&◌, List, [], ◌∷◌, map, length, Option, Some, None, Ok, Err, if◌then◌else◌, refl, sym, ap, ◌∙◌}
use Rattle.std.specs.Prelude.{nat_lt}
use Rattle.std.specs.Option.{option_and_then}
use Rattle.std.specs.List.{cons_option, filter_map, flat_map, list_any}
use Rattle.std.specs.Str.{bytes_eq}
use Rattle.std.proofs.lemmas.Bool.{le-ltb}
use Rattle.std.proofs.lemmas.Slice.Eq.{bytes_eq-Decides}
use Rattle.form_urlencoded.specs.Form as form
use Rattle.feed_dates.specs.declared.day_range.DayRange.{DayRange}
use Rattle.feed_answer.specs.IdentifierSet.{identifier_set, is_among}
use Rattle.feed_answer.specs.Laws.{SetHasExactlyItsIdentifiers}
use Rattle.feed_answer.specs.Limits.{query_limit}
use Rattle.feed_answer.specs.Pairs.{first_days, first_volume, identifier_of_pair, is_empty, is_other_version, isbn_of_pair, issn_of_pair}
use Rattle.feed_answer.specs.Queries.{has_book_format, has_journal_format, has_other_format, query_isbns, query_issns, query_of, query_of_pairs}
use Rattle.feed_answer.specs.QueryValue.{QueryValue}
use Rattle.feed_answer.specs.declared.fault.QueryFault.{QueryFault}
use Rattle.feed_answer.specs.declared.fault.QueryFault.TheVariants.{NoIsbn, NoIssn, OtherFormat, TooLong, Version}
use Rattle.feed_openurl.specs.Core.{core_date, core_volume}
use Rattle.feed_identifiers.specs.Identifier.{isbn_in, issn_in}
use Rattle.feed_openurl.specs.Identifiers.{IdentifiersValue, LookedUp, are_none, count, identifier_limit, identifiers_of}
use Rattle.feed_openurl.specs.Identifiers.{looked_up, number_or_others, number_text, numbers_in_text, numbers_of_pair, reason_without, refused, within_limit}
use Rattle.feed_openurl.specs.Keys.{keyed}
use Rattle.feed_openurl.specs.Laws.{AnsweredIsContained, AreAmong, ContainsAnswer}
use Rattle.feed_openurl.specs.Tiers.{date_in, volume_in}
use Rattle.feed_openurl.specs.Values.{understood_pairs}
use Rattle.feed_openurl.specs.declared.fault.OpenUrlFault.TheVariants as reason
use Rattle.feed_openurl.specs.declared.key.Tier.TheVariants.{Old, Rft}
use Rattle.feed_identifiers.specs.declared.identifier.Identifier.{Identifier}
use Rattle.feed_openurl.proofs.Kept.{core_days, core_number as core_volume_number, kept_days, kept_number}
use Rattle.feed_openurl.proofs.Swapped.{Pair, among_pairs}

or_true : (a b : Bool) → b ≡ true → (a || b) ≡ true
or_true true b e = refl
or_true false b e = e

or_move : (a b : Bool) → (a || b) ≡ ((a || false) || b)
or_move true b = refl
or_move false b = refl

one_weaker : (first second rest others : Bool) → (first ≡ true → second ≡ true) → (rest ≡ true → others ≡ true) → (first || rest) ≡ true → (second || others) ≡ true
one_weaker true second rest others weaker later h = ap (λ b. b || others) (weaker refl)
one_weaker false second rest others weaker later h = or_true second others (later h)

any_weaker : (p q : Pair → Bool) → ((pair : Pair) → p pair ≡ true → q pair ≡ true) → (pairs : List Pair) → list_any p pairs ≡ true → list_any q pairs ≡ true
any_weaker p q weaker [] any = any
any_weaker p q weaker (pair ∷ pairs) any =
    one_weaker (p pair) (q pair) (list_any p pairs) (list_any q pairs) (weaker pair) (any_weaker p q weaker pairs) any

among_first : (one : List ℕ) (o : Option (List ℕ)) (rest : List (List ℕ)) → is_among one (cons_option o rest) ≡ (is_among one (cons_option o []) || is_among one rest)
among_first one None rest = refl
among_first one (Some text) rest = or_move (bytes_eq text one) (is_among one rest)

among_read : (read : Pair → Option (List ℕ)) (one : List ℕ) (pairs : List Pair)
    → is_among one (filter_map read pairs) ≡ list_any (λ pair. is_among one (cons_option (read pair) [])) pairs
among_read read one [] = refl
among_read read one (pair ∷ pairs) =
    among_first one (read pair) (filter_map read pairs) ∙ ap (λ b. is_among one (cons_option (read pair) []) || b) (among_read read one pairs)

-- an identifier that the core reads of a pair is one of its numbers
found_by : (read : Identifier → Option (List ℕ)) (one : List ℕ) (o : Option Identifier) (others : List Identifier)
    → is_among one (cons_option (option_and_then read o) []) ≡ true → is_among one (filter_map read (number_or_others o others)) ≡ true
found_by read one None others h = absurd (let u : false ≡ true = h in cc)
found_by read one (Some found) others h = h

found_there : (read : Identifier → Option (List ℕ)) (one : List ℕ) (pair : Pair) → is_among one (cons_option (option_and_then read (identifier_of_pair pair)) []) ≡ true
    → is_among one (filter_map read (numbers_of_pair pair)) ≡ true
unfolding numbers_of_pair
found_there read one pair h = found_by read one (identifier_of_pair pair) (numbers_in_text (number_text (keyed pair))) h

module _ (exact : SetHasExactlyItsIdentifiers) (pairs : List Pair) where
  set_contained : (core : Pair → Option (List ℕ)) (read : Identifier → Option (List ℕ))
      → ((one : List ℕ) (pair : Pair) → is_among one (cons_option (core pair) []) ≡ true → is_among one (filter_map read (numbers_of_pair pair)) ≡ true)
      → AreAmong (identifier_set (filter_map core pairs)) (identifier_set (filter_map read (flat_map numbers_of_pair pairs)))
  set_contained core read there one h =
      exact (filter_map read (flat_map numbers_of_pair pairs)) one
      ∙ among_pairs read one pairs
      ∙ any_weaker (λ pair. is_among one (cons_option (core pair) [])) (λ pair. is_among one (filter_map read (numbers_of_pair pair))) (there one) pairs
      (sym (among_read core one pairs) ∙ sym (exact (filter_map core pairs) one) ∙ h)

  if_contained : (b : Bool) (set found : List (List ℕ)) → AreAmong set found → AreAmong (if b then [] else set) found
  if_contained true set found are = λ one h. absurd (let u : false ≡ true = h in cc)
  if_contained false set found are = are

  issns_contained : AreAmong (query_issns pairs) (identifiers_of pairs).issns
  issns_contained =
      if_contained (has_book_format pairs) (identifier_set (filter_map issn_of_pair pairs)) (identifiers_of pairs).issns (set_contained issn_of_pair issn_in (found_there issn_in))

  isbns_contained : AreAmong (query_isbns pairs) (identifiers_of pairs).isbns
  isbns_contained =
      if_contained (has_journal_format pairs) (identifier_set (filter_map isbn_of_pair pairs)) (identifiers_of pairs).isbns (set_contained isbn_of_pair isbn_in (found_there isbn_in))

-- identifiers that are some, and within the limit, are looked up
pub found_kept : (found : IdentifiersValue) (others : LookedUp) → are_none found ≡ false → nat_lt identifier_limit (count found.issns found.isbns) ≡ false
    → (if are_none found then others else within_limit found) ≡ record { issns = found.issns; isbns = found.isbns; refusal = None }
found_kept found others some few =
    ap (λ b. if b then others else within_limit found) some
    ∙ ap (λ b. if b then refused reason.TooMany else record { issns = found.issns; isbns = found.isbns; refusal = None }) few

some_found : (one : List ℕ) (more found : List (List ℕ)) → AreAmong (one ∷ more) found → is_empty found ≡ false
some_found one more [] are =
    let there : is_among one (one ∷ more) ≡ true = ap (λ b. b || is_among one more) ((bytes_eq-Decides one one).1 refl) in
    let u : false ≡ true = are one there in
    absurd (cc)
some_found one more (other ∷ found) are = refl

and_false : (a b : Bool) → b ≡ false → (a && b) ≡ false
and_false true b e = e
and_false false b e = refl

not_none : (issns isbns : List (List ℕ)) (found : IdentifiersValue) → (is_empty issns && is_empty isbns) ≡ false
    → AreAmong issns found.issns → AreAmong isbns found.isbns → are_none found ≡ false
not_none [] [] found some first second = absurd (let u : true ≡ false = some in cc)
not_none [] (isbn ∷ isbns) found some first second = and_false (is_empty found.issns) (is_empty found.isbns) (some_found isbn isbns found.isbns second)
not_none (issn ∷ issns) isbns found some first second = ap (λ b. b && is_empty found.isbns) (some_found issn issns found.issns first)

abbrev value_by : (issns isbns : List (List ℕ)) (days : Option DayRange) (volume : Option ℕ) → QueryValue
value_by issns isbns days volume = record { issns = issns; isbns = isbns; days = days; volume = volume }

abbrev contained_value : List Pair → QueryValue
contained_value pairs = value_by (query_issns pairs) (query_isbns pairs) (first_days pairs) (first_volume pairs)

module _ (exact : SetHasExactlyItsIdentifiers) (pairs : List Pair) where
  value_contained : (is_empty (query_issns pairs) && is_empty (query_isbns pairs)) ≡ false
      → count (identifiers_of pairs).issns (identifiers_of pairs).isbns ≤ identifier_limit → ContainsAnswer (contained_value pairs) (understood_pairs pairs)
  value_contained some few =
      let found = identifiers_of pairs in
      let first = issns_contained exact pairs in
      let second = isbns_contained exact pairs in
      let kept = found_kept found (refused (reason_without (map keyed pairs))) (not_none (query_issns pairs) (query_isbns pairs) found some first second)
      (le-ltb identifier_limit (count found.issns found.isbns) few) in
      record {
        refusal = ap (λ (l : LookedUp). l.refusal) kept;
        issns = λ one h. ap (λ (l : LookedUp). is_among one l.issns) kept ∙ first one h;
        isbns = λ one h. ap (λ (l : LookedUp). is_among one l.isbns) kept ∙ second one h;
        days = kept_days (core_date pairs) _ (first_days pairs) (core_days pairs);
        volume = kept_number (core_volume pairs) _ (first_volume pairs) (core_volume_number pairs);
      }

  answer_by : (long version format none : Bool) (fault : QueryFault) (q : QueryValue)
      → (is_empty (query_issns pairs) && is_empty (query_isbns pairs)) ≡ none
      → (if long then Err TooLong else if version then Err Version else if format then Err OtherFormat
      else if none then Err fault else Ok (contained_value pairs)) ≡ Ok q
      → count (identifiers_of pairs).issns (identifiers_of pairs).isbns ≤ identifier_limit → ContainsAnswer q (understood_pairs pairs)
  answer_by true version format none fault q is read few = absurd (cc)
  answer_by false true format none fault q is read few = absurd (cc)
  answer_by false false true none fault q is read few = absurd (cc)
  answer_by false false false true fault q is read few = absurd (cc)
  answer_by false false false false fault q some read few =
      let same : contained_value pairs ≡ q = cc in
      rw (← same) (value_contained some few)

contained_pairs : SetHasExactlyItsIdentifiers → (pairs : List Pair) (long : Bool) (q : QueryValue) → (if long then Err TooLong else query_of_pairs pairs) ≡ Ok q
    → count (identifiers_of pairs).issns (identifiers_of pairs).isbns ≤ identifier_limit → ContainsAnswer q (understood_pairs pairs)
contained_pairs exact pairs long q read few =
    answer_by exact pairs long (list_any is_other_version pairs) (has_other_format pairs) (is_empty (query_issns pairs) && is_empty (query_isbns pairs))
    (if has_book_format pairs then NoIsbn else NoIssn) q refl read few

pub answered_contained : SetHasExactlyItsIdentifiers → AnsweredIsContained
unfolding query_of
answered_contained exact text q read few = contained_pairs exact (form.parse text) (nat_lt query_limit (length text)) q read few
