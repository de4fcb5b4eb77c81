-- The identifiers that are looked up for a query parse, ascend, and are within the limit.
use Rattle.std.proofs.Common.{◌≡◌, ◌<◌, ℕ, Bool, true, false, ◌&&◌, ◌||◌, List, [], ◌∷◌, ◌++◌, take, drop, Option, Some, None, if◌then◌else◌, codes, refl, map, arith}
use Rattle.std.specs.Prelude.{IfSome, fold, nat_lt, option_map}
use Rattle.std.specs.BTreeSet.{insert_key}
use Rattle.std.specs.List.{All, concat, cons_option, filter_map, flat_map, list_any}
use Rattle.std.proofs.lemmas.Bool.{ltb-false}
use Rattle.std.proofs.lemmas.List.Elements.{All-append, All-cons, All-head, All-nil, All-tail}
use Rattle.std.proofs.lemmas.Map.Views.{All-insert_key}
use Rattle.feed_identifiers.specs.Isbn.{isbn_of}
use Rattle.feed_identifiers.specs.Issn.{issn_of}
use Rattle.feed_identifiers.specs.Laws.{PrintedFormParses}
use Rattle.feed_answer.specs.IdentifierSet.{IsAscending, bytes_cmp, identifier_set}
use Rattle.feed_answer.specs.Laws.{SetsAscend}
use Rattle.feed_answer.specs.Pairs.{has_key, has_prefix, identifier_of_pair, is_empty, issn_of_urn}
use Rattle.feed_identifiers.specs.Identifier.{isbn_in, issn_in}
use Rattle.feed_openurl.specs.Identifiers.{IdentifiersValue, LookedUp, are_none, count, identifier_limit, numbers_of_pair, reason_without, refused, within_limit}
use Rattle.feed_openurl.specs.Identifiers.{identifiers_among, identifiers_of, looked_up, number_or_others, number_text, numbers_in_text}
use Rattle.feed_openurl.specs.Keys.{keyed}
use Rattle.feed_openurl.specs.Numbers.{first_number, first_spaced_isbn, found_or, is_ismn, isbn_number, is_number, number_of_word, number_onto, number_or}
use Rattle.feed_openurl.specs.Numbers.{isbn_of_words, issn_of_halves, numbers_after, numbers_in, spaced_isbn, spaced_issn, taken, words_from}
use Rattle.feed_openurl.specs.Volumes.{begins_with_digit}
use Rattle.feed_openurl.specs.Plain.{plain}
use Rattle.feed_openurl.specs.Values.{AreIdentifiers, IsCounted, IsIsbnText, IsIssnText}
use Rattle.feed_openurl.specs.declared.fault.OpenUrlFault.{OpenUrlFault}
use Rattle.feed_openurl.specs.declared.fault.OpenUrlFault.TheVariants as reason
use Rattle.feed_identifiers.specs.declared.identifier.Identifier.{Identifier}
use Rattle.feed_identifiers.specs.declared.identifier.Identifier.TheVariants.{Isbn, Issn}

-- a number is the printed form of one
abbrev IsValid : Identifier → Type 0
IsValid (Issn issn) = IsIssnText issn
IsValid (Isbn isbn) = IsIsbnText isbn

abbrev IsFound : Identifier × ℕ → Type 0
IsFound found = IsValid found.0

parsed : (read : List ℕ → Option (List ℕ)) → PrintedFormParses read → (text : List ℕ) (o : Option (List ℕ)) → read text ≡ o
    → IfSome o (λ t. read t ≡ Some t)
parsed read law text None is = tt
parsed read law text (Some printed) is = law text printed is

if_valid : {A : Type 0} (P : A → Type 0) (b : Bool) (o other : Option A) → IfSome o P → IfSome other P → IfSome (if b then o else other) P
if_valid P true o other first second = first
if_valid P false o other first second = second

isbn_number_valid : (o : Option (List ℕ)) → IfSome o IsIsbnText → IfSome (isbn_number o) IsValid
isbn_number_valid None is = tt
isbn_number_valid (Some isbn) is = if_valid IsValid (is_ismn isbn) None (Some (Isbn isbn)) tt is

issn_valid_of : (o : Option (List ℕ)) → IfSome o IsIssnText → IfSome (option_map Issn o) IsValid
issn_valid_of None is = tt
issn_valid_of (Some issn) is = is

isbn_valid_of : (o : Option (List ℕ)) → IfSome o IsIsbnText → IfSome (option_map Isbn o) IsValid
isbn_valid_of None is = tt
isbn_valid_of (Some isbn) is = is

or_others_valid : (o : Option Identifier) (others : List Identifier) → IfSome o IsValid → All IsValid others → All IsValid (number_or_others o others)
or_others_valid None others is all = all
or_others_valid (Some number) others is all = All-cons IsValid number [] is (All-nil IsValid)

number_or_valid : (o : Option (List ℕ)) (other : Option Identifier) → IfSome o IsIssnText → IfSome other IsValid → IfSome (number_or o other) IsValid
number_or_valid None other is later = later
number_or_valid (Some issn) other is later = is

found_or_valid : (o : Option Identifier) (more : ℕ) (other : Option (Identifier × ℕ)) → IfSome o IsValid → IfSome other IsFound → IfSome (found_or o more other) IsFound
found_or_valid None more other is later = later
found_or_valid (Some number) more other is later = is

onto_valid : (o : Option (Identifier × ℕ)) (numbers : List Identifier) → IfSome o IsFound → All IsValid numbers → All IsValid (number_onto o numbers)
onto_valid None numbers is all = all
onto_valid (Some found) numbers is all = All-cons IsValid found.0 numbers is all

module _ (issn_law : PrintedFormParses issn_of) (isbn_law : PrintedFormParses isbn_of) where
  issn_valid : (text : List ℕ) → IfSome (issn_of text) IsIssnText
  issn_valid text = parsed issn_of issn_law text (issn_of text) refl

  isbn_valid : (text : List ℕ) → IfSome (isbn_of text) IsIsbnText
  isbn_valid text = parsed isbn_of isbn_law text (isbn_of text) refl

  word_valid : (word : List ℕ) → IfSome (number_of_word word) IsValid
  unfolding number_of_word
  word_valid word = number_or_valid (issn_of word) (isbn_number (isbn_of word)) (issn_valid word) (isbn_number_valid (isbn_of word) (isbn_valid word))

  spaced_issn_valid : (words : List (List ℕ)) → IfSome (spaced_issn words) IsIssnText
  unfolding issn_of_halves
  spaced_issn_valid [] = tt
  spaced_issn_valid (front ∷ []) = tt
  spaced_issn_valid (front ∷ back ∷ words) = if_valid IsIssnText _ (issn_of (front ++ back)) None (issn_valid (front ++ back)) tt

  spaced_isbn_valid : (n : ℕ) (words : List (List ℕ)) → IfSome (isbn_number (spaced_isbn n words)) IsValid
  unfolding isbn_of_words
  spaced_isbn_valid n words =
      isbn_number_valid (spaced_isbn n words)
      (if_valid IsIsbnText (list_any is_number (take n words)) None (isbn_of (concat (take n words))) tt (isbn_valid (concat (take n words))))

  first_valid : (words : List (List ℕ)) → IfSome (first_number words) IsFound
  unfolding first_spaced_isbn
  first_valid [] = tt
  first_valid (word ∷ words) =
      found_or_valid (number_of_word word) 0 _ (word_valid word)
      (found_or_valid (number_or (spaced_issn (word ∷ words)) None) 1 _ (number_or_valid (spaced_issn (word ∷ words)) None (spaced_issn_valid (word ∷ words)) tt)
      (if_valid IsFound (begins_with_digit word) (first_spaced_isbn (word ∷ words)) None
      (found_or_valid (isbn_number (spaced_isbn 5 (word ∷ words))) 4 _ (spaced_isbn_valid 5 (word ∷ words))
      (found_or_valid (isbn_number (spaced_isbn 4 (word ∷ words))) 3 _ (spaced_isbn_valid 4 (word ∷ words))
      (found_or_valid (isbn_number (spaced_isbn 3 (word ∷ words))) 2 _ (spaced_isbn_valid 3 (word ∷ words))
      (found_or_valid (isbn_number (spaced_isbn 2 (word ∷ words))) 1 None (spaced_isbn_valid 2 (word ∷ words)) tt)))) tt))

  if_all : (b : Bool) (xs ys : List Identifier) → All IsValid xs → All IsValid ys → All IsValid (if b then xs else ys)
  if_all true xs ys first second = first
  if_all false xs ys first second = second

  after_valid : (words : List (List ℕ)) (skipped : ℕ) → All IsValid (numbers_after skipped words)
  after_valid [] skipped = All-nil IsValid
  after_valid (word ∷ words) skipped =
      if_all (nat_lt 0 skipped) _ _ (after_valid words _)
      (onto_valid (first_number (word ∷ words)) _ (first_valid (word ∷ words)) (after_valid words (taken (first_number (word ∷ words)))))

  text_valid : (text : Option (List ℕ)) → All IsValid (numbers_in_text text)
  unfolding numbers_in
  text_valid None = All-nil IsValid
  text_valid (Some text) = after_valid (words_from [] (plain text)) 0

  issn_is_valid : (text : List ℕ) → IfSome (option_map Issn (issn_of text)) IsValid
  issn_is_valid text = issn_valid_of (issn_of text) (issn_valid text)

  pair_identifier : (pair : List ℕ × List ℕ) → IfSome (identifier_of_pair pair) IsValid
  pair_identifier pair =
      if_valid IsValid (has_key (codes "rft.issn") pair || has_key (codes "rft.eissn") pair) (option_map Issn (issn_of pair.1)) _ (issn_is_valid pair.1)
      (if_valid IsValid (has_key (codes "rft_id") pair) (option_map Issn (issn_of_urn pair.1)) _
      (issn_valid_of (issn_of_urn pair.1)
      (if_valid IsIssnText (has_prefix (codes "urn:ISSN:") pair.1) (issn_of (drop 9 pair.1)) None (issn_valid (drop 9 pair.1)) tt))
      (if_valid IsValid (has_key (codes "rft.isbn") pair) (option_map Isbn (isbn_of pair.1)) None (isbn_valid_of (isbn_of pair.1) (isbn_valid pair.1)) tt))

  pair_valid : (pair : List ℕ × List ℕ) → All IsValid (numbers_of_pair pair)
  unfolding numbers_of_pair
  pair_valid pair =
      or_others_valid (identifier_of_pair pair) (numbers_in_text (number_text (keyed pair))) (pair_identifier pair) (text_valid (number_text (keyed pair)))

  pairs_valid : (pairs : List (List ℕ × List ℕ)) → All IsValid (flat_map numbers_of_pair pairs)
  pairs_valid [] = All-nil IsValid
  pairs_valid (pair ∷ pairs) = All-append IsValid (numbers_of_pair pair) (flat_map numbers_of_pair pairs) (pair_valid pair) (pairs_valid pairs)

  issns_parse : (found : List Identifier) → All IsValid found → All IsIssnText (filter_map issn_in found)
  issns_parse [] all = All-nil IsIssnText
  issns_parse (Issn issn ∷ found) all =
      All-cons IsIssnText issn (filter_map issn_in found) (All-head IsValid (Issn issn) found all) (issns_parse found (All-tail IsValid (Issn issn) found all))
  issns_parse (Isbn isbn ∷ found) all = issns_parse found (All-tail IsValid (Isbn isbn) found all)

  isbns_parse : (found : List Identifier) → All IsValid found → All IsIsbnText (filter_map isbn_in found)
  isbns_parse [] all = All-nil IsIsbnText
  isbns_parse (Isbn isbn ∷ found) all =
      All-cons IsIsbnText isbn (filter_map isbn_in found) (All-head IsValid (Isbn isbn) found all) (isbns_parse found (All-tail IsValid (Isbn isbn) found all))
  isbns_parse (Issn issn ∷ found) all = isbns_parse found (All-tail IsValid (Issn issn) found all)

-- the set of identifiers that parse
set_parses : (P : List ℕ → Type 0) (ones set : List (List ℕ)) → All P ones → All P set → All P (fold (insert_key bytes_cmp) set ones)
set_parses P [] set all others = others
set_parses P (one ∷ ones) set all others =
    set_parses P ones (insert_key bytes_cmp set one) (All-tail P one ones all) (All-insert_key bytes_cmp one P set others (All-head P one ones all))

abbrev IsSet : (List ℕ → Type 0) → List (List ℕ) → Type 0
IsSet P set = IsAscending set × All P set

abbrev AreValid : IdentifiersValue → Type 0
AreValid found = IsSet IsIssnText found.issns × IsSet IsIsbnText found.isbns

abbrev pub IsLookedUp : LookedUp → Type 0
IsLookedUp found = AreIdentifiers found.issns found.isbns × IsCounted found.issns found.isbns found.refusal

identifiers_of_valid : (found : IdentifiersValue) → AreValid found → AreIdentifiers found.issns found.isbns
identifiers_of_valid found valid =
    record { issns_ascend = valid.0.0; isbns_ascend = valid.1.0; issns_parse = valid.0.1; isbns_parse = valid.1.1 }

some_count : (issns isbns : List (List ℕ)) → (is_empty issns && is_empty isbns) ≡ false → 0 < count issns isbns
some_count [] [] e = absurd (cc)
some_count [] (isbn ∷ isbns) e = omega arith
some_count (issn ∷ issns) isbns e = omega arith

module _ (ascend : SetsAscend) (issn_law : PrintedFormParses issn_of) (isbn_law : PrintedFormParses isbn_of) where
  set_valid : (P : List ℕ → Type 0) (ones : List (List ℕ)) → All P ones → IsSet P (identifier_set ones)
  set_valid P ones all = (ascend ones, set_parses P ones [] all (All-nil P))

  among_valid : (found : List Identifier) → All IsValid found → AreValid (identifiers_among found)
  among_valid found all = (
    set_valid IsIssnText (filter_map issn_in found) (issns_parse issn_law isbn_law found all),
    set_valid IsIsbnText (filter_map isbn_in found) (isbns_parse issn_law isbn_law found all),
  )

  refused_valid : (why : OpenUrlFault) → IsLookedUp (refused why)
  refused_valid why =
      (identifiers_of_valid (record { issns = []; isbns = [] }) (set_valid IsIssnText [] (All-nil IsIssnText), set_valid IsIsbnText [] (All-nil IsIsbnText)), refl)

  limited : (found : IdentifiersValue) (b : Bool) → nat_lt identifier_limit (count found.issns found.isbns) ≡ b → AreValid found → are_none found ≡ false
      → IsLookedUp (if b then refused reason.TooMany else record { issns = found.issns; isbns = found.isbns; refusal = None })
  limited found true e valid some = refused_valid reason.TooMany
  limited found false e valid some =
      (identifiers_of_valid found valid, (some_count found.issns found.isbns some, ltb-false identifier_limit (count found.issns found.isbns) e))

  limit_valid : (found : IdentifiersValue) → AreValid found → are_none found ≡ false → IsLookedUp (within_limit found)
  limit_valid found valid some = limited found (nat_lt identifier_limit (count found.issns found.isbns)) refl valid some

  looked_by : (pairs : List (List ℕ × List ℕ)) (b : Bool) → are_none (identifiers_of pairs) ≡ b
      → IsLookedUp (if b then refused (reason_without (map keyed pairs)) else within_limit (identifiers_of pairs))
  looked_by pairs true e = refused_valid (reason_without (map keyed pairs))
  looked_by pairs false e = limit_valid (identifiers_of pairs) (among_valid (flat_map numbers_of_pair pairs) (pairs_valid issn_law isbn_law pairs)) e

  -- what is looked up for a query is valid
  pub looked_up_valid : (pairs : List (List ℕ × List ℕ)) → IsLookedUp (looked_up pairs)
  looked_up_valid pairs = looked_by pairs (are_none (identifiers_of pairs)) refl
