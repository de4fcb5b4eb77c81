-- Pairs that change places, and the members of what pairs have.
use Rattle.std.proofs.Common.{◌≡◌, ℕ, Bool, true, false, ◌||◌, List, [], ◌∷◌, ◌++◌, map, Option, if◌then◌else◌, refl, sym, ap, ◌∙◌}
use Rattle.std.specs.Prelude.{◌&&◌, not}
use Rattle.std.specs.List.{filter_map, flat_map, list_any}
use Rattle.std.proofs.lemmas.List.Elements.{filter_map-append}
use Rattle.std.proofs.lemmas.List.Folds.{list_any-append}
use Rattle.std.specs.Str.{bytes_eq}
use Rattle.feed_answer.specs.IdentifierSet.{identifier_set, is_among}
use Rattle.feed_answer.specs.Laws.{SetHasExactlyItsIdentifiers, SetsAscend}
use Rattle.feed_answer.specs.Pairs.{book_format, journal_format}
use Rattle.feed_identifiers.specs.Identifier.{isbn_in, issn_in}
use Rattle.feed_openurl.specs.Identifiers.{IdentifiersValue, LookedUp, are_none, identifiers_of, looked_up, numbers_of_pair}
use Rattle.feed_openurl.specs.Identifiers.{reason_by, reason_without, refused, within_limit}
use Rattle.feed_openurl.specs.Keys.{keyed}
use Rattle.feed_openurl.specs.Kinds.{formats_of, names_format, names_other_format, names_other_version}
use Rattle.feed_openurl.specs.Laws.{OrderIsFree}
use Rattle.feed_openurl.specs.declared.fault.OpenUrlFault.{OpenUrlFault}
use Rattle.feed_openurl.specs.declared.fault.OpenUrlFault.TheVariants as reason
use Rattle.feed_openurl.specs.declared.key.Key.{Key}
use Rattle.feed_identifiers.specs.declared.identifier.Identifier.{Identifier}
use Rattle.feed_openurl.proofs.Members.{same_set}

abbrev pub Pair : Type 0
Pair = List ℕ × List ℕ

or_swap : (a b c : Bool) → (a || (b || c)) ≡ (b || (a || c))
or_swap true true c = refl
or_swap true false c = refl
or_swap false b c = refl

any_swapped : (p : Pair → Bool) (before after : List Pair) (first second : Pair)
    → list_any p (before ++ first ∷ second ∷ after) ≡ list_any p (before ++ second ∷ first ∷ after)
any_swapped p [] after first second = or_swap (p first) (p second) (list_any p after)
any_swapped p (pair ∷ before) after first second = ap (λ b. p pair || b) (any_swapped p before after first second)

any_mapped : (p : Key × List ℕ → Bool) (pairs : List Pair) → list_any p (map keyed pairs) ≡ list_any (λ pair. p (keyed pair)) pairs
any_mapped p [] = refl
any_mapped p (pair ∷ pairs) = ap (λ b. p (keyed pair) || b) (any_mapped p pairs)

-- an identifier is among those of all pairs if it is among those of one
pub among_pairs : (read : Identifier → Option (List ℕ)) (one : List ℕ) (pairs : List Pair)
    → is_among one (filter_map read (flat_map numbers_of_pair pairs)) ≡ list_any (λ pair. is_among one (filter_map read (numbers_of_pair pair))) pairs
among_pairs read one [] = refl
among_pairs read one (pair ∷ pairs) =
    ap (is_among one) (filter_map-append read (numbers_of_pair pair) (flat_map numbers_of_pair pairs))
    ∙ list_any-append (λ other. bytes_eq other one) (filter_map read (numbers_of_pair pair)) (filter_map read (flat_map numbers_of_pair pairs))
    ∙ ap (λ b. is_among one (filter_map read (numbers_of_pair pair)) || b) (among_pairs read one pairs)

module _ (before after : List Pair) (first second : Pair) where
  abbrev these : List Pair
  these = before ++ first ∷ second ∷ after

  abbrev those : List Pair
  those = before ++ second ∷ first ∷ after

  any_value : (p : Key × List ℕ → Bool) → list_any p (map keyed these) ≡ list_any p (map keyed those)
  any_value p = any_mapped p these ∙ any_swapped (λ pair. p (keyed pair)) before after first second ∙ sym (any_mapped p those)

  same_reason : reason_without (map keyed these) ≡ reason_without (map keyed those)
  same_reason =
      let reason_of = λ (version other journal book : Bool). if version then reason.Version else if other then reason.OtherFormat
      else (if book && not journal then reason.NoIsbn else reason.NoIssn) in
      let other = list_any names_other_format (map keyed these) in
      let journal = list_any (names_format journal_format) (map keyed these) in
      let book = list_any (names_format book_format) (map keyed these) in
      ap (λ b. reason_of b other journal book) (any_value names_other_version)
      ∙ ap (λ b. reason_of (list_any names_other_version (map keyed those)) b journal book) (any_value names_other_format)
      ∙ ap (λ b. reason_of (list_any names_other_version (map keyed those)) (list_any names_other_format (map keyed those)) b book) (any_value (names_format journal_format))
      ∙ ap (λ b. reason_of (list_any names_other_version (map keyed those)) (list_any names_other_format (map keyed those)) (list_any (names_format journal_format) (map keyed those)) b)
      (any_value (names_format book_format))

  module _ (ascend : SetsAscend) (exact : SetHasExactlyItsIdentifiers) where
    same_texts : (read : Identifier → Option (List ℕ))
        → identifier_set (filter_map read (flat_map numbers_of_pair these)) ≡ identifier_set (filter_map read (flat_map numbers_of_pair those))
    same_texts read =
        same_set ascend exact (filter_map read (flat_map numbers_of_pair these)) (filter_map read (flat_map numbers_of_pair those))
        (λ one. among_pairs read one these ∙ any_swapped (λ pair. is_among one (filter_map read (numbers_of_pair pair))) before after first second ∙ sym (among_pairs read one those))

    same_identifiers : identifiers_of these ≡ identifiers_of those
    same_identifiers =
        ap (λ (l : List (List ℕ)). record { issns = l; isbns = identifier_set (filter_map isbn_in (flat_map numbers_of_pair these)) }) (same_texts issn_in)
        ∙ ap (λ (l : List (List ℕ)). record { issns = identifier_set (filter_map issn_in (flat_map numbers_of_pair those)); isbns = l }) (same_texts isbn_in)

    same_looked_up : looked_up these ≡ looked_up those
    same_looked_up =
        ap (λ (f : IdentifiersValue). if are_none f then refused (reason_without (map keyed these)) else within_limit f) same_identifiers
        ∙ ap (λ (r : OpenUrlFault). if are_none (identifiers_of those) then refused r else within_limit (identifiers_of those)) same_reason

pub order_free : SetsAscend → SetHasExactlyItsIdentifiers → OrderIsFree
order_free ascend exact before after first second = same_looked_up before after first second ascend exact
