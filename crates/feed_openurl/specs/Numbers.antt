-- The ISSNs and the ISBNs in a value that has several, or words and spaces around them.
use Rattle.std.specs.Prelude.{ℕ, Bool, false, ◌||◌, ◌&&◌, ◌-◌, ◌==◌, nat_lt, List, [], ◌∷◌, ◌++◌, take, length, Option, Some, None, is_some, if◌then◌else◌, codes}
use Rattle.std.specs.Char.{is_ascii_alphanumeric}
use Rattle.std.specs.List.{concat, list_any}
use Rattle.std.specs.Str.{bytes_eq}
use Rattle.feed_identifiers.specs.Isbn.{isbn_of}
use Rattle.feed_identifiers.specs.Issn.{issn_of}
use Rattle.feed_answer.specs.Pairs.{is_empty}
use Rattle.feed_openurl.specs.Keys.{after_prefix, or_else}
use Rattle.feed_openurl.specs.Plain.{plain}
use Rattle.feed_openurl.specs.Volumes.{after_letters, begins_with_digit}
use Rattle.feed_identifiers.specs.declared.identifier.Identifier.{Identifier}
use Rattle.feed_identifiers.specs.declared.identifier.Identifier.TheVariants.{Isbn, Issn}

-- a word has letters, digits and hyphens; `_` is a letter beyond ASCII
abbrev pub is_word_byte : ℕ → Bool
is_word_byte b = is_ascii_alphanumeric b || (b == 45) || (b == 95)

-- a text without a prefix, if it has it
abbrev pub without : List ℕ → List ℕ → List ℕ
without front text = or_else (after_prefix front text) text

-- a word without letters and a hyphen at its front, as in `EISSN-1935-102X`
abbrev pub without_letters : List ℕ → List ℕ
without_letters word = or_else (after_prefix (codes "-") (after_letters word)) word

-- a word without a label that is written onto it, as in `ISSN2434-561X`
unfoldable pub unlabelled : List ℕ → List ℕ
unlabelled word = without_letters (without (codes "ISSN") (without (codes "ISBN") word))

-- a word goes before others, unless nothing is left of it
abbrev pub onto : List ℕ → List (List ℕ) → List (List ℕ)
onto word words = if is_empty word then words else word ∷ words

-- a sign other than a space goes before others, as a word of its own: no number reaches over it
abbrev pub sign_onto : ℕ → List (List ℕ) → List (List ℕ)
sign_onto b words = if b == 32 then words else (b ∷ []) ∷ words

-- the words of a text whose first word has begun; no word begins with a hyphen
abbrev pub words_from : List ℕ → List ℕ → List (List ℕ)
words_from begun [] = onto (unlabelled begun) []
words_from begun (b ∷ bytes) =
    if is_empty begun && (b == 45) then words_from [] bytes
    else if is_word_byte b then words_from (begun ++ b ∷ []) bytes
    else onto (unlabelled begun) (sign_onto b (words_from [] bytes))

-- an ISMN (ISO 10957) has the form of an ISBN
abbrev pub is_ismn : List ℕ → Bool
is_ismn isbn = bytes_eq (take 4 isbn) (codes "9790")

-- the number that a word is by itself, by its form and its check character
abbrev pub isbn_number : Option (List ℕ) → Option Identifier
isbn_number (Some isbn) = if is_ismn isbn then None else Some (Isbn isbn)
isbn_number None = None

abbrev pub number_or : Option (List ℕ) → Option Identifier → Option Identifier
number_or (Some issn) other = Some (Issn issn)
number_or None other = other

unfoldable pub number_of_word : List ℕ → Option Identifier
number_of_word word = number_or (issn_of word) (isbn_number (isbn_of word))

-- a word is a number by itself
abbrev pub is_number : List ℕ → Bool
is_number word = is_some (number_of_word word)

-- two words have the lengths of the halves of an ISSN; the first may end in the hyphen
abbrev pub are_halves : List ℕ → List ℕ → Bool
are_halves front back = (length back == 4) && ((length front == 4) || (length front == 5))

-- the ISSN of two words, if a space appears in place of its hyphen, or behind it
unfoldable pub issn_of_halves : List ℕ → List ℕ → Option (List ℕ)
issn_of_halves front back = if are_halves front back then issn_of (front ++ back) else None

-- the ISSN of the first two words
abbrev pub spaced_issn : List (List ℕ) → Option (List ℕ)
spaced_issn (front ∷ back ∷ words) = issn_of_halves front back
spaced_issn _ = None

-- the ISBN of words together, if spaces appear in place of its hyphens, and none of them is a number by itself
unfoldable pub isbn_of_words : List (List ℕ) → Option (List ℕ)
isbn_of_words words = if list_any is_number words then None else isbn_of (concat words)

abbrev pub spaced_isbn : ℕ → List (List ℕ) → Option (List ℕ)
spaced_isbn count words = isbn_of_words (take count words)

-- a number at the front of some words, and how many words after the first it takes
abbrev pub found_or : Option Identifier → ℕ → Option (Identifier × ℕ) → Option (Identifier × ℕ)
found_or (Some number) more other = Some (number, more)
found_or None more other = other

-- the ISBN of the first five words, or else of four, of three, or of two
unfoldable pub first_spaced_isbn : List (List ℕ) → Option (Identifier × ℕ)
first_spaced_isbn words =
    found_or (isbn_number (spaced_isbn 5 words)) 4
    (found_or (isbn_number (spaced_isbn 4 words)) 3
    (found_or (isbn_number (spaced_isbn 3 words)) 2
    (found_or (isbn_number (spaced_isbn 2 words)) 1 None)))

-- each ISBN begins with a digit
abbrev pub spaced_number : List ℕ → List (List ℕ) → Option (Identifier × ℕ)
spaced_number word words = if begins_with_digit word then first_spaced_isbn (word ∷ words) else None

-- the number at the front of some words: a word, or else an ISSN of two words, or else an ISBN of several words
abbrev pub first_number : List (List ℕ) → Option (Identifier × ℕ)
first_number [] = None
first_number (word ∷ words) =
    found_or (number_of_word word) 0
    (found_or (number_or (spaced_issn (word ∷ words)) None) 1 (spaced_number word words))

-- the number that is found goes before others
abbrev pub number_onto : Option (Identifier × ℕ) → List Identifier → List Identifier
number_onto (Some found) numbers = found.0 ∷ numbers
number_onto None numbers = numbers

abbrev pub taken : Option (Identifier × ℕ) → ℕ
taken (Some found) = found.1
taken None = 0

-- the numbers of some words, if the first ones belong to a number already
abbrev pub numbers_after : ℕ → List (List ℕ) → List Identifier
numbers_after skipped [] = []
numbers_after skipped (word ∷ words) =
    if nat_lt 0 skipped then numbers_after (skipped - 1) words
    else number_onto (first_number (word ∷ words)) (numbers_after (taken (first_number (word ∷ words))) words)

-- the numbers of a value, from its front to its end
unfoldable pub numbers_in : List ℕ → List Identifier
numbers_in value = numbers_after 0 (words_from [] (plain value))
