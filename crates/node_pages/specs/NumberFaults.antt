-- The faults of a text that is neither an ISSN nor an ISBN.
use Rattle.std.specs.Prelude.{ℕ, ◌-◌, ◌==◌, ◌&&◌, ◌||◌, Bool, not, if◌then◌else◌, List, [], ◌∷◌, ◌++◌, codes, filter, is_some, length, take, Option, Some, None}
use Rattle.std.specs.Char.{is_ascii_digit}
use Rattle.std.specs.List.{list_all}
use Rattle.feed_answer.specs.Pairs.{is_empty}
use Rattle.feed_identifiers.specs.Check.{is_check}
use Rattle.feed_identifiers.specs.Isbn.{isbn_of}
use Rattle.feed_identifiers.specs.Issn.{issn_of}
use Rattle.node_site.specs.Site as site_file
use Rattle.node_site.specs.Texts.{text_of}
use Rattle.node_site.specs.declared.text_table.Text.{Text}
use Rattle.node_site.specs.declared.text_table.Text.TheVariants as text
use Rattle.node_pages.specs.declared.number_faults.NumberKind.{NumberKind}
use Rattle.node_pages.specs.declared.number_faults.NumberKind.TheVariants.{Issn, Isbn}
use Rattle.node_pages.specs.declared.number_faults.NumberFault.{NumberFault}
use Rattle.node_pages.specs.declared.number_faults.NumberFault.TheVariants.{LastCharacter, OtherCharacter, IssnLength, IsbnLength, IsbnFront}

-- neither a hyphen nor a space
abbrev pub is_kept : ℕ → Bool
is_kept b = not (b == 45) && not (b == 32)

abbrev pub is_number : NumberKind → List ℕ → Bool
is_number Issn number = is_some (issn_of number)
is_number Isbn number = is_some (isbn_of number)

-- the first of some characters with which a text is a number
abbrev pub right_last : NumberKind → List ℕ → List ℕ → Option ℕ
right_last kind front [] = None
right_last kind front (last ∷ choices) = if is_number kind (front ++ last ∷ []) then Some last else right_last kind front choices

-- a text without its last character
abbrev pub front_of : List ℕ → List ℕ
front_of number = take (length number - 1) number

-- digits, and a digit or an X at the end
abbrev pub has_digits : List ℕ → Bool
has_digits number = list_all is_ascii_digit (front_of number) && list_all is_check number

-- digits that are not a number with any last one: too few or too many, or thirteen that begin with neither 978 nor 979
abbrev pub length_fault : NumberKind → List ℕ → NumberFault
length_fault Issn number = IssnLength
length_fault Isbn number = if length number == 13 then IsbnFront else IsbnLength

-- the character that should be the last one, if there is such; or else another fault
abbrev pub fault_by : NumberKind → List ℕ → Option ℕ → NumberFault
fault_by kind number (Some last) = LastCharacter last
fault_by kind number None = if has_digits number then length_fault kind number else OtherCharacter

-- what is wrong with a text without hyphens and spaces, unless there is none or it is a number
abbrev pub fault_of : NumberKind → List ℕ → Option NumberFault
fault_of kind number =
    if is_empty number || is_number kind number then None
    else Some (fault_by kind number (right_last kind (front_of number) (codes "0123456789X")))

abbrev pub fault_text : NumberFault → Text
fault_text (LastCharacter last) = text.LastCharacter
fault_text OtherCharacter = text.OtherCharacter
fault_text IssnLength = text.IssnLength
fault_text IsbnLength = text.IsbnLength
fault_text IsbnFront = text.IsbnFront

-- the character, if it is known, behind the text that says so
abbrev pub last_words : NumberFault → List ℕ
last_words (LastCharacter last) = 32 ∷ last ∷ []
last_words fault = []

abbrev pub words_of : site_file.SiteValue → NumberFault → List ℕ
words_of site fault = text_of site (fault_text fault) ++ last_words fault

abbrev pub words_by : site_file.SiteValue → Option NumberFault → List ℕ
words_by site None = []
words_by site (Some fault) = words_of site fault

-- what is wrong with an ISSN or an ISBN, in words, if anything is
abbrev pub fault_words : site_file.SiteValue → NumberKind → List ℕ → List ℕ
fault_words site kind number = words_by site (fault_of kind (filter is_kept number))
