-- Whether a file is good, and its holdings.
use Rattle.std.specs.Prelude.{◌≡◌, ◌≤◌, ◌<◌, not, ℕ, List, [], ◌∷◌, length, Option, Some, None, Result, Ok, Err, if◌then◌else◌}
use Rattle.std.specs.Str.{is_utf8}
use Rattle.feed_text.specs.Records.{has_two_marks, records_of}
use Rattle.feed_kbart.specs.Columns.{bad_header, columns_of}
use Rattle.feed_kbart.specs.Holdings.{holdings_from, no_holdings}
use Rattle.feed_kbart.specs.CountValue.{CountValue}
use Rattle.feed_kbart.specs.HoldingsValue.{HoldingsValue}
use Rattle.feed_limits.specs.Limits.{file_limit}
use Rattle.feed_kbart.specs.declared.fault.BadFile.{BadFile}
use Rattle.feed_kbart.specs.declared.fault.BadFile.TheVariants.{NotUtf8, TwoMarks, NoHeader}
use Rattle.feed_kbart.specs.declared.fault.KbartFault.{KbartFault}
use Rattle.feed_kbart.specs.declared.fault.KbartFault.TheVariants.{Bad, Memory, Read, TooLong}

-- the first record is the header
abbrev pub bad_records : List (List (List ℕ)) → Option BadFile
bad_records [] = Some NoHeader
bad_records (header ∷ records) = bad_header header

-- the first reason why a text is bad, or nothing if it is good
unfoldable pub bad_of : List ℕ → Option BadFile
bad_of text =
    if not (is_utf8 text) then Some NotUtf8
    else if has_two_marks text then Some TwoMarks
    else bad_records (records_of text)

-- the records after the header are numbered from 2
abbrev pub holdings_in : List (List (List ℕ)) → HoldingsValue
holdings_in [] = no_holdings
holdings_in (header ∷ records) = holdings_from (columns_of header) 2 records

-- the holdings of a text
unfoldable pub holdings_of : List ℕ → HoldingsValue
holdings_of text = holdings_in (records_of text)

-- what a fault says about the bytes of a reader; `Memory` and `Read` say nothing about them
abbrev pub IsFaultOf : List ℕ → KbartFault → Type 0
IsFaultOf text (Bad why) = (length text ≤ file_limit) × (bad_of text ≡ Some why)
IsFaultOf text TooLong = file_limit < length text
IsFaultOf text Memory = Unit {0}
IsFaultOf text Read = Unit {0}

-- what reading bytes may return: the holdings of a good text within the limit, or a fault
abbrev pub IsReadOf : List ℕ → Result HoldingsValue KbartFault → Type 0
IsReadOf text (Ok holdings) = (length text ≤ file_limit) × (bad_of text ≡ None) × (holdings ≡ holdings_of text)
IsReadOf text (Err fault) = IsFaultOf text fault

-- the same for counting rows
abbrev pub IsCountOf : List ℕ → Result CountValue KbartFault → Type 0
IsCountOf text (Ok count) = (length text ≤ file_limit) × (bad_of text ≡ None)
    × (count.rows ≡ length (holdings_of text).rows) × (count.aside ≡ (holdings_of text).aside)
IsCountOf text (Err fault) = IsFaultOf text fault
