-- The form of embargo_info (NISO RP-9-2014).
use Rattle.std.specs.Prelude.{ℕ, ◌-◌, ◌==◌, ◌||◌, nat_lt, nat_le, if◌then◌else◌, List, [], ◌∷◌, length, slice_index, slice_range, Option, Some, None}
use Rattle.std.specs.Option.{option_and_then}
use Rattle.feed_bytes.specs.Trim.{trimmed}
use Rattle.feed_bytes.specs.Split.{number_of, split_once}
use Rattle.feed_answer.specs.declared.wall.Span.{Span}
use Rattle.feed_answer.specs.declared.wall.Span.TheVariants.{Days, Months, Years}
use Rattle.feed_answer.specs.declared.statement.Statement.{Statement}
use Rattle.feed_answer.specs.declared.statement.Statement.TheVariants.{Begins, Ends}
use Rattle.feed_answer.specs.declared.embargo.Embargo.{Embargo}

-- a length that is not 0
abbrev pub some_length : ℕ → Option ℕ
some_length number = if number == 0 then None else Some number

-- the length that one to nine digits denote, if they are not all 0
abbrev pub length_of : List ℕ → Option ℕ
length_of digits = if nat_le (length digits) 9 then option_and_then some_length (number_of digits) else None

-- the days (`D` or `d`), months (`M` or `m`) or years (`Y` or `y`) of a length
abbrev pub span_of : ℕ → ℕ → Option Span
span_of number unit =
    if (unit == 68) || (unit == 100) then Some (Days number)
    else if (unit == 77) || (unit == 109) then Some (Months number)
    else if (unit == 89) || (unit == 121) then Some (Years number)
    else None

-- the beginning of access (`R` or `r`) or its end (`P` or `p`)
abbrev pub typed : ℕ → Span → Option Statement
typed kind span =
    if (kind == 82) || (kind == 114) then Some (Begins span)
    else if (kind == 80) || (kind == 112) then Some (Ends span)
    else None

-- a statement from its type, its length and its unit
abbrev pub statement_with : ℕ → ℕ → Option ℕ → Option Statement
statement_with kind unit number = option_and_then (typed kind) (option_and_then (λ n. span_of n unit) number)

-- a statement: a letter for its type, the digits of its length and a letter for its unit
abbrev pub statement_of : List ℕ → Option Statement
statement_of text =
    if nat_lt (length text) 3 then None
    else statement_with (slice_index text 0) (slice_index text (length text - 1)) (length_of (slice_range text 1 (length text - 1)))

-- the embargo of one statement
abbrev pub one : Option Statement → Option Embargo
one None = None
one (Some (Begins span)) = Some (record { begins = Some span; ends = None })
one (Some (Ends span)) = Some (record { begins = None; ends = Some span })

-- the embargo of two statements, which are of both types
abbrev pub both : Option Statement → Option Statement → Option Embargo
both (Some (Begins first)) (Some (Ends last)) = Some (record { begins = Some first; ends = Some last })
both (Some (Ends last)) (Some (Begins first)) = Some (record { begins = Some first; ends = Some last })
both one other = None

-- the embargo of the statements before and after the first `;`, or of one statement where there is none
abbrev pub embargo_by : List ℕ → Option (List ℕ × List ℕ) → Option Embargo
embargo_by text None = one (statement_of text)
embargo_by text (Some parts) = both (statement_of (trimmed parts.0)) (statement_of (trimmed parts.1))

-- the embargo of a trimmed text; an empty one is none
abbrev pub embargo_in : List ℕ → Option Embargo
embargo_in [] = Some (record { begins = None; ends = None })
embargo_in (b ∷ bytes) = embargo_by (b ∷ bytes) (split_once 59 (b ∷ bytes))

-- the embargo of a text, if it has the form
abbrev pub embargo_of : List ℕ → Option Embargo
embargo_of text = embargo_in (trimmed text)
