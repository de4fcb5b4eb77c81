-- The numbers of a script.
use Rattle.std.specs.Prelude.{ℕ, List, length, nat_le, if◌then◌else◌, Option, None, Result, Ok, Err}
use Rattle.std.specs.Option.{option_map_or}
use Rattle.feed_bytes.specs.Split.{number_in_64_bits}
use Rattle.feed_replay.specs.declared.line_fault.LineFault.{LineFault}
use Rattle.feed_replay.specs.declared.line_fault.LineFault.TheVariants.{BadNumber}

-- the number that a word of 1 to 20 digits denotes, if it fits in 64 bits; zeros may be in front
abbrev pub number_of : List ℕ → Option ℕ
number_of word = if nat_le (length word) 20 then number_in_64_bits word else None

-- the number of a word, or its fault
abbrev pub read_number : List ℕ → Result ℕ LineFault
read_number word = option_map_or (λ number. Ok number) (number_of word) (Err BadNumber)
