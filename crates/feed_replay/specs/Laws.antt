-- Laws of escaped texts and of numbers.
use Rattle.std.specs.Prelude.{◌≡◌, ◌<◌, ◌^◌, ℕ, List, Bool, Some, All}
use Rattle.std.specs.Fmt.{decimal}
use Rattle.feed_replay.specs.Escapes.{escaped, unescaped}
use Rattle.feed_replay.specs.Numbers.{number_of}

-- bytes that are written with escapes, with digits of either case, are read back
abbrev pub EscapedReadsBack : Type 0
EscapedReadsBack =
    (capitals : Bool) (bytes : List ℕ) → All (λ b. b < 256) bytes → unescaped (escaped capitals bytes) ≡ Some bytes

-- a number that is written in decimal is read back, if it fits in 64 bits
abbrev pub NumberReadsBack : Type 0
NumberReadsBack = (number : ℕ) → number < 2 ^ 64 → number_of (decimal number) ≡ Some number
