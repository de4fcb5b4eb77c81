-- Parsing and writing Content-Range values (RFC 9110, section 14.4).
use Rattle.std.specs.Prelude.{ℕ, ◌≤◌, ◌<◌, ◌^◌, List, ◌++◌, Bool, true, false, ◌&&◌, ◌||◌, nat_lt}
use Rattle.std.specs.Prelude.{nat_le, codes, if◌then◌else◌, Option, Some, None, Result, Ok, Err, IfSome, ⊤}
use Rattle.std.specs.Option.{option_and_then, option_map, option_map_or}
use Rattle.std.specs.Str.{bytes_eq}
use Rattle.std.specs.Fmt.{decimal}
use Rattle.feed_bytes.specs.Split.{dash, slash, strip_prefix, split_once, number_of, fits}
use Rattle.feed_range.specs.declared.content.ContentRange.{ContentRange}
use Rattle.feed_range.specs.declared.content.ContentRange.TheVariants.{Part, Unsatisfied}
use Rattle.feed_range.specs.declared.content.RangeFault.{RangeFault}
use Rattle.feed_range.specs.declared.content.RangeFault.TheVariants.{BadSyntax, TooBig, Invalid}

-- the text is `*`
abbrev pub is_star : List ℕ → Bool
is_star text = bytes_eq text (codes "*")

-- the length of the whole, if the text is a number or `*`, which means that the length is unknown
abbrev pub total_of : List ℕ → Option (Option ℕ)
total_of text = if is_star text then Some None else option_map Some (number_of text)

-- the length of the whole fits in 64 bits, if it is known
abbrev pub total_fits : Option ℕ → Bool
total_fits total = option_map_or fits total true

-- the length of the whole, if it fits in 64 bits
abbrev pub total_in_64_bits : Option ℕ → Option (Option ℕ)
total_in_64_bits total = if total_fits total then Some total else None

-- the part from first to last, unless last is below first or the total is not above last
abbrev pub part_in_order : ℕ → ℕ → Option ℕ → Result ContentRange RangeFault
part_in_order first last total =
    if nat_lt last first || option_map_or (λ length. nat_le length last) total false
    then Err Invalid
    else Ok (Part first last total)

-- first-last/total, from the numbers of the three texts
abbrev pub part_of : Option ℕ → Option ℕ → Option (Option ℕ) → Result ContentRange RangeFault
part_of (Some first) (Some last) (Some total) =
    if fits first && fits last && total_fits total then part_in_order first last total else Err TooBig
part_of first last total = Err BadSyntax

-- */total, from the number of the text
abbrev pub unsatisfied_of : Option ℕ → Result ContentRange RangeFault
unsatisfied_of (Some total) = if fits total then Ok (Unsatisfied total) else Err TooBig
unsatisfied_of None = Err BadSyntax

-- the range given by the texts before and after the slash
abbrev pub range_of : List ℕ → List ℕ → Result ContentRange RangeFault
range_of places total =
    if is_star places then unsatisfied_of (number_of total)
    else option_map_or (λ parts. part_of (number_of parts.0) (number_of parts.1) (total_of total))
    (split_once dash places) (Err BadSyntax)

-- the range that the value denotes
abbrev pub content_range : List ℕ → Result ContentRange RangeFault
content_range text =
    option_map_or (λ parts. range_of parts.0 parts.1)
    (option_and_then (split_once slash) (strip_prefix (codes "bytes ") text)) (Err BadSyntax)

-- the value that denotes the range
abbrev pub content_range_text : ContentRange → List ℕ
content_range_text (Part first last (Some total)) =
    codes "bytes " ++ decimal first ++ codes "-" ++ decimal last ++ codes "/" ++ decimal total
content_range_text (Part first last None) =
    codes "bytes " ++ decimal first ++ codes "-" ++ decimal last ++ codes "/*"
content_range_text (Unsatisfied total) = codes "bytes */" ++ decimal total

-- the range itself, or what is wrong with the order of its numbers
abbrev pub range_in_order : ContentRange → Result ContentRange RangeFault
range_in_order (Part first last total) = part_in_order first last total
range_in_order (Unsatisfied total) = Ok (Unsatisfied total)

-- first is not above last, and last is below the total, if that is known
abbrev pub IsInOrder : ContentRange → Type 0
IsInOrder (Part first last total) = (first ≤ last) × IfSome total (λ length. last < length)
IsInOrder (Unsatisfied total) = ⊤

-- the numbers fit in 64 bits, as those of every range in a program do
abbrev pub FitsIn64Bits : ContentRange → Type 0
FitsIn64Bits (Part first last total) = (first < 2 ^ 64) × (last < 2 ^ 64) × IfSome total (λ length. length < 2 ^ 64)
FitsIn64Bits (Unsatisfied total) = total < 2 ^ 64
