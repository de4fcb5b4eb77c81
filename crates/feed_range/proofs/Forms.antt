-- The range that a Range value asks for, by its form.
use Rattle.std.proofs.Common.{◌≡◌, ◌<◌, ◌+◌, ℕ, List, [], ◌∷◌, ◌++◌, length, take, drop, Bool, true}
use Rattle.std.proofs.Common.{false, Option, Some, None, refl, sym, ap, arith, ◌∙◌, suc, codes, subst, get_or}
use Rattle.std.specs.Prelude.{nat_lt, not, ◌==◌, if◌then◌else◌}
use Rattle.std.specs.List.{list_all, position_or_len}
use Rattle.std.specs.Option.{option_and_then, option_map, option_map_or}
use Rattle.std.specs.Char.{is_ascii_digit}
use Rattle.std.specs.Str.{str_eq_ignore_ascii_case}
use Rattle.std.specs.Str.Parse.{digits_value}
use Rattle.std.proofs.Common.{drop_at}
use Rattle.std.proofs.lemmas.List.{take_at, take-append-drop}
use Rattle.std.proofs.lemmas.List.Sums.{split_at_first, prefix_len_stops}
use borrow.Author.Tests.{eqb-true, ltb-true, ne_eqb}
use Rattle.feed_bytes.specs.Split.{dash, strip_prefix, split_once, is_number, number_of, capped_number}
use Rattle.feed_range.specs.RangeAsk.{ask_of, places_of, places_by_form, IsRangeValue, IsOtherValue, AsksByForm}
use Rattle.feed_range.specs.declared.range_ask.RangeAsk.TheVariants.{Whole}
use Rattle.feed_bytes.proofs.Digits.{both, number_parts}
use Rattle.feed_bytes.proofs.Cuts.{lacks-digits, split_once-at}

-- texts that are equal but for their case are equally long
same_length : (a b : List ℕ) → str_eq_ignore_ascii_case a b ≡ true → length a ≡ length b
same_length [] [] same = refl
same_length [] (y ∷ ys) same = absurd (cc)
same_length (x ∷ xs) [] same = absurd (cc)
same_length (x ∷ xs) (y ∷ ys) same = ap suc (same_length xs ys (both _ _ same).1)

-- what follows the unit
stripped : (unit rest : List ℕ) → str_eq_ignore_ascii_case unit (codes "bytes=") ≡ true → strip_prefix (codes "bytes=") (unit ++ rest) ≡ Some rest
stripped unit rest is =
    let long : length unit ≡ 6 = same_length unit (codes "bytes=") is in
    rw (take_at unit rest 6 long, drop_at unit rest 6 long, is) refl

digits_of : (text : List ℕ) (n : ℕ) → number_of text ≡ Some n → list_all is_ascii_digit text ≡ true
digits_of text n e = by_test (is_number text) refl e
  where
    by_test : (b : Bool) → is_number text ≡ b → (if b then Some (digits_value 10 text) else None) ≡ Some n → list_all is_ascii_digit text ≡ true
    by_test true t e = (number_parts text t).1
    by_test false t e = absurd (cc)

-- a value of that form asks for what the texts round the dash say
asked : (value before after : List ℕ) (size : ℕ) → IsRangeValue value before after → list_all is_ascii_digit before ≡ true → ask_of value size ≡ places_of before after size
asked value before after size is digits =
    rw (is.text_is, stripped is.unit (before ++ dash ∷ after) is.is_unit, split_once-at dash before after (lacks-digits dash before (omega arith) digits)) refl

was_true : (b : Bool) → not b ≡ false → b ≡ true
was_true true e = refl
was_true false e = absurd (cc)

-- a text that was cut at a byte
cut_at : (byte : ℕ) (text : List ℕ) (parts : List ℕ × List ℕ) → split_once byte text ≡ Some parts → text ≡ parts.0 ++ byte ∷ parts.1
cut_at byte text parts e = by_test (nat_lt place (length text)) refl e
  where
    place : ℕ
    place = position_or_len (λ other. other == byte) text

    by_test : (b : Bool) → nat_lt (position_or_len (λ other. other == byte) text) (length text) ≡ b
        → option_map (λ place. (take place text, drop (place + 1) text)) (if b then Some (position_or_len (λ other. other == byte) text) else None) ≡ Some parts
        → text ≡ parts.0 ++ byte ∷ parts.1
    by_test false t e = absurd (cc)
    by_test true t e =
        let at : ℕ = position_or_len (λ other. other == byte) text in
        let below : position_or_len (λ other. other == byte) text < length text = ltb-true _ _ t in
        let stops : not (get_or text at 0 == byte) ≡ false = prefix_len_stops (λ other. not (other == byte)) text 0 below in
        let here : get_or text at 0 ≡ byte = eqb-true (get_or text at 0) byte (was_true (get_or text at 0 == byte) stops) in
        let cut : text ≡ take at text ++ get_or text at 0 ∷ drop (at + 1) text = split_at_first (λ other. other == byte) text 0 below in
        let same : (take at text, drop (at + 1) text) ≡ parts = cc in
        subst (λ (p : List ℕ × List ℕ). text ≡ p.0 ++ byte ∷ p.1) same (cut ∙ ap (λ b. take at text ++ b ∷ drop (at + 1) text) here)

some_bytes : (x : ℕ) (xs : List ℕ) → (length (x ∷ xs) == 0) ≡ false
some_bytes x xs = let apart : (length (x ∷ xs) ≡ 0 → ⊥) = λ e. absurd (omega (arith, e)) in ne_eqb (length (x ∷ xs)) 0 apart

-- the texts round the dash of a value of no form
by_forms : (value before after : List ℕ) (size : ℕ) (front back : Option ℕ) → number_of before ≡ front → number_of after ≡ back → IsRangeValue value before after → IsOtherValue value
    → places_by_form before after (option_map capped_number front) (option_map capped_number back) size ≡ Whole
by_forms value before after size (Some first) (Some last) e f is other = absurd (other.not_between first last (before, after, is, e, f))
by_forms value before [] size (Some first) None e f is other = absurd (other.not_from first (before, is, e))
by_forms value before (x ∷ after) size (Some first) None e f is other = rw (some_bytes x after) refl
by_forms value [] after size None (Some suffix) e f is other = absurd (other.not_last suffix (after, is, f))
by_forms value (x ∷ before) after size None (Some suffix) e f is other = rw (some_bytes x before) refl
by_forms value before after size None None e f is other = refl

-- the value begins with the unit
unit_of : (value rest : List ℕ) → strip_prefix (codes "bytes=") value ≡ Some rest
    → (str_eq_ignore_ascii_case (take 6 value) (codes "bytes=") ≡ true) × (value ≡ take 6 value ++ rest)
unit_of value rest e = by_test (str_eq_ignore_ascii_case (take 6 value) (codes "bytes=")) refl e
  where
    by_test : (b : Bool) → str_eq_ignore_ascii_case (take 6 value) (codes "bytes=") ≡ b → (if b then Some (drop 6 value) else None) ≡ Some rest
        → (str_eq_ignore_ascii_case (take 6 value) (codes "bytes=") ≡ true) × (value ≡ take 6 value ++ rest)
    by_test true t e = let same : drop 6 value ≡ rest = cc in (t, sym (take-append-drop 6 value) ∙ ap (λ r. take 6 value ++ r) same)
    by_test false t e = absurd (cc)

round_dash : (value rest : List ℕ) (size : ℕ) (parts : Option (List ℕ × List ℕ)) → split_once dash rest ≡ parts → strip_prefix (codes "bytes=") value ≡ Some rest
    → IsOtherValue value → option_map_or (λ p. places_of p.0 p.1 size) parts Whole ≡ Whole
round_dash value rest size None e s other = refl
round_dash value rest size (Some p) e s other =
    let unit = unit_of value rest s in
    let is : IsRangeValue value p.0 p.1 = record { unit = take 6 value; is_unit = unit.0; text_is = unit.1 ∙ ap (λ r. take 6 value ++ r) (cut_at dash rest p e) } in
    by_forms value p.0 p.1 size (number_of p.0) (number_of p.1) refl refl is other

behind_unit : (value : List ℕ) (size : ℕ) (rest : Option (List ℕ)) → strip_prefix (codes "bytes=") value ≡ rest → IsOtherValue value
    → option_map_or (λ p. places_of p.0 p.1 size) (option_and_then (split_once dash) rest) Whole ≡ Whole
behind_unit value size None e other = refl
behind_unit value size (Some rest) e other = round_dash value rest size (split_once dash rest) refl e other

pub asks_by_form : (value : List ℕ) (size : ℕ) → AsksByForm value size
asks_by_form value size = record {
  between = λ first last asks. asked value asks.0 asks.1 size asks.2 (digits_of asks.0 first asks.3) ∙ rw (asks.3, asks.4) refl;
  from = λ first asks. asked value asks.0 [] size asks.1 (digits_of asks.0 first asks.2) ∙ rw asks.2 refl;
  suffix = λ suffix asks. asked value [] asks.0 size asks.1 refl ∙ rw asks.2 refl;
  other = λ other. behind_unit value size (strip_prefix (codes "bytes=") value) refl other;
}
