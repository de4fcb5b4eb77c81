-- The number of a printed ISSN determines the ISSN.
use Rattle.std.proofs.Common.{◌≡◌, ◌≤◌, ◌<◌, ◌+◌, ◌-◌, ◌*◌, ℕ, Bool, true, false, ◌&&◌, ◌||◌, eqb, List, [], ◌∷◌, ◌++◌, length, take, drop, get_or}
use Rattle.std.proofs.Common.{Option, Some, None, if◌then◌else◌, refl, sym, ap, ◌∙◌, arith, subst, eqb-true, take_at, drop_at, drop-drop, take-append-drop, length-drop, length-take-le}
use Rattle.std.specs.Prelude.{◌%◌, ◌==◌}
use Rattle.std.specs.Char.{is_ascii_digit}
use Rattle.std.specs.List.{list_all}
use Rattle.std.specs.Str.Parse.{digits_value}
use Rattle.std.proofs.lemmas.Bool.{and_parts}
use Rattle.std.proofs.lemmas.Bool.Decides.{nat_tests}
use Rattle.std.proofs.lemmas.Slice.Eq.{text_from_reads}
use Rattle.feed_identifiers.proofs.Digits.{IsDigit, digit_at, digit_is, digit_is_no_space, digits_split, few_digits, same_digit, same_digits, test_true, value_is, worth}
use Rattle.feed_identifiers.specs.Check.{capital, check_value, is_check, is_check_of, is_x, weighted_sum}
use Rattle.feed_identifiers.specs.Issn.{IsIssn, issn_of_digits, issn_of, number_of, issn_of_characters, printed, weights}

-- what the characters of a printed ISSN are
record Spelled (text digits : List ℕ) (check : ℕ) : Type 0 where
  is : text ≡ printed digits check
  all : list_all is_ascii_digit digits ≡ true
  checks : is_check check ≡ true
  sum : (weighted_sum weights digits + check_value check) % 11 ≡ 0

spelled_by : (text digits : List ℕ) (check : ℕ) → issn_of_digits digits check ≡ Some text → Spelled text digits check
spelled_by text digits check made =
    let sound = test_true (is_check_of weights digits check) (printed digits check) text made in
    let t3 = and_parts (list_all is_ascii_digit digits && is_check check) ((weighted_sum weights digits + check_value check) % 11 == 0) sound in
    let t2 = and_parts (list_all is_ascii_digit digits) (is_check check) t3.0 in
    record {
      is = value_is (is_check_of weights digits check) (printed digits check) text made;
      all = t2.0;
      checks = t2.1;
      sum = eqb-true ((weighted_sum weights digits + check_value check) % 11) 0 t3.1;
    }

or_false : (a : Bool) → (a || false) ≡ true → a ≡ true
or_false true h = refl
or_false false h = h

-- characters that check with one sum are worth the same
same_worth : (w v u : ℕ) → v ≤ 10 → u ≤ 10 → (w + v) % 11 ≡ 0 → (w + u) % 11 ≡ 0 → v ≡ u
same_worth w v u h k e f = omega arith

check_worth : (k : ℕ) → is_check k ≡ true → check_value k ≤ 10
check_worth k e = elim (is_x k) as (λ b. (is_ascii_digit k || b) ≡ true → (if b then 10 else k - 48) ≤ 10) [
  | true ↦ λ h. omega arith
  | false ↦ λ h. (let w = worth k (digit_is k (or_false _ h)) in omega arith)
] e

same_check : (k l : ℕ) → is_check k ≡ true → is_check l ≡ true → check_value k ≡ check_value l → capital k ≡ capital l
same_check k l h g e = go (is_x k) (is_x l) h g e
  where
    go : (x y : Bool) → (is_ascii_digit k || x) ≡ true → (is_ascii_digit l || y) ≡ true → (if x then 10 else k - 48) ≡ (if y then 10 else l - 48)
        → (if x then 88 else k) ≡ (if y then 88 else l)
    go true true h g e = refl
    go true false h g e = (let w = worth l (digit_is l (or_false _ g)) in absurd (omega arith))
    go false true h g e = (let w = worth k (digit_is k (or_false _ h)) in absurd (omega arith))
    go false false h g e = same_digit k l (digit_is k (or_false _ h)) (digit_is l (or_false _ g)) e

-- the digits before the hyphen, and those after it
front_of : (digits : List ℕ) (check : ℕ) → length digits ≡ 7 → take 4 (printed digits check) ≡ take 4 digits
front_of digits check seven =
    take_at (take 4 digits) (45 ∷ (drop 4 digits ++ capital check ∷ [])) 4 (length-take-le 4 digits (omega (arith, seven)))

back_of : (digits : List ℕ) (check : ℕ) → length digits ≡ 7 → take 3 (drop 5 (printed digits check)) ≡ drop 4 digits
back_of digits check seven =
    let front = length-take-le 4 digits (omega (arith, seven)) in
    let back = length-drop 4 digits in
    ap (take 3) (sym (drop-drop 1 4 (printed digits check)) ∙ ap (drop 1) (drop_at (take 4 digits) (45 ∷ (drop 4 digits ++ capital check ∷ [])) 4 front))
    ∙ take_at (drop 4 digits) (capital check ∷ []) 3 (omega (arith, back, seven))

-- the number of a printed ISSN is that of its digits
record Numbered (digits : List ℕ) : Type 0 where
  front_all : list_all is_ascii_digit (take 4 digits) ≡ true
  back_all : list_all is_ascii_digit (drop 4 digits) ≡ true
  front_long : length (take 4 digits) ≡ 4
  back_long : length (drop 4 digits) ≡ 3
  front_small : digits_value 10 (take 4 digits) < 10000
  back_small : digits_value 10 (drop 4 digits) < 1000

numbered : (digits : List ℕ) → length digits ≡ 7 → list_all is_ascii_digit digits ≡ true → Numbered digits
numbered digits seven all =
    let parts = digits_split 4 digits all in
    let front = length-take-le 4 digits (omega (arith, seven)) in
    let cut = length-drop 4 digits in
    let back : length (drop 4 digits) ≡ 3 = omega (arith, cut, seven) in
    record {
      front_all = parts.0;
      back_all = parts.1;
      front_long = front;
      back_long = back;
      front_small = few_digits (take 4 digits) 4 parts.0 (omega (arith, front));
      back_small = few_digits (drop 4 digits) 3 parts.1 (omega (arith, back));
    }

number_is : (text digits : List ℕ) (check : ℕ) → length digits ≡ 7 → text ≡ printed digits check
    → number_of text ≡ 1000 * digits_value 10 (take 4 digits) + digits_value 10 (drop 4 digits)
number_is text digits check seven is =
    ap number_of is ∙ ap (λ l. 1000 * digits_value 10 l + digits_value 10 (take 3 (drop 5 (printed digits check)))) (front_of digits check seven)
    ∙ ap (λ l. 1000 * digits_value 10 (take 4 digits) + digits_value 10 l) (back_of digits check seven)

-- the number of an ISSN is small
small_sum : (n front back : ℕ) → n ≡ 1000 * front + back → front < 10000 → back < 1000 → n < 10000000
small_sum n front back e h k = omega arith

pub small_number : (text : List ℕ) → IsIssn text → number_of text < 10000000
small_number text i =
    let p = spelled_by text i.digits i.check i.made in
    let n = numbered i.digits i.seven p.all in
    small_sum (number_of text) (digits_value 10 (take 4 i.digits)) (digits_value 10 (drop 4 i.digits)) (number_is text i.digits i.check i.seven p.is)
    n.front_small n.back_small

-- the digits of a printed ISSN, before the hyphen and after it
pub front_digits : (text : List ℕ) → IsIssn text → list_all is_ascii_digit (take 4 text) ≡ true
front_digits text i =
    let p = spelled_by text i.digits i.check i.made in
    let n = numbered i.digits i.seven p.all in
    ap (list_all is_ascii_digit) (ap (take 4) p.is ∙ front_of i.digits i.check i.seven) ∙ n.front_all

pub back_digits : (text : List ℕ) → IsIssn text → list_all is_ascii_digit (take 3 (drop 5 text)) ≡ true
back_digits text i =
    let p = spelled_by text i.digits i.check i.made in
    let n = numbered i.digits i.seven p.all in
    ap (list_all is_ascii_digit) (ap (λ l. take 3 (drop 5 l)) p.is ∙ back_of i.digits i.check i.seven) ∙ n.back_all

-- two ISSNs with one number are the same
halves : (x y p q : ℕ) → y < 1000 → q < 1000 → 1000 * x + y ≡ 1000 * p + q → (x ≡ p) × (y ≡ q)
halves x y p q h k e = (omega arith, omega arith)

joined : (s t : List ℕ) → take 4 s ≡ take 4 t → drop 4 s ≡ drop 4 t → s ≡ t
joined s t front back =
    sym (take-append-drop 4 s) ∙ ap (λ l. l ++ drop 4 s) front ∙ ap (λ l. take 4 t ++ l) back ∙ take-append-drop 4 t

pub same_issn : (s t : List ℕ) → IsIssn s → IsIssn t → number_of s ≡ number_of t → s ≡ t
same_issn s t i j same =
    let p = spelled_by s i.digits i.check i.made in
    let q = spelled_by t j.digits j.check j.made in
    let n = numbered i.digits i.seven p.all in
    let m = numbered j.digits j.seven q.all in
    let numbers = halves (digits_value 10 (take 4 i.digits)) (digits_value 10 (drop 4 i.digits)) (digits_value 10 (take 4 j.digits)) (digits_value 10 (drop 4 j.digits))
    n.back_small m.back_small (sym (number_is s i.digits i.check i.seven p.is) ∙ same ∙ number_is t j.digits j.check j.seven q.is) in
    let digits = joined i.digits j.digits
    (same_digits (take 4 i.digits) (take 4 j.digits) (n.front_long ∙ sym m.front_long) n.front_all m.front_all numbers.0)
    (same_digits (drop 4 i.digits) (drop 4 j.digits) (n.back_long ∙ sym m.back_long) n.back_all m.back_all numbers.1) in
    let own : (weighted_sum weights j.digits + check_value i.check) % 11 ≡ 0 =
    subst (λ l. (weighted_sum weights l + check_value i.check) % 11 ≡ 0) digits p.sum in
    let worths = same_worth (weighted_sum weights j.digits) (check_value i.check) (check_value j.check)
    (check_worth i.check p.checks) (check_worth j.check q.checks) own q.sum in
    p.is ∙ ap (λ l. printed l i.check) digits
    ∙ ap (λ c. take 4 j.digits ++ 45 ∷ (drop 4 j.digits ++ c ∷ [])) (same_check i.check j.check p.checks q.checks worths) ∙ sym q.is

-- the printed form of an ISSN reads as itself
capital_again : (k : ℕ) → is_check k ≡ true → (is_check (capital k) ≡ true) × (check_value (capital k) ≡ check_value k) × (capital (capital k) ≡ capital k) × (eqb (capital k) 32 ≡ false)
capital_again k h = elim (is_x k) as (λ b. is_x k ≡ b → (is_ascii_digit k || b) ≡ true
    → (is_check (if b then 88 else k) ≡ true) × (check_value (if b then 88 else k) ≡ (if b then 10 else k - 48))
    × (capital (if b then 88 else k) ≡ (if b then 88 else k)) × (eqb (if b then 88 else k) 32 ≡ false)) [
      | true ↦ λ e g. (refl, refl, refl, refl)
      | false ↦ λ e g. (rw e g, rw e refl, rw e refl, (let d = digit_is k (or_false _ g) in grind (arith, nat_tests)))
    ] refl h

checked_again : (digits check others : Bool) (worth its w : ℕ) (text its_text s : List ℕ) → check ≡ true → others ≡ true → its ≡ worth → its_text ≡ text
    → (if digits && check && ((w + worth) % 11 == 0) then Some text else None) ≡ Some s
    → (if digits && others && ((w + its) % 11 == 0) then Some its_text else None) ≡ Some s
checked_again digits check others worth its w text its_text s e f g h made = rw (f, g, h) (rw e at made)

taken : (b : Bool) (x : Option (List ℕ)) (s : List ℕ) → (if b then x else None) ≡ Some s → x ≡ Some s
taken true x s e = e
taken false x s e = absurd (cc)

pub issn_with : (digits : List ℕ) (check : ℕ) (text : List ℕ) → length digits ≡ 7 → issn_of_digits digits check ≡ Some text → IsIssn text
issn_with digits check text seven made = record { digits = digits; check = check; seven = seven; made = made }

pub issn_made : (characters text : List ℕ) → issn_of_characters characters ≡ Some text → IsIssn text
issn_made (a ∷ b ∷ c ∷ d ∷ e ∷ f ∷ g ∷ check ∷ []) text made = issn_with (a ∷ b ∷ c ∷ d ∷ e ∷ f ∷ g ∷ []) check text refl made
issn_made (a ∷ b ∷ c ∷ d ∷ hyphen ∷ e ∷ f ∷ g ∷ check ∷ []) text made =
    issn_with (a ∷ b ∷ c ∷ d ∷ e ∷ f ∷ g ∷ []) check text refl (taken (hyphen == 45) (issn_of_digits (a ∷ b ∷ c ∷ d ∷ e ∷ f ∷ g ∷ []) check) text made)
issn_made _ text made = absurd (cc)

-- how eight characters parse, and nine with a hyphen
pub eight_parse : (s : List ℕ) → length s ≡ 8 → issn_of_characters s
    ≡ issn_of_digits (get_or s 0 0 ∷ get_or s 1 0 ∷ get_or s 2 0 ∷ get_or s 3 0 ∷ get_or s 4 0 ∷ get_or s 5 0 ∷ get_or s 6 0 ∷ []) (get_or s 7 0)
eight_parse s eight =
    ap issn_of_characters (text_from_reads s
    (get_or s 0 0 ∷ get_or s 1 0 ∷ get_or s 2 0 ∷ get_or s 3 0 ∷ get_or s 4 0 ∷ get_or s 5 0 ∷ get_or s 6 0 ∷ get_or s 7 0 ∷ []) eight
    (refl, (refl, (refl, (refl, (refl, (refl, (refl, (refl, (tt))))))))))

pub nine_parse : (s : List ℕ) → length s ≡ 9 → get_or s 4 0 ≡ 45 → issn_of_characters s
    ≡ issn_of_digits (get_or s 0 0 ∷ get_or s 1 0 ∷ get_or s 2 0 ∷ get_or s 3 0 ∷ get_or s 5 0 ∷ get_or s 6 0 ∷ get_or s 7 0 ∷ []) (get_or s 8 0)
nine_parse s nine hyphen =
    ap issn_of_characters (text_from_reads s
    (get_or s 0 0 ∷ get_or s 1 0 ∷ get_or s 2 0 ∷ get_or s 3 0 ∷ 45 ∷ get_or s 5 0 ∷ get_or s 6 0 ∷ get_or s 7 0 ∷ get_or s 8 0 ∷ []) nine
    (refl, (refl, (refl, (refl, (hyphen, (refl, (refl, (refl, (refl, (tt)))))))))))

spelled_again : (a b c d e f g check : ℕ) → IsDigit a → eqb (capital check) 32 ≡ false
    → issn_of (printed (a ∷ b ∷ c ∷ d ∷ e ∷ f ∷ g ∷ []) check) ≡ issn_of_digits (a ∷ b ∷ c ∷ d ∷ e ∷ f ∷ g ∷ []) (capital check)
spelled_again a b c d e f g check first last = rw (digit_is_no_space a first, last) refl

printed_again : (digits : List ℕ) (check : ℕ) → length digits ≡ 7 → list_all is_ascii_digit digits ≡ true → eqb (capital check) 32 ≡ false
    → issn_of (printed digits check) ≡ issn_of_digits digits (capital check)
printed_again digits check seven all last =
    let at : ℕ → ℕ = λ i. get_or digits i 0 in
    let is : digits ≡ at 0 ∷ at 1 ∷ at 2 ∷ at 3 ∷ at 4 ∷ at 5 ∷ at 6 ∷ [] =
    text_from_reads digits (at 0 ∷ at 1 ∷ at 2 ∷ at 3 ∷ at 4 ∷ at 5 ∷ at 6 ∷ []) seven (refl, (refl, (refl, (refl, (refl, (refl, (refl, (tt)))))))) in
    subst (λ l. issn_of (printed l check) ≡ issn_of_digits l (capital check)) (sym is)
    (spelled_again (at 0) (at 1) (at 2) (at 3) (at 4) (at 5) (at 6) check (digit_at digits 0 all (omega (arith, seven))) last)

pub issn_again : (text : List ℕ) → IsIssn text → issn_of text ≡ Some text
issn_again text i =
    let p = spelled_by text i.digits i.check i.made in
    let c = capital_again i.check p.checks in
    ap issn_of p.is ∙ printed_again i.digits i.check i.seven p.all c.3
    ∙ checked_again (list_all is_ascii_digit i.digits) (is_check i.check) (is_check (capital i.check)) (check_value i.check) (check_value (capital i.check))
    (weighted_sum weights i.digits) (printed i.digits i.check) (printed i.digits (capital i.check)) text p.checks c.0 c.1
    (ap (λ x. take 4 i.digits ++ 45 ∷ (drop 4 i.digits ++ x ∷ [])) c.2) i.made
