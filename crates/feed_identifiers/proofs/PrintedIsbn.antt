-- The digits of a printed ISBN.
use Rattle.std.proofs.Common.{◌≡◌, ◌≤◌, ◌<◌, ◌+◌, ◌-◌, ◌*◌, ℕ, Bool, true, false, ◌&&◌, eqb, List, [], ◌∷◌, ◌++◌, length, take, drop, set, get_or}
use Rattle.std.proofs.Common.{Some, None, if◌then◌else◌, refl, sym, ap, subst, ◌∙◌, arith, inl, inr}
use Rattle.std.proofs.Common.{eq-eqb, eqb-true, ne_eqb, take_at, take_all, take-take, length-append, length-drop, length-take, length-take-le}
use Rattle.std.specs.Prelude.{◌%◌, ◌==◌, codes, nat_eq, slice_index}
use Rattle.std.specs.Char.{is_ascii_digit}
use Rattle.std.specs.List.{filter, list_all, starts_with}
use Rattle.std.specs.Str.Parse.{digits_value}
use Rattle.std.proofs.lemmas.Bool.{and_from, and_parts, cond-false, cond-true, or_cases}
use Rattle.std.proofs.lemmas.Bool.Decides.{nat_tests}
use Rattle.std.proofs.lemmas.List.{drop_more, get_or_at, set_at, take_more}
use Rattle.std.proofs.lemmas.List.Folds.{list_all-append}
use Rattle.feed_identifiers.proofs.Digits.{IsDigit, digit_at, digit_is_no_space, digits_parts, digits_split, few_digits, same_digits}
use Rattle.feed_identifiers.proofs.Trimmed.{trimmed_same}
use Rattle.feed_identifiers.specs.Check.{is_check, is_check_of, weighted_sum}
use Rattle.feed_identifiers.specs.Isbn.{IsIsbn, check_digit, has_prefix, is_isbn_10, is_isbn_13, isbn_13_of, isbn_of, isbn_of_characters, number_of, weights_of_ten, weights_of_thirteen}
use Rattle.feed_bytes.specs.Trim.{is_no_hyphen}

-- what a test of thirteen digits found
pub record Found (text : List ℕ) : Type 0 where
  pub long : length text ≡ 13
  pub digits : list_all is_ascii_digit text ≡ true
  pub begins : has_prefix text ≡ true
  pub check : get_or text 12 0 ≡ check_digit (take 12 text)

pub found : (text : List ℕ) → is_isbn_13 text ≡ true → Found text
found text valid =
    let t3 = and_parts ((length text == 13) && list_all is_ascii_digit text && has_prefix text) (slice_index text 12 == check_digit (take 12 text)) valid in
    let t2 = and_parts ((length text == 13) && list_all is_ascii_digit text) (has_prefix text) t3.0 in
    let t1 = and_parts (length text == 13) (list_all is_ascii_digit text) t2.0 in
    record { long = eqb-true (length text) 13 t1.0; digits = t1.1; begins = t2.1; check = eqb-true (get_or text 12 0) (check_digit (take 12 text)) t3.1 }

pub test_passes : (text : List ℕ) → Found text → is_isbn_13 text ≡ true
test_passes text f =
    and_from ((length text == 13) && list_all is_ascii_digit text && has_prefix text) (slice_index text 12 == check_digit (take 12 text))
    (and_from ((length text == 13) && list_all is_ascii_digit text) (has_prefix text)
    (and_from (length text == 13) (list_all is_ascii_digit text) (eq-eqb (length text) 13 f.long) f.digits) f.begins)
    (eq-eqb (get_or text 12 0) (check_digit (take 12 text)) f.check)

-- the front is 978 or 979
pub record IsFront (a b c : ℕ) : Type 0 where
  pub first : a ≡ 57
  pub second : b ≡ 55
  pub low : 56 ≤ c
  pub high : c ≤ 57

three_are : (p q r a b c : ℕ) → (eqb p a && (eqb q b && (eqb r c && true))) ≡ true → (a ≡ p) × (b ≡ q) × (c ≡ r)
three_are p q r a b c e =
    let x = and_parts (eqb p a) (eqb q b && (eqb r c && true)) e in
    let y = and_parts (eqb q b) (eqb r c && true) x.1 in
    let z = and_parts (eqb r c) true y.1 in
    (sym (eqb-true p a x.0), sym (eqb-true q b y.0), sym (eqb-true r c z.0))

front_is : (a b c : ℕ) (rest : List ℕ) → has_prefix (a ∷ b ∷ c ∷ rest) ≡ true → IsFront a b c
front_is a b c rest e =
    elim (or_cases (starts_with nat_eq (a ∷ b ∷ c ∷ rest) (codes "978")) (starts_with nat_eq (a ∷ b ∷ c ∷ rest) (codes "979")) e) [
      | inl t ↦ (let p = three_are 57 55 56 a b c t in let third = p.2 in record { first = p.0; second = p.1; low = omega (arith, third); high = omega (arith, third) })
      | inr t ↦ (let p = three_are 57 55 57 a b c t in let third = p.2 in record { first = p.0; second = p.1; low = omega (arith, third); high = omega (arith, third) })
    ]

-- a text is three digits and the others
three_and_others : (text : List ℕ) → length text ≡ 13 → text ≡ get_or text 0 0 ∷ get_or text 1 0 ∷ get_or text 2 0 ∷ drop 3 text
three_and_others text long =
    drop_more text 0 0 (omega (arith, long))
    ∙ ap (λ l. get_or text 0 0 ∷ l) (drop_more text 1 0 (omega (arith, long)) ∙ ap (λ l. get_or text 1 0 ∷ l) (drop_more text 2 0 (omega (arith, long))))

front_of : (text : List ℕ) → Found text → IsFront (get_or text 0 0) (get_or text 1 0) (get_or text 2 0)
front_of text f =
    front_is (get_or text 0 0) (get_or text 1 0) (get_or text 2 0) (drop 3 text) (ap has_prefix (sym (three_and_others text f.long)) ∙ f.begins)

-- nine characters are digits
pub record AreNine (nine : List ℕ) : Type 0 where
  pub long : length nine ≡ 9
  pub digits : list_all is_ascii_digit nine ≡ true

pub are_nine : (text : List ℕ) → Found text → AreNine (take 9 (drop 3 text))
are_nine text f = record {
  long = length-take-le 9 (drop 3 text) (let l = length-drop 3 text in let m = f.long in omega (arith, l, m));
  digits = (digits_split 9 (drop 3 text) (digits_split 3 text f.digits).1).0;
}

pub nine_small : (nine : List ℕ) → AreNine nine → digits_value 10 nine < 1000000000
nine_small nine a = few_digits nine 9 a.digits (let l = a.long in omega (arith, l))

-- the number of an ISBN is small
small_sum : (last rest : ℕ) → last ≤ 57 → rest < 1000000000 → 1000000000 * (last - 56) + rest < 2000000000
small_sum last rest h k = omega arith

pub small_number : (text : List ℕ) → IsIsbn text → number_of text < 2000000000
small_number text i =
    let f = found text i.valid in
    small_sum (get_or text 2 0) (digits_value 10 (take 9 (drop 3 text))) (front_of text f).high (nine_small (take 9 (drop 3 text)) (are_nine text f))

-- a check digit is a digit
check_is_digit : (twelve : List ℕ) → is_ascii_digit (check_digit twelve) ≡ true
check_is_digit twelve = go ((10 - weighted_sum weights_of_thirteen twelve % 10) % 10) (below (weighted_sum weights_of_thirteen twelve))
  where
    below : (sum : ℕ) → (10 - sum % 10) % 10 ≤ 9
    below sum = omega arith

    go : (n : ℕ) → n ≤ 9 → is_ascii_digit (48 + n) ≡ true
    go n h = grind (arith, nat_tests)

-- nine digits with 978 before them and their check digit after them are an ISBN
pub converted : (nine : List ℕ) → AreNine nine → is_isbn_13 (isbn_13_of nine) ≡ true
converted nine a =
    let check = check_digit (57 ∷ 55 ∷ 56 ∷ nine) in
    let digits : list_all is_ascii_digit (nine ++ check ∷ []) ≡ true =
    list_all-append is_ascii_digit nine (check ∷ []) ∙ rw (a.digits, check_is_digit (57 ∷ 55 ∷ 56 ∷ nine)) refl in
    test_passes (isbn_13_of nine) (record {
      long = (let l = length-append nine (check ∷ []) in let m = a.long in omega (arith, l, m));
      digits = digits;
      begins = refl;
      check = get_or_at nine check [] 0 9 a.long ∙ ap (λ l. check_digit (57 ∷ 55 ∷ 56 ∷ l)) (sym (take_at nine (check ∷ []) 9 a.long));
    })

-- the twelve digits and the one after them, as they are written into an array
pub converted_digits : (nine copied : List ℕ) (check : ℕ) → copied ≡ nine → length nine ≡ 9 → check ≡ check_digit (57 ∷ 55 ∷ 56 ∷ take 9 (copied ++ 48 ∷ []))
    → (57 ∷ 55 ∷ 56 ∷ set (copied ++ 48 ∷ []) 9 check) ≡ isbn_13_of nine
converted_digits nine copied check same long is =
    let last = subst (λ l. check ≡ check_digit (57 ∷ 55 ∷ 56 ∷ take 9 (l ++ 48 ∷ []))) same is ∙ ap (λ l. check_digit (57 ∷ 55 ∷ 56 ∷ l)) (take_at nine (48 ∷ []) 9 long) in
    ap (λ l. 57 ∷ 55 ∷ 56 ∷ set (l ++ 48 ∷ []) 9 check) same
    ∙ ap (λ l. 57 ∷ 55 ∷ 56 ∷ l) (set_at nine 48 [] check 9 long)
    ∙ ap (λ d. 57 ∷ 55 ∷ 56 ∷ (nine ++ d ∷ [])) last

-- nine digits of ten characters
pub nine_of_ten : (characters : List ℕ) → is_isbn_10 characters ≡ true → AreNine (take 9 characters)
nine_of_ten characters valid =
    let all = and_parts (length characters == 10) (is_check_of weights_of_ten (take 9 characters) (slice_index characters 9)) valid in
    let checked = (and_parts (list_all is_ascii_digit (take 9 characters) && is_check (slice_index characters 9)) _ all.1).0 in
    record {
      long = length-take-le 9 characters (let l = eqb-true (length characters) 10 all.0 in omega (arith, l));
      digits = (and_parts (list_all is_ascii_digit (take 9 characters)) (is_check (slice_index characters 9)) checked).0;
    }

-- how characters parse
pub thirteen_parse : (characters : List ℕ) → is_isbn_13 characters ≡ true → isbn_of_characters characters ≡ Some characters
thirteen_parse characters valid = cond-true (is_isbn_13 characters) (Some characters) (if is_isbn_10 characters then Some (isbn_13_of (take 9 characters)) else None) valid

pub ten_parse : (characters : List ℕ) → is_isbn_13 characters ≡ false → is_isbn_10 characters ≡ true
    → isbn_of_characters characters ≡ Some (isbn_13_of (take 9 characters))
ten_parse characters other valid =
    cond-false (is_isbn_13 characters) (Some characters) (if is_isbn_10 characters then Some (isbn_13_of (take 9 characters)) else None) other
    ∙ cond-true (is_isbn_10 characters) (Some (isbn_13_of (take 9 characters))) None valid

pub none_parse : (characters : List ℕ) → is_isbn_13 characters ≡ false → is_isbn_10 characters ≡ false → isbn_of_characters characters ≡ None
none_parse characters other neither =
    cond-false (is_isbn_13 characters) (Some characters) (if is_isbn_10 characters then Some (isbn_13_of (take 9 characters)) else None) other
    ∙ cond-false (is_isbn_10 characters) (Some (isbn_13_of (take 9 characters))) None neither

pub long_parse : (characters : List ℕ) → 13 < length characters → isbn_of_characters characters ≡ None
long_parse characters long =
    rw (ne_eqb (length characters) 13 (λ e. absurd (omega (arith, e, long))), ne_eqb (length characters) 10 (λ e. absurd (omega (arith, e, long)))) refl

some_is : (x s : List ℕ) → Some x ≡ Some s → s ≡ x
some_is x s e = cc

pub made_by : (characters printed : List ℕ) → isbn_of_characters characters ≡ Some printed → IsIsbn printed
made_by characters printed made = record { valid = go (is_isbn_13 characters) (is_isbn_10 characters) refl refl made }
  where
    go : (x y : Bool) → is_isbn_13 characters ≡ x → is_isbn_10 characters ≡ y
        → (if x then Some characters else (if y then Some (isbn_13_of (take 9 characters)) else None)) ≡ Some printed → is_isbn_13 printed ≡ true
    go true y whole ten m = ap is_isbn_13 (some_is characters printed m) ∙ whole
    go false true whole ten m =
        ap is_isbn_13 (some_is (isbn_13_of (take 9 characters)) printed m) ∙ converted (take 9 characters) (nine_of_ten characters ten)
    go false false whole ten m = absurd (cc)

-- ten characters are the same as thirteen digits
pub ten_are_thirteen : (characters printed : List ℕ) → length characters ≡ 10 → isbn_of_characters characters ≡ Some printed
    → isbn_of_characters (isbn_13_of (take 9 characters)) ≡ Some printed
ten_are_thirteen characters printed ten made = go (is_isbn_10 characters) refl (sym (cond-false (is_isbn_13 characters) (Some characters) _ (no_thirteen characters ten)) ∙ made)
  where
    no_thirteen : (characters : List ℕ) → length characters ≡ 10 → is_isbn_13 characters ≡ false
    no_thirteen characters ten = rw ten refl

    go : (y : Bool) → is_isbn_10 characters ≡ y → (if y then Some (isbn_13_of (take 9 characters)) else None) ≡ Some printed
        → isbn_of_characters (isbn_13_of (take 9 characters)) ≡ Some printed
    go true valid m = thirteen_parse (isbn_13_of (take 9 characters)) (converted (take 9 characters) (nine_of_ten characters valid)) ∙ m
    go false valid m = absurd (cc)

-- two ISBNs with one number are the same
halves : (x y p q : ℕ) → y < 1000000000 → q < 1000000000 → 1000000000 * x + y ≡ 1000000000 * p + q → (x ≡ p) × (y ≡ q)
halves x y p q h k e = (omega arith, omega arith)

same_third : (m n : ℕ) → 56 ≤ m → 56 ≤ n → m - 56 ≡ n - 56 → m ≡ n
same_third m n h k e = omega arith

same_twelve : (a b c x y z : ℕ) (s t : List ℕ) → a ≡ x → b ≡ y → c ≡ z → s ≡ t → (a ∷ b ∷ c ∷ s) ≡ (x ∷ y ∷ z ∷ t)
same_twelve a b c x y z s t e f g h = rw (e, f, g, h) refl

last_of : (text : List ℕ) → length text ≡ 13 → text ≡ take 12 text ++ get_or text 12 0 ∷ []
last_of text long = sym (take_all 13 text (omega (arith, long))) ∙ take_more text 12 0 (omega (arith, long))

pub same_isbn : (s t : List ℕ) → IsIsbn s → IsIsbn t → number_of s ≡ number_of t → s ≡ t
same_isbn s t i j same =
    let p = found s i.valid in
    let q = found t j.valid in
    let a = front_of s p in
    let b = front_of t q in
    let nine = are_nine s p in
    let others = are_nine t q in
    let numbers = halves (get_or s 2 0 - 56) (digits_value 10 (take 9 (drop 3 s))) (get_or t 2 0 - 56) (digits_value 10 (take 9 (drop 3 t)))
    (nine_small (take 9 (drop 3 s)) nine) (nine_small (take 9 (drop 3 t)) others) same in
    let nines = same_digits (take 9 (drop 3 s)) (take 9 (drop 3 t)) (nine.long ∙ sym others.long) nine.digits others.digits numbers.1 in
    let twelve : take 12 s ≡ take 12 t =
    ap (take 12) (three_and_others s p.long)
    ∙ same_twelve (get_or s 0 0) (get_or s 1 0) (get_or s 2 0) (get_or t 0 0) (get_or t 1 0) (get_or t 2 0) (take 9 (drop 3 s)) (take 9 (drop 3 t))
    (a.first ∙ sym b.first) (a.second ∙ sym b.second) (same_third (get_or s 2 0) (get_or t 2 0) a.low b.low numbers.0) nines
    ∙ sym (ap (take 12) (three_and_others t q.long)) in
    let last : get_or s 12 0 ≡ get_or t 12 0 = p.check ∙ ap check_digit twelve ∙ sym q.check in
    last_of s p.long ∙ ap (λ l. l ++ get_or s 12 0 ∷ []) twelve ∙ ap (λ c. take 12 t ++ c ∷ []) last ∙ sym (last_of t q.long)

digit_is_no_hyphen : (n : ℕ) → IsDigit n → eqb n 45 ≡ false
digit_is_no_hyphen n d = grind (arith, nat_tests)

no_hyphens : (digits : List ℕ) → list_all is_ascii_digit digits ≡ true → filter is_no_hyphen digits ≡ digits
no_hyphens [] all = refl
no_hyphens (b ∷ digits) all =
    let parts = digits_parts b digits all in
    rw (digit_is_no_hyphen b parts.0) (ap (λ l. b ∷ l) (no_hyphens digits parts.1))

-- the printed form of an ISBN reads as itself
pub isbn_again : (printed : List ℕ) → IsIsbn printed → isbn_of printed ≡ Some printed
isbn_again printed i =
    let f = found printed i.valid in
    let first = digit_is_no_space (get_or printed 0 0) (digit_at printed 0 f.digits (let l = f.long in omega (arith, l))) in
    let last = digit_is_no_space (get_or printed (length printed - 1) 0) (digit_at printed (length printed - 1) f.digits (let l = f.long in omega (arith, l))) in
    let same = trimmed_same printed (let l = f.long in omega (arith, l)) first last in
    ap (λ t. isbn_of_characters (filter is_no_hyphen t)) same ∙ ap isbn_of_characters (no_hyphens printed f.digits) ∙ thirteen_parse printed i.valid

-- the first characters, if they are thirteen digits
pub thirteen_kept : (kept : List ℕ) (count : ℕ) → length kept ≡ 13 → is_isbn_13 (take count kept) ≡ true
    → Some kept ≡ isbn_of_characters (take count kept)
thirteen_kept kept count room valid =
    let f = found (take count kept) valid in
    let whole = take_all count kept (let l = f.long in let m = length-take count kept in omega (arith, l, m, room)) in
    sym (thirteen_parse (take count kept) valid ∙ ap (λ l. Some l) whole)

-- the first characters, if they are the older form
pub ten_kept : (kept : List ℕ) (count : ℕ) → is_isbn_13 (take count kept) ≡ false → is_isbn_10 (take count kept) ≡ true
    → Some (isbn_13_of (take 9 kept)) ≡ isbn_of_characters (take count kept)
ten_kept kept count other valid =
    let ten = eqb-true (length (take count kept)) 10 (and_parts (length (take count kept) == 10) (is_check_of weights_of_ten (take 9 (take count kept)) (slice_index (take count kept) 9)) valid).0 in
    let nine = take-take 9 count kept (let m = length-take count kept in omega (arith, ten, m)) in
    sym (ten_parse (take count kept) other valid ∙ ap (λ l. Some (isbn_13_of l)) nine)
