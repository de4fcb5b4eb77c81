-- The texts of identifiers, dates and volumes are short, and a form writes each of their bytes as it is.
use Rattle.std.proofs.Common.{◌≡◌, ◌<◌, ◌≤◌, ◌+◌, ◌-◌, ◌*◌, ◌%◌, ◌==◌, ℕ, Bool, true, false, ◌&&◌, ◌||◌, List, [], ◌∷◌, ◌++◌, length}
use Rattle.std.proofs.Common.{Option, Some, None, if◌then◌else◌, is_some, codes, refl, sym, ap, subst, ◌∙◌, map, reverse, arith, length-append, mul-suc, nat_le, filter}
use Rattle.std.specs.Prelude.{IfSome, option_map, slice_index, take}
use Rattle.std.specs.Char.{is_ascii_digit}
use Rattle.std.specs.List.{All, list_all}
use Rattle.std.proofs.lemmas.Bool.{and_parts, cond-false, cond-true, leb-true}
use Rattle.std.proofs.lemmas.Bool.Decides.{nat_tests}
use Rattle.std.proofs.lemmas.List.{length-take-le, reverse-append, reverse-reverse}
use Rattle.std.proofs.lemmas.List.Elements.{All-append, All-cons, All-from_recursion, All-head, All-nil, All-push, All-tail, All-weaker, recursion_from_All}
use Rattle.form_urlencoded.specs.Form.{IsUnchanged, append_pair, byte_serialize, extend_pairs, is_nonempty, is_unchanged}
use Rattle.form_urlencoded.proofs.FormLemmas.{byte_serialize-cons, byte_serialize-nil}
use Rattle.feed_identifiers.specs.Check.{capital, is_check, is_x, weighted_sum}
use Rattle.feed_identifiers.specs.Isbn.{check_digit, has_prefix, is_isbn_10, is_isbn_13, isbn_13_of, isbn_of_characters, weights_of_thirteen}
use Rattle.feed_bytes.specs.Trim.{is_no_hyphen, skip_spaces, trimmed}
use Rattle.feed_identifiers.specs.Issn.{issn_of_characters, issn_of_digits, printed}
use Rattle.feed_dates.specs.Days.{day_of_date, day_of_parts, four_digits, two_digits}
use Rattle.feed_dates.specs.DayRanges.{days_of, days_of_month, days_of_year, query_days_of, single_day, with_hyphens}
use Rattle.feed_kbart.specs.Volumes.{volume_of}
use Rattle.feed_openurl.specs.Identifiers.{count, identifier_limit}
use Rattle.feed_openurl.specs.Texts.{IsDateText, IsVolumeText}
use Rattle.feed_openurl.specs.Laws.{WrittenIsShort}
use Rattle.feed_openurl.specs.Values.{IsCounted, IsIsbnText, IsIssnText}
use Rattle.feed_openurl.specs.Written.{date_pairs, isbn_pairs, issn_pairs, volume_pairs, with_key, written_limit}
use Rattle.feed_openurl.specs.declared.fault.OpenUrlFault.{OpenUrlFault}
use Rattle.feed_openurl.proofs.Sizes.{written_steps}

-- a text of at most n bytes, and a form writes each of them as it is
pub record IsShort (n : ℕ) (text : List ℕ) : Type 0 where
  pub bound : length text ≤ n
  pub kept : All IsUnchanged text

-- a test that holds, and the value behind it
passes : {A : Type 0} (b : Bool) (x s : A) → (if b then Some x else None) ≡ Some s → b ≡ true
passes true x s e = refl
passes false x s e = absurd (cc)

value_is : {A : Type 0} (b : Bool) (x s : A) → (if b then Some x else None) ≡ Some s → s ≡ x
value_is true x s e = cc
value_is false x s e = absurd (cc)

chosen : {A : Type 0} (b : Bool) (o : Option A) (s : A) → (if b then o else None) ≡ Some s → o ≡ Some s
chosen true o s e = e
chosen false o s e = absurd (cc)

some_passes : {A : Type 0} (b : Bool) (x : A) → is_some (if b then Some x else None) ≡ true → b ≡ true
some_passes true x e = refl
some_passes false x e = absurd (cc)

some_chosen : {A : Type 0} (b : Bool) (o : Option A) → is_some (if b then o else None) ≡ true → (b ≡ true) × (is_some o ≡ true)
some_chosen true o e = (refl, e)
some_chosen false o e = absurd (cc)

-- the bytes of identifiers
digit_kept : (b : ℕ) → is_ascii_digit b ≡ true → IsUnchanged b
digit_kept b e = grind (arith, nat_tests)

capital_of : (b : ℕ) (x : Bool) → (is_ascii_digit b || x) ≡ true → IsUnchanged (if x then 88 else b)
capital_of b true e = refl
capital_of b false e = digit_kept b (or_none (is_ascii_digit b) e)
  where
    or_none : (a : Bool) → (a || false) ≡ true → a ≡ true
    or_none true is = refl
    or_none false is = absurd (cc)

capital_kept : (b : ℕ) → is_check b ≡ true → IsUnchanged (capital b)
capital_kept b e = capital_of b (is_x b) e

check_kept : (sum : ℕ) → IsUnchanged (48 + (10 - sum % 10) % 10)
check_kept sum = small ((10 - sum % 10) % 10) (omega arith)
  where
    small : (n : ℕ) → n ≤ 9 → IsUnchanged (48 + n)
    small n h = grind (arith, nat_tests)

digits_kept : (digits : List ℕ) → list_all is_ascii_digit digits ≡ true → All IsUnchanged digits
digits_kept [] all = All-nil IsUnchanged
digits_kept (b ∷ digits) all =
    let parts = and_parts (is_ascii_digit b) (list_all is_ascii_digit digits) all in
    All-cons IsUnchanged b digits (digit_kept b parts.0) (digits_kept digits parts.1)

-- an ISSN has nine bytes
digits_short : (a b c d e f g check : ℕ) (text : List ℕ) → issn_of_digits (a ∷ b ∷ c ∷ d ∷ e ∷ f ∷ g ∷ []) check ≡ Some text → IsShort 9 text
digits_short a b c d e f g check text made =
    let digits = a ∷ b ∷ c ∷ d ∷ e ∷ f ∷ g ∷ [] in
    let front = and_parts (list_all is_ascii_digit digits && is_check check) _ (passes _ _ text made) in
    let parts = and_parts (list_all is_ascii_digit digits) (is_check check) front.0 in
    let all = digits_kept digits parts.0 in
    let first = a ∷ b ∷ c ∷ d ∷ [] in
    let last = e ∷ f ∷ g ∷ [] in
    let r = recursion_from_All IsUnchanged digits all in
    let front_kept = All-from_recursion IsUnchanged first (r.0, (r.1.0, (r.1.1.0, (r.1.1.1.0, tt)))) in
    let last_kept = All-from_recursion IsUnchanged last (r.1.1.1.1.0, (r.1.1.1.1.1.0, (r.1.1.1.1.1.1.0, tt))) in
    let end = All-append IsUnchanged last (capital check ∷ []) last_kept (All-cons IsUnchanged (capital check) [] (capital_kept check parts.1) (All-nil IsUnchanged)) in
    let kept = All-append IsUnchanged first (45 ∷ (last ++ capital check ∷ [])) front_kept (All-cons IsUnchanged 45 (last ++ capital check ∷ []) refl end) in
    subst (IsShort 9) (sym (value_is _ (printed digits check) text made)) (record { bound = omega arith; kept = kept })

characters_short : (characters text : List ℕ) → issn_of_characters characters ≡ Some text → IsShort 9 text
characters_short (a ∷ b ∷ c ∷ d ∷ e ∷ f ∷ g ∷ check ∷ []) text made = digits_short a b c d e f g check text made
characters_short (a ∷ b ∷ c ∷ d ∷ hyphen ∷ e ∷ f ∷ g ∷ check ∷ []) text made =
    digits_short a b c d e f g check text (chosen (hyphen == 45) (issn_of_digits (a ∷ b ∷ c ∷ d ∷ e ∷ f ∷ g ∷ []) check) text made)
characters_short _ text made = absurd (cc)

pub issn_is_short : (text : List ℕ) → IsIssnText text → IsShort 9 text
issn_is_short text is = characters_short (trimmed text) text is

-- an ISBN has thirteen bytes
is_thirteen : (n : ℕ) → (n == 13) ≡ true → n ≤ 13
is_thirteen n e = grind (arith, nat_tests)

is_ten : (n : ℕ) → (n == 10) ≡ true → 9 ≤ n
is_ten n e = grind (arith, nat_tests)

thirteen_short : (characters : List ℕ) → is_isbn_13 characters ≡ true → IsShort 13 characters
thirteen_short characters is =
    let digits = (length characters == 13) && list_all is_ascii_digit characters in
    let front = and_parts (digits && has_prefix characters) _ is in
    let both = and_parts digits (has_prefix characters) front.0 in
    let parts = and_parts (length characters == 13) (list_all is_ascii_digit characters) both.0 in
    record { bound = is_thirteen (length characters) parts.0; kept = digits_kept characters parts.1 }

converted_short : (nine : List ℕ) → length nine ≡ 9 → list_all is_ascii_digit nine ≡ true → IsShort 13 (isbn_13_of nine)
converted_short nine size all =
    let front = codes "978" in
    let check = check_digit (front ++ nine) in
    let end = All-append IsUnchanged nine (check ∷ []) (digits_kept nine all)
    (All-cons IsUnchanged check [] (check_kept (weighted_sum weights_of_thirteen (front ++ nine))) (All-nil IsUnchanged)) in
    record {
      bound = omega (arith, size, length-append nine (check ∷ []));
      kept = All-append IsUnchanged front (nine ++ check ∷ []) (digits_kept front refl) end;
    }

ten_short : (characters : List ℕ) → is_isbn_10 characters ≡ true → IsShort 13 (isbn_13_of (take 9 characters))
ten_short characters is =
    let parts = and_parts (length characters == 10) _ is in
    let front = and_parts (list_all is_ascii_digit (take 9 characters) && is_check (slice_index characters 9)) _ parts.1 in
    let digits = and_parts (list_all is_ascii_digit (take 9 characters)) (is_check (slice_index characters 9)) front.0 in
    converted_short (take 9 characters) (length-take-le 9 characters (is_ten (length characters) parts.0)) digits.0

either_short : (long short : Bool) (one other text : List ℕ) → (long ≡ true → IsShort 13 one) → (short ≡ true → IsShort 13 other)
    → (if long then Some one else if short then Some other else None) ≡ Some text → IsShort 13 text
either_short true short one other text first second made = subst (IsShort 13) (sym (value_is true one text made)) (first refl)
either_short false true one other text first second made = subst (IsShort 13) (sym (value_is true other text made)) (second refl)
either_short false false one other text first second made = absurd (cc)

isbn_characters_short : (characters text : List ℕ) → isbn_of_characters characters ≡ Some text → IsShort 13 text
isbn_characters_short characters text made =
    either_short (is_isbn_13 characters) (is_isbn_10 characters) characters (isbn_13_of (take 9 characters)) text
    (thirteen_short characters) (ten_short characters) made

pub isbn_is_short : (text : List ℕ) → IsIsbnText text → IsShort 13 text
isbn_is_short text is = isbn_characters_short (filter is_no_hyphen (trimmed text)) text is

-- a date has at most ten bytes
year_some : (year : Option ℕ) → is_some (days_of_year year) ≡ true → is_some year ≡ true
year_some None e = absurd (cc)
year_some (Some year) e = refl

month_some : (year month : Option ℕ) → is_some (days_of_month year month) ≡ true → (is_some year ≡ true) × (is_some month ≡ true)
month_some None month e = absurd (cc)
month_some (Some year) None e = absurd (cc)
month_some (Some year) (Some month) e = (refl, refl)

record AreSome (year month day : Option ℕ) : Type 0 where
  first : is_some year ≡ true
  second : is_some month ≡ true
  third : is_some day ≡ true

parts_some : (year month day : Option ℕ) → is_some (day_of_parts year month day) ≡ true → AreSome year month day
parts_some None month day e = absurd (cc)
parts_some (Some year) None day e = absurd (cc)
parts_some (Some year) (Some month) None e = absurd (cc)
parts_some (Some year) (Some month) (Some day) e = record { first = refl; second = refl; third = refl }

day_some : (o : Option _) → is_some (option_map single_day o) ≡ true → is_some o ≡ true
day_some None e = absurd (cc)
day_some (Some day) e = refl

four_kept : (a b c d : ℕ) (rest : List ℕ) → is_some (four_digits a b c d) ≡ true → All IsUnchanged rest → All IsUnchanged (a ∷ b ∷ c ∷ d ∷ rest)
four_kept a b c d rest some all =
    let t3 = and_parts _ (is_ascii_digit d) (some_passes _ _ some) in
    let t2 = and_parts _ (is_ascii_digit c) t3.0 in
    let t1 = and_parts (is_ascii_digit a) (is_ascii_digit b) t2.0 in
    All-from_recursion IsUnchanged (a ∷ b ∷ c ∷ d ∷ rest)
    (digit_kept a t1.0, (digit_kept b t1.1, (digit_kept c t2.1, (digit_kept d t3.1, recursion_from_All IsUnchanged rest all))))

two_kept : (hyphen a b : ℕ) (rest : List ℕ) → (hyphen == 45) ≡ true → is_some (two_digits a b) ≡ true → All IsUnchanged rest
    → All IsUnchanged (hyphen ∷ a ∷ b ∷ rest)
two_kept hyphen a b rest is some all =
    let both = and_parts (is_ascii_digit a) (is_ascii_digit b) (some_passes _ _ some) in
    All-from_recursion IsUnchanged (hyphen ∷ a ∷ b ∷ rest) (hyphen_kept hyphen is, (digit_kept a both.0, (digit_kept b both.1, recursion_from_All IsUnchanged rest all)))
  where
    hyphen_kept : (h : ℕ) → (h == 45) ≡ true → IsUnchanged h
    hyphen_kept h e = grind (arith, nat_tests)

days_short : (text : List ℕ) → is_some (days_of text) ≡ true → IsShort 10 text
days_short (a ∷ b ∷ c ∷ d ∷ []) some =
    record { bound = omega arith; kept = four_kept a b c d [] (year_some (four_digits a b c d) some) (All-nil IsUnchanged) }
days_short (a ∷ b ∷ c ∷ d ∷ h ∷ e ∷ f ∷ []) some =
    let test = some_chosen (h == 45) (days_of_month (four_digits a b c d) (two_digits e f)) some in
    let both = month_some (four_digits a b c d) (two_digits e f) test.1 in
    record { bound = omega arith; kept = four_kept a b c d (h ∷ e ∷ f ∷ []) both.0 (two_kept h e f [] test.0 both.1 (All-nil IsUnchanged)) }
days_short (a ∷ b ∷ c ∷ d ∷ h ∷ e ∷ f ∷ k ∷ i ∷ j ∷ []) some =
    let day = day_some (day_of_date (a ∷ b ∷ c ∷ d ∷ h ∷ e ∷ f ∷ k ∷ i ∷ j ∷ [])) some in
    let test = some_chosen ((h == 45) && (k == 45)) (day_of_parts (four_digits a b c d) (two_digits e f) (two_digits i j)) day in
    let hyphens = and_parts (h == 45) (k == 45) test.0 in
    let all = parts_some (four_digits a b c d) (two_digits e f) (two_digits i j) test.1 in
    record {
      bound = omega arith;
      kept = four_kept a b c d (h ∷ e ∷ f ∷ k ∷ i ∷ j ∷ []) all.first
          (two_kept h e f (k ∷ i ∷ j ∷ []) hyphens.0 all.second (two_kept k i j [] hyphens.1 all.third (All-nil IsUnchanged)));
    }
days_short _ some = absurd (cc)

pub date_is_short : (text : List ℕ) → IsDateText text → IsShort 10 text
date_is_short text is =
    let some = passes (is_some (query_days_of text)) (with_hyphens text) text is in
    let same = value_is (is_some (query_days_of text)) (with_hyphens text) text is in
    days_short text (subst (λ t. is_some (days_of t) ≡ true) (sym same) some)

-- a volume has at most nine bytes
pub volume_is_short : (text : List ℕ) → IsVolumeText text → IsShort 9 text
volume_is_short text is =
    let some = passes (is_some (volume_of text)) text text is in
    let test = some_passes (nat_le 1 (length text) && nat_le (length text) 9 && list_all is_ascii_digit text) _ some in
    let parts = and_parts (nat_le 1 (length text) && nat_le (length text) 9) (list_all is_ascii_digit text) test in
    let sizes = and_parts (nat_le 1 (length text)) (nat_le (length text) 9) parts.0 in
    record { bound = leb-true (length text) 9 sizes.1; kept = digits_kept text parts.1 }

-- such a text has no spaces to trim, and is bytes
skip_kept : (text : List ℕ) → All IsUnchanged text → skip_spaces text ≡ text
skip_kept [] all = refl
skip_kept (b ∷ bytes) all = cond-false _ _ _ (not_space b (All-head IsUnchanged b bytes all))
  where
    not_space : (c : ℕ) → IsUnchanged c → (c == 32) ≡ false
    not_space c kept = grind (arith, nat_tests)

reverse_kept : (text : List ℕ) → All IsUnchanged text → All IsUnchanged (reverse text)
reverse_kept [] all = All-nil IsUnchanged
reverse_kept (b ∷ bytes) all =
    subst (All IsUnchanged) (sym (reverse-append (b ∷ []) bytes))
    (All-push IsUnchanged (reverse bytes) b (reverse_kept bytes (All-tail IsUnchanged b bytes all)) (All-head IsUnchanged b bytes all))

pub trimmed_kept : (text : List ℕ) → All IsUnchanged text → trimmed text ≡ text
trimmed_kept text all =
    ap (λ t. reverse (skip_spaces (reverse t))) (skip_kept text all)
    ∙ ap reverse (skip_kept (reverse text) (reverse_kept text all))
    ∙ reverse-reverse text

pub kept_bytes : (text : List ℕ) → All IsUnchanged text → All (λ b. b < 256) text
kept_bytes text all = All-weaker IsUnchanged (λ b. b < 256) (λ b kept. is_byte b kept) text all
  where
    is_byte : (b : ℕ) → IsUnchanged b → b < 256
    is_byte b kept = grind (arith, nat_tests)

-- how long the text is that is written
serialized : (text : List ℕ) → All IsUnchanged text → byte_serialize text ≡ text
serialized [] all = byte_serialize-nil
serialized (b ∷ bytes) all =
    byte_serialize-cons b bytes
    ∙ ap (λ l. l ++ byte_serialize bytes) (cond-true _ _ _ (All-head IsUnchanged b bytes all))
    ∙ ap (λ l. b ∷ l) (serialized bytes (All-tail IsUnchanged b bytes all))

separator_short : (b : Bool) → length {A = ℕ} (if b then 38 ∷ [] else []) ≤ 1
separator_short true = omega arith
separator_short false = omega arith

pair_size : (form name value : List ℕ) → length (append_pair form name value) ≤ length form + (length (byte_serialize name) + length (byte_serialize value) + 2)
pair_size form name value =
    let sign = separator_short (is_nonempty form) in
    grind (arith, length-append)

-- the keys are written as they are
all_kept : (text : List ℕ) → list_all is_unchanged text ≡ true → All IsUnchanged text
all_kept [] e = All-nil IsUnchanged
all_kept (b ∷ bytes) e =
    let parts = and_parts (is_unchanged b) (list_all is_unchanged bytes) e in
    All-cons IsUnchanged b bytes parts.0 (all_kept bytes parts.1)

pub issn_key : All IsUnchanged (codes "rft.issn")
issn_key = all_kept (codes "rft.issn") refl

pub isbn_key : All IsUnchanged (codes "rft.isbn")
isbn_key = all_kept (codes "rft.isbn") refl

pub date_key : All IsUnchanged (codes "rft.date")
date_key = all_kept (codes "rft.date") refl

pub volume_key : All IsUnchanged (codes "rft.volume")
volume_key = all_kept (codes "rft.volume") refl

pair_short : (n : ℕ) (key value form : List ℕ) → All IsUnchanged key → IsShort n value
    → length (append_pair form key value) ≤ length form + (length key + n + 2)
pair_short n key value form kept is =
    let size = pair_size form key value in
    let first = ap length (serialized key kept) in
    let second = ap length (serialized value is.kept) in
    let bound = is.bound in
    omega (arith, size, first, second, bound)

texts_short : (n : ℕ) (key : List ℕ) → All IsUnchanged key → (texts : List (List ℕ)) (form : List ℕ) → All (IsShort n) texts
    → length (extend_pairs form (map (with_key key) texts)) ≤ length form + (length key + n + 2) * length texts
texts_short n key kept [] form all = omega arith
texts_short n key kept (text ∷ texts) form all =
    let first = pair_short n key text form kept (All-head (IsShort n) text texts all) in
    let rest = texts_short n key kept texts (append_pair form key text) (All-tail (IsShort n) text texts all) in
    let more = mul-suc (length key + n + 2) (length texts) in
    omega (arith, first, rest, more)

date_short : (date : Option (List ℕ)) (form : List ℕ) → IfSome date IsDateText → length (extend_pairs form (date_pairs date)) ≤ length form + 20
date_short None form is = omega arith
date_short (Some date) form is = pair_short 10 (codes "rft.date") date form date_key (date_is_short date is)

volume_short : (volume : Option (List ℕ)) (form : List ℕ) → IfSome volume IsVolumeText → length (extend_pairs form (volume_pairs volume)) ≤ length form + 21
volume_short None form is = omega arith
volume_short (Some volume) form is = pair_short 9 (codes "rft.volume") volume form volume_key (volume_is_short volume is)

pub version_key : All IsUnchanged (codes "url_ver")
version_key = all_kept (codes "url_ver") refl

pub version_value : All IsUnchanged (codes "Z39.88-2004")
version_value = all_kept (codes "Z39.88-2004") refl

version_short : length (append_pair [] (codes "url_ver") (codes "Z39.88-2004")) ≤ 19
version_short =
    let name = ap length (serialized (codes "url_ver") version_key) in
    let value = ap length (serialized (codes "Z39.88-2004") version_value) in
    grind (arith, length-append, name, value)

count_limited : (issns isbns : List (List ℕ)) (refusal : Option OpenUrlFault) → IsCounted issns isbns refusal → count issns isbns ≤ identifier_limit
count_limited issns isbns None is = is.1
count_limited issns isbns (Some why) is = omega (arith, is)

sum_short : (a b c d e m n : ℕ) → a ≤ 19 → b ≤ a + 19 * m → c ≤ b + 23 * n → d ≤ c + 20 → e ≤ d + 21 → m + n ≤ 64 → e ≤ 1532
sum_short a b c d e m n p q r s t few = omega arith

-- the query that is written has few bytes
pub short_written : WrittenIsShort
short_written u is =
    let version = append_pair [] (codes "url_ver") (codes "Z39.88-2004") in
    let with_issns = extend_pairs version (issn_pairs u.issns) in
    let with_isbns = extend_pairs with_issns (isbn_pairs u.isbns) in
    let with_date = extend_pairs with_isbns (date_pairs u.date) in
    subst (λ t. length t ≤ written_limit) (sym (written_steps u.issns u.isbns u.date u.volume))
    (sum_short (length version) (length with_issns) (length with_isbns) (length with_date) (length (extend_pairs with_date (volume_pairs u.volume)))
    (length u.issns) (length u.isbns) version_short
    (texts_short 9 (codes "rft.issn") issn_key u.issns version (All-weaker IsIssnText (IsShort 9) issn_is_short u.issns is.identifiers.issns_parse))
    (texts_short 13 (codes "rft.isbn") isbn_key u.isbns with_issns (All-weaker IsIsbnText (IsShort 13) isbn_is_short u.isbns is.identifiers.isbns_parse))
    (date_short u.date with_isbns is.date) (volume_short u.volume with_date is.volume) (count_limited u.issns u.isbns u.refusal is.counted))
