-- A text is taken apart in one way only, since a date has ten bytes.
use Rattle.std.proofs.Common.{◌≡◌, ◌≤◌, ◌+◌, ◌-◌, ℕ, List, [], ◌∷◌, ◌++◌, length, take, drop, refl, sym, ap, arith, ◌∙◌, ℤ, codes, nat_eq, true}
use Rattle.std.specs.Cmp.Lexicographic.{pointwise, same_text}
use Rattle.std.proofs.lemmas.List.{append_cancel_right, length-append, take-append-drop, take-append-le}
use Rattle.std.proofs.Math.Seq.{take-append_seam, drop-append_seam}
use Rattle.feed_dates.specs.Days.{IsDateOf, OneDayForDate, OneDateForDay}
use Rattle.feed_dates.proofs.Dates.{one_day}
use Rattle.feed_names.specs.ReleaseName.{Name, IsPackageName, EndsInDate, IsName, EndsInTxt, text_of}

-- a date has ten bytes
length-date : (n : ℤ) (text : List ℕ) → IsDateOf n text → length text ≡ 10
length-date n text h = ap length h.spelled

-- how long the text before `.txt` is
pub length-dated : (front package_name : List ℕ) (n : ℤ) → EndsInDate front package_name n → length front ≡ length package_name + 11
length-dated front package_name n h = omega (arith, ap length h.spelled, length-append package_name (95 ∷ h.date), length-date n h.date h.is_date)

-- the package_name is all but the last eleven bytes of it
pub package_name-take : (front package_name : List ℕ) (n : ℤ) → EndsInDate front package_name n → take (length front - 11) front ≡ package_name
package_name-take front package_name n h =
    let long : length front - 11 ≡ length package_name = omega (arith, length-dated front package_name n h) in
    rw long (rw h.spelled (take-append_seam package_name (95 ∷ h.date)))

-- and the date those after the underscore
pub date-drop : (front package_name : List ℕ) (n : ℤ) (h : EndsInDate front package_name n) → drop (length front - 11) front ≡ 95 ∷ h.date
date-drop front package_name n h =
    let long : length front - 11 ≡ length package_name = omega (arith, length-dated front package_name n h) in
    rw long (rw h.spelled (drop-append_seam package_name (95 ∷ h.date)))

-- two releases with the same package_name and day are one
same_name : (m n : Name) → m.package_name ≡ n.package_name → m.day ≡ n.day → m ≡ n
same_name m n package_name day = ap (λ (s : List ℕ). let name : Name = record { package_name = s; day = m.day } in name) package_name
    ∙ ap (λ (d : ℤ). let name : Name = record { package_name = n.package_name; day = d } in name) day

-- a text before `.txt` is the package_name and the date of one release, since a date is that of one day
pub one_name : OneDayForDate → (front : List ℕ) (m n : Name) → EndsInDate front m.package_name m.day → EndsInDate front n.package_name n.day → m ≡ n
one_name law front m n g h =
    let stems : m.package_name ≡ n.package_name = sym (package_name-take front m.package_name m.day g) ∙ package_name-take front n.package_name n.day h in
    let dated = sym (date-drop front m.package_name m.day g) ∙ date-drop front n.package_name n.day h in
    let dates : g.date ≡ h.date = cc in
    same_name m n stems (law g.date m.day n.day g.is_date (rw dates h.is_date))

pub one_split : (front : List ℕ) (m n : Name) → EndsInDate front m.package_name m.day → EndsInDate front n.package_name n.day → m ≡ n
one_split front m n g h = one_name one_day front m n g h

pub one_front : (text front rest : List ℕ) → EndsInTxt text front → EndsInTxt text rest → front ≡ rest
one_front text front rest g h = append_cancel_right front rest (codes ".txt") (sym g ∙ h)

-- the bytes at a place are an underscore and a date that reads
pub split_found : (front date : List ℕ) (at : ℕ) (n : ℤ) → 11 ≤ length front → at ≡ length front - 11
    → take 1 (drop at front) ≡ 95 ∷ [] → date ≡ drop 1 (drop at front) → IsDateOf n date → EndsInDate front (take at front) n
split_found front date at n long here mark rest reads =
    let parts : drop at front ≡ 95 ∷ date = sym (take-append-drop 1 (drop at front)) ∙ (rw (mark, sym rest) refl) in
    record { date = date; is_date = reads; spelled = sym (take-append-drop at front) ∙ ap (λ back. take at front ++ back) parts }

-- a text whose last four bytes are `.txt` is the text before them and `.txt`
pub ending_cut : (text front : List ℕ) → pointwise nat_eq (drop (length text - 4) text) (codes ".txt") ≡ true → front ≡ take (length text - 4) text → EndsInTxt text front
ending_cut text front last cut =
    sym (take-append-drop (length text - 4) text) ∙ ap (λ back. take (length text - 4) text ++ back) (same_text _ _ (sym last)) ∙ ap (λ s. s ++ codes ".txt") (sym cut)

-- the package_name of a name is all but its last fifteen bytes
pub name_cut : (text front package_name : List ℕ) (n : ℤ) → EndsInTxt text front → EndsInDate front package_name n → IsPackageName package_name
    → IsName text (record { package_name = take (length text - 15) text; day = n })
name_cut text front package_name n ends dated is_package_name =
    let long : length text - 15 ≡ length front - 11 = omega (arith, ap length ends, length-append front (codes ".txt"), length-dated front package_name n dated) in
    let within : length front - 11 ≤ length front = omega arith in
    let cut : take (length text - 15) text ≡ package_name = rw (long, ends, take-append-le (length front - 11) front (codes ".txt") within) (package_name-take front package_name n dated) in
    record { front = front; ends = ends; is_dated = rw cut dated; is_package_name = rw cut is_package_name }

-- a name's text is spelled by its package_name and its day
pub name_is_text : OneDateForDay → (text : List ℕ) (name : Name) → IsName text name → text ≡ text_of name
name_is_text law text name h = rw (h.ends, h.is_dated.spelled, law name.day h.is_dated.date h.is_dated.is_date) refl
