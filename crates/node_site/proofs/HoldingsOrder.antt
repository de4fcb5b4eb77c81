-- The index of a holdings file finds its rows.
use Rattle.std.proofs.Common.{◌≡◌, ◌≢◌, ℕ, zero, suc, ◌+◌, ◌-◌, ◌<◌, ◌≤◌, ◌⊎◌, inl, inr, Bool, true, false, not, ◌&&◌, ◌==◌, if◌then◌else◌, List, [], ◌∷◌, Option, Some, None, Result, Ok, Err}
use Rattle.std.proofs.Common.{Contains, length, get_or, map, max, MatchResult, Less, Equal, Greater, refl, sym, ap, subst, ◌∙◌, arith, leb, nat_lt, sum_by}
use Rattle.std.specs.Cmp.Lexicographic.{bytes_decides, nat_list_eq_equiv}
use Rattle.std.specs.List.Sorted.{IsBinarySearchResult, IsPartitionPoint}
use Rattle.std.specs.Str.{bytes_eq}
use Rattle.std.proofs.lemmas.Bool.{eqb-true, leb-true, leb-false, ltb-true, ltb-false}
use Rattle.std.proofs.lemmas.Bool.Decides.{nat_tests}
use Rattle.std.proofs.lemmas.List.{get_or_default, get_or-map, length-map}
use Rattle.std.proofs.lemmas.List.Elements.{Contains-get_or}
use Rattle.std.proofs.lemmas.List.Sorted.{all_adjacent_more, ranks_by, searchable_from_sorted, sorted_far}
use Rattle.std.proofs.lemmas.List.Sums.{get_or-le-sum_by, sum_by-cons}
use Rattle.node_site.specs.declared.entry.Entry.{Entry}
use Rattle.node_site.specs.declared.fault.ValueFault.TheVariants as bad
use Rattle.node_site.specs.declared.holdings_fault.BadLine.{BadLine}
use Rattle.node_site.specs.Site.{HoldingValue}
use Rattle.node_site.specs.Held.{title_holding}
use Rattle.node_site.specs.HoldingsEntries.{AreEntries, AreHashed, IsInOrder, entries_at, entry_at, hash_of, is_below, key_at, key_cmp}
use Rattle.node_site.specs.HoldingsFaults.{IsConsistent, IsContradiction, at_line, contradicts, is_subject}
use Rattle.node_site.specs.HoldingsFiles.{cells_of, holding_in, line_at, row_of, row_places, rows_of, subject_at}
use Rattle.node_site.specs.HoldingsIndex.{IsClash, IsIndexed, IsPeaceful, IsPeacefulBelow, start_at}
use Rattle.node_site.proofs.HoldingsKeys.{both_true, equal_itself, key_total, passing_subject, same_between, subject_of_equal, subject_passes}

abbrev no_entry : Entry
no_entry = record { hash = 0; start = 0 }

-- whether an entry is this one
abbrev is_it : Entry → Entry → ℕ
is_it entry other = if (other.hash == entry.hash) && (other.start == entry.start) then 1 else 0

itself : (n : ℕ) → (n == n) ≡ true
itself n = grind (arith, nat_tests)

counts_itself : (entry : Entry) → is_it entry entry ≡ 1
counts_itself entry = rw (itself entry.hash, itself entry.start) refl

-- an entry that counts among some is one of them
counted : (entries : List Entry) (entry : Entry) → 1 ≤ sum_by (is_it entry) entries → Contains entries entry
counted [] entry some = absurd (omega (arith, some))
counted (x ∷ xs) entry some = by_case (λ rest. counted xs entry rest) (x.hash == entry.hash) refl (x.start == entry.start) refl
  where
    later : (1 ≤ sum_by (is_it entry) xs → Contains xs entry) → is_it entry x ≡ 0 → Contains (x ∷ xs) entry
    later before none = let rest = before (omega (arith, some, sum_by-cons (is_it entry) x xs, none)) in (suc rest.0, omega (arith, rest.1), rest.2)

    by_case : (1 ≤ sum_by (is_it entry) xs → Contains xs entry) → (h : Bool) → (x.hash == entry.hash) ≡ h → (s : Bool) → (x.start == entry.start) ≡ s
        → Contains (x ∷ xs) entry
    by_case before true hash true start =
        let same_hash : x.hash ≡ entry.hash = eqb-true x.hash entry.hash hash in
        let same_start : x.start ≡ entry.start = eqb-true x.start entry.start start in
        let same : x ≡ entry = λ i. record { hash = same_hash i; start = same_start i } in
        (0, omega arith, same)
    by_case before true hash false start = later before (rw (hash, start) refl)
    by_case before false hash s start = later before (rw hash refl)

-- entries that weigh the same, whatever an entry weighs, are the same
contained : (xs ys : List Entry) → ((weight : Entry → ℕ) → sum_by weight ys ≡ sum_by weight xs) → (entry : Entry) → Contains xs entry → Contains ys entry
contained xs ys same entry held =
    counted ys entry (omega (arith, same (is_it entry), get_or-le-sum_by (is_it entry) xs held.0 entry held.1, ap (is_it entry) held.2, counts_itself entry))

-- the number of the entry of a row
entry_of_row : (text : List ℕ) (entries : List Entry) → AreEntries text entries → (place : ℕ) → Contains (row_places text) place
    → (i : ℕ) × (i < length entries) × (get_or entries i no_entry ≡ entry_at text place)
entry_of_row text entries same place row =
    let made : Contains (entries_at text (row_places text)) (entry_at text place) =
    (row.0, omega (arith, row.1, length-map (row_places text) (entry_at text)), get_or-map (entry_at text) (row_places text) row.0 place (entry_at text place) row.1 ∙ ap (entry_at text) row.2) in
    let held = contained (entries_at text (row_places text)) entries same (entry_at text place) made in
    (held.0, held.1, get_or_default entries held.0 no_entry (entry_at text place) held.1 ∙ held.2)

-- an entry is that of a row
row_of_entry : (text : List ℕ) (entries : List Entry) → AreEntries text entries → (i : ℕ) → i < length entries → Contains (row_places text) (get_or entries i no_entry).start
row_of_entry text entries same i within =
    let entry = get_or entries i no_entry in
    let held = contained entries (entries_at text (row_places text)) (λ weight. sym (same weight)) entry (Contains-get_or entries i no_entry within) in
    let below : held.0 < length (row_places text) = omega (arith, held.1, length-map (row_places text) (entry_at text)) in
    let is : get_or (row_places text) held.0 0 ≡ entry.start = ap (λ (e : Entry). e.start) (sym (get_or-map (entry_at text) (row_places text) held.0 0 entry below) ∙ held.2) in
    subst (Contains (row_places text)) is (Contains-get_or (row_places text) held.0 0 below)

-- an entry has the hash of its row
pub hashed : (text : List ℕ) (entries : List Entry) → AreEntries text entries → AreHashed text entries
hashed text entries same k d within =
    let entry = get_or entries k d in
    let held = contained entries (entries_at text (row_places text)) (λ weight. sym (same weight)) entry (Contains-get_or entries k d within) in
    let below : held.0 < length (row_places text) = omega (arith, held.1, length-map (row_places text) (entry_at text)) in
    let is : entry_at text (get_or (row_places text) held.0 0) ≡ entry = sym (get_or-map (entry_at text) (row_places text) held.0 0 entry below) ∙ held.2 in
    sym (ap (λ (e : Entry). e.hash) is) ∙ ap (λ (place : ℕ). hash_of (subject_at text place)) (ap (λ (e : Entry). e.start) is)

-- rows that contradict each other have the same hash
pub hash_first : (text : List ℕ) (one other : Entry) → one.hash ≡ hash_of (subject_at text one.start) → other.hash ≡ hash_of (subject_at text other.start)
    → ((one.hash == other.hash) && contradicts text one.start other.start) ≡ contradicts text one.start other.start
hash_first text one other first second = by_case (one.hash == other.hash) refl (is_subject (subject_at text one.start) (subject_at text other.start)) refl
  where
    by_case : (h : Bool) → (one.hash == other.hash) ≡ h → (s : Bool) → is_subject (subject_at text one.start) (subject_at text other.start) ≡ s
        → ((one.hash == other.hash) && contradicts text one.start other.start) ≡ contradicts text one.start other.start
    by_case true h s e = rw h refl
    by_case false h false e = rw (h, e) refl
    by_case false h true e =
        let same : one.hash ≡ other.hash = first ∙ ap hash_of (passing_subject (subject_at text one.start) (subject_at text other.start) e) ∙ sym second in
        let equal : (one.hash == other.hash) ≡ true = ap (λ (n : ℕ). one.hash == n) (sym same) ∙ itself one.hash in
        absurd (let no : true ≡ false = sym equal ∙ h in cc)

not_true : (b : Bool) → not b ≡ true → b ≡ false
not_true true h = cc
not_true false h = refl

-- rows about one subject that do not contradict each other are the same line
peaceful_lines : (text : List ℕ) (one other : ℕ) → contradicts text one other ≡ false → subject_at text one ≡ subject_at text other → line_at text one ≡ line_at text other
peaceful_lines text one other peace same = by_case (bytes_eq (line_at text one) (line_at text other)) refl
  where
    by_case : (b : Bool) → bytes_eq (line_at text one) (line_at text other) ≡ b → line_at text one ≡ line_at text other
    by_case true e = (bytes_decides (line_at text one) (line_at text other)).0 e
    by_case false e =
        let clash : contradicts text one other ≡ true = rw (subject_passes (subject_at text one) (subject_at text other) same, e) refl in
        absurd (let no : true ≡ false = sym clash ∙ peace in cc)

-- in order, and without a contradiction between neighbours, all rows with one key are the same line
same_line : (text : List ℕ) (entries : List Entry) → IsInOrder text entries → IsPeaceful text entries → (i j : ℕ) → i ≤ j → j < length entries
    → key_at text (get_or entries i no_entry) ≡ key_at text (get_or entries j no_entry) → line_at text (get_or entries i no_entry).start ≡ line_at text (get_or entries j no_entry).start
same_line text entries up peace i zero le within same =
    let first : i ≡ 0 = omega arith in
    ap (λ (k : ℕ). line_at text (get_or entries k no_entry).start) first
same_line text entries up peace i (suc k) le within same = by_case (λ below here between. same_line text entries up peace i k below here between) (leb i k) refl
  where
    far : (m n : ℕ) → m ≤ n → n < length entries → is_below text (get_or entries n no_entry) (get_or entries m no_entry) ≡ false
    far m n m_n n_within = sorted_far (is_below text) (ranks_by key_total (key_at text)) entries up m n no_entry m_n n_within

    by_case : (i ≤ k → k < length entries → key_at text (get_or entries i no_entry) ≡ key_at text (get_or entries k no_entry)
        → line_at text (get_or entries i no_entry).start ≡ line_at text (get_or entries k no_entry).start)
        → (b : Bool) → leb i k ≡ b → line_at text (get_or entries i no_entry).start ≡ line_at text (get_or entries (suc k) no_entry).start
    by_case before false e =
        let past = leb-false i k e in
        let last : i ≡ suc k = omega (arith, past) in
        ap (λ (n : ℕ). line_at text (get_or entries n no_entry).start) last
    by_case before true e =
        let below : i ≤ k = leb-true i k e in
        let here : k < length entries = omega arith in
        let next : k ≤ suc k = omega arith in
        let between : key_at text (get_or entries k no_entry) ≡ key_at text (get_or entries i no_entry) =
        same_between (key_at text (get_or entries i no_entry)) (key_at text (get_or entries k no_entry)) (key_at text (get_or entries (suc k) no_entry)) same
        (far i k below here) (far k (suc k) next within) in
        let front = before below here (sym between) in
        let after : k + 1 < length entries = omega arith in
        let more : k + 1 ≡ suc k = omega arith in
        let step : contradicts text (get_or entries k no_entry).start (get_or entries (suc k) no_entry).start ≡ false =
        subst (λ (n : ℕ). contradicts text (get_or entries k no_entry).start (get_or entries n no_entry).start ≡ false) more (peace k no_entry after) in
        front
        ∙ peaceful_lines text (get_or entries k no_entry).start (get_or entries (suc k) no_entry).start step (ap (λ (k : ℕ × (List ℕ × List ℕ)). k.1) (between ∙ same))

-- so no two rows of the text contradict each other
pub consistent : (text : List ℕ) (entries : List Entry) → AreEntries text entries → IsInOrder text entries → IsPeaceful text entries → IsConsistent text
consistent text entries are up peace = record { alike = alike }
  where
    ordered : (one other i j : ℕ) → i < length entries → j < length entries → get_or entries i no_entry ≡ entry_at text one → get_or entries j no_entry ≡ entry_at text other
        → (b : Bool) → leb i j ≡ b → subject_at text one ≡ subject_at text other → line_at text one ≡ line_at text other
    ordered one other i j i_within j_within i_is j_is b le same =
        sym (ap (λ (e : Entry). line_at text e.start) i_is) ∙ here b le ∙ ap (λ (e : Entry). line_at text e.start) j_is
      where
        keys : key_at text (get_or entries i no_entry) ≡ key_at text (get_or entries j no_entry)
        keys = ap (key_at text) i_is ∙ ap (λ (s : List ℕ × List ℕ). (hash_of s, s)) same ∙ sym (ap (key_at text) j_is)

        here : (b : Bool) → leb i j ≡ b → line_at text (get_or entries i no_entry).start ≡ line_at text (get_or entries j no_entry).start
        here true le = same_line text entries up peace i j (leb-true i j le) j_within keys
        here false gt = let back : j ≤ i = omega (arith, leb-false i j gt) in sym (same_line text entries up peace j i back i_within (sym keys))

    alike : (one other : ℕ) → Contains (row_places text) one → Contains (row_places text) other → subject_at text one ≡ subject_at text other
        → line_at text one ≡ line_at text other
    alike one other first second same =
        let i = entry_of_row text entries are one first in
        let j = entry_of_row text entries are other second in
        ordered one other i.0 j.0 i.1 j.1 i.2 j.2 (leb i.0 j.0) refl same

-- whether the row at a place is about a title
abbrev about : List ℕ → List ℕ → List ℕ → ℕ → Bool
about package_id id text place = is_subject (subject_at text place) (package_id, id)

-- what is looked up among the rows at some places
abbrev among : List ℕ → List ℕ → List ℕ → List ℕ → Option HoldingValue
among package_id id text places = title_holding package_id id (map (λ place. row_of (line_at text place)) places)

-- no row is about the title
abbrev IsAbsent : List ℕ → List ℕ → List ℕ → List ℕ → Type 0
IsAbsent package_id id text places = (among package_id id text places ≡ None) × ((place : ℕ) → Contains places place → about package_id id text place ≡ false)

-- one of them is, and what it says is looked up
record IsPresent (package_id id text places : List ℕ) : Type 0 where
  place : ℕ
  row : Contains places place
  passes : about package_id id text place ≡ true
  found : among package_id id text places ≡ Some (holding_in (cells_of (line_at text place)))

later_row : (x : ℕ) (xs : List ℕ) (place : ℕ) → Contains xs place → Contains (x ∷ xs) place
later_row x xs place held = (suc held.0, omega (arith, held.1), held.2)

looked_up : (package_id id text places : List ℕ) → IsAbsent package_id id text places ⊎ IsPresent package_id id text places
looked_up package_id id text [] = inl (refl, λ place held. absurd (omega (arith, held.1)))
looked_up package_id id text (x ∷ xs) = by_case (about package_id id text x) refl (looked_up package_id id text xs)
  where
    by_case : (b : Bool) → about package_id id text x ≡ b → IsAbsent package_id id text xs ⊎ IsPresent package_id id text xs
        → IsAbsent package_id id text (x ∷ xs) ⊎ IsPresent package_id id text (x ∷ xs)
    by_case true e rest = inr (record { place = x; row = (0, omega arith, refl); passes = e; found = rw e refl })
    by_case false e (inr is) =
        inr (record { place = is.place; row = later_row x xs is.place is.row; passes = is.passes; found = rw e is.found })
    by_case false e (inl is) = inl (rw e is.0, λ place held. none_here place held.0 held.1 held.2)
      where
        none_here : (place k : ℕ) → k < suc (length xs) → get_or (x ∷ xs) k place ≡ place → about package_id id text place ≡ false
        none_here place zero below at = subst (λ (p : ℕ). about package_id id text p ≡ false) at e
        none_here place (suc k) below at = is.1 place (k, omega arith, at)

-- what entries are compared with: the hash of a package and a title, and then these
abbrev sought : List ℕ → List ℕ → ℕ × (List ℕ × List ℕ)
sought package_id id = (hash_of (package_id, id), (package_id, id))

-- the number of an equal entry in the index, or none if no row is equal
found_in : (text : List ℕ) (entries : List Entry) → IsIndexed text entries → (package_id id : List ℕ) (r : Result ℕ ℕ)
    → MatchResult r (λ i. i < length entries) (λ i. i ≤ length entries)
    → IsBinarySearchResult (λ entry. key_cmp (key_at text entry) (sought package_id id)) entries r
    → IsAbsent package_id id text (row_places text) ⊎ IsPresent package_id id text (row_places text)
    → MatchResult r (λ i. among package_id id text (row_places text) ≡ Some (holding_in (cells_of (line_at text (get_or entries i no_entry).start))))
    (λ i. among package_id id text (row_places text) ≡ None)
found_in text entries is package_id id (Ok i) within at (inl absent) =
    let entry = get_or entries i no_entry in
    let same = subject_of_equal (key_at text entry) (sought package_id id) (at no_entry) in
    absurd (let no : true ≡ false = sym (subject_passes (subject_at text entry.start) (package_id, id) same) ∙ absent.1 entry.start (row_of_entry text entries is.same i within) in cc)
found_in text entries is package_id id (Ok i) within at (inr present) =
    let entry = get_or entries i no_entry in
    let same = subject_of_equal (key_at text entry) (sought package_id id) (at no_entry) in
    let line = is.consistent.alike present.place entry.start present.row (row_of_entry text entries is.same i within)
    (passing_subject (subject_at text present.place) (package_id, id) present.passes ∙ sym same) in
    present.found ∙ ap (λ (line : List ℕ). Some (holding_in (cells_of line))) line
found_in text entries is package_id id (Err i) within at (inl absent) = absent.0
found_in text entries is package_id id (Err i) within at (inr present) =
    let held = entry_of_row text entries is.same present.place present.row in
    let parts = at (searchable_from_sorted key_total (key_at text) entries (sought package_id id) is.sorted) in
    let same = passing_subject (subject_at text present.place) (package_id, id) present.passes in
    let keys : key_at text (get_or entries held.0 no_entry) ≡ sought package_id id = ap (key_at text) held.2 ∙ ap (λ (s : List ℕ × List ℕ). (hash_of s, s)) same in
    absurd (side held.0 held.1 (equal_itself (key_at text (get_or entries held.0 no_entry)) (sought package_id id) keys) (nat_lt held.0 i) refl parts)
  where
    side : (k : ℕ) → k < length entries → key_cmp (key_at text (get_or entries k no_entry)) (sought package_id id) ≡ Equal → (b : Bool) → nat_lt k i ≡ b
        → IsPartitionPoint (λ entry. key_cmp (key_at text entry) (sought package_id id) ≡ Less) (λ entry. key_cmp (key_at text entry) (sought package_id id) ≡ Greater) entries i
        → ⊥
    side k below equal true lt parts = let no : Less ≡ Equal = sym (parts.0 k no_entry (omega arith) (ltb-true k i lt)) ∙ equal in cc
    side k below equal false ge parts = let no : Greater ≡ Equal = sym (parts.1 k no_entry (ltb-false k i ge) below) ∙ equal in cc

-- a binary search in the index finds what the rows say
pub found : (text : List ℕ) (entries : List Entry) → IsIndexed text entries → (package_id id : List ℕ) (r : Result ℕ ℕ)
    → MatchResult r (λ i. i < length entries) (λ i. i ≤ length entries)
    → IsBinarySearchResult (λ entry. key_cmp (key_at text entry) (sought package_id id)) entries r
    → MatchResult r (λ i. title_holding package_id id (rows_of text) ≡ Some (holding_in (cells_of (line_at text (start_at entries i)))))
    (λ i. title_holding package_id id (rows_of text) ≡ None)
unfolding rows_of
found text entries is package_id id r within at = found_in text entries is package_id id r within at (looked_up package_id id text (row_places text))

-- of two rows that contradict each other, the one that comes later in the file is the fault
clash_is : (text : List ℕ) (one other : ℕ) (fault : BadLine) → contradicts text one other ≡ true → Contains (row_places text) one → Contains (row_places text) other
    → fault ≡ at_line text (max one other) bad.Contradicts → IsContradiction text fault
clash_is text one other fault clash one_row other_row is = by_case (nat_lt one other) refl
  where
    parts : (is_subject (subject_at text one) (subject_at text other) ≡ true) × (not (bytes_eq (line_at text one) (line_at text other)) ≡ true)
    parts = both_true (is_subject (subject_at text one) (subject_at text other)) (not (bytes_eq (line_at text one) (line_at text other))) clash

    same : subject_at text one ≡ subject_at text other
    same = passing_subject (subject_at text one) (subject_at text other) parts.0

    differ : line_at text one ≢ line_at text other
    differ alike =
        let equal : bytes_eq (line_at text one) (line_at text other) ≡ true =
        subst (λ (line : List ℕ). bytes_eq (line_at text one) line ≡ true) alike (nat_list_eq_equiv.refl (line_at text one)) in
        let no : true ≡ false = sym equal ∙ not_true (bytes_eq (line_at text one) (line_at text other)) parts.1 in
        cc

    apart : one ≢ other
    apart alike = differ (ap (line_at text) alike)

    by_case : (b : Bool) → nat_lt one other ≡ b → IsContradiction text fault
    by_case true lt =
        let before : one < other = ltb-true one other lt in
        let last : max one other ≡ other = omega arith in record {
          earlier = one;
          later = other;
          before = before;
          earlier_row = one_row;
          later_row = other_row;
          same = same;
          differs = differ;
          is = is ∙ ap (λ (place : ℕ). at_line text place bad.Contradicts) last;
        }
    by_case false ge =
        let not_before : other ≤ one = ltb-false one other ge in
        let before : other < one = omega (arith, apart, not_before) in
        let last : max one other ≡ one = omega arith in record {
          earlier = other;
          later = one;
          before = before;
          earlier_row = other_row;
          later_row = one_row;
          same = sym same;
          differs = λ alike. differ (sym alike);
          is = is ∙ ap (λ (place : ℕ). at_line text place bad.Contradicts) last;
        }

pub contradiction : (text : List ℕ) (entries : List Entry) (fault : BadLine) → AreEntries text entries → IsClash text entries fault → IsContradiction text fault
contradiction text entries fault are clash =
    let within : clash.place < length entries = omega (arith, clash.within) in
    clash_is text (start_at entries clash.place) (start_at entries (clash.place + 1)) fault clash.clash (row_of_entry text entries are clash.place within)
    (row_of_entry text entries are (clash.place + 1) clash.within) clash.is

-- one more row that does not contradict the one before it
pub peace_more : (text : List ℕ) (entries : List Entry) (i : ℕ) → 0 < i → i < length entries → IsPeacefulBelow text entries i
    → contradicts text (get_or entries (i - 1) no_entry).start (get_or entries i no_entry).start ≡ false → IsPeacefulBelow text entries (i + 1)
peace_more text entries i some within so_far here = all_adjacent_more entries (λ one other. contradicts text one.start other.start ≡ false) i some so_far at_default
  where
    at_default : (d : Entry) → contradicts text (get_or entries (i - 1) d).start (get_or entries i d).start ≡ false
    at_default d =
        let before : i - 1 < length entries = omega arith in
        ap (λ (e : Entry). contradicts text e.start (get_or entries i d).start) (get_or_default entries (i - 1) d no_entry before)
        ∙ ap (λ (e : Entry). contradicts text (get_or entries (i - 1) no_entry).start e.start) (get_or_default entries i d no_entry within) ∙ here
