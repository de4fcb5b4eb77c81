-- The content where the record of one name is another one, and where it has one more part.
use Rattle.std.proofs.Common.{◌≡◌, ℕ, List, [], ◌∷◌, map, filter, Bool, true, false, cond, refl, sym, ap, subst, ◌∙◌, if◌then◌else◌}
use Rattle.std.specs.List.{AllByRecursion, IsDistinct}
use Rattle.std.specs.Cmp.Lexicographic.{bytes_decides}
use Rattle.std.proofs.lemmas.Map.Text.{is_eq-slice_cmp}
use Rattle.std.proofs.lemmas.Map.Keys.{IsDistinct-head, IsDistinct-tail}
use Rattle.std.proofs.lemmas.List.Sorted.{IsPermutation-sym, IsPermutation-map}
use Rattle.sqlite_value.specs.Order.{Row}
use Rattle.sqlite_trees.specs.Tree.{put_row}
use Rattle.sqlite_trees.proofs.ListLemmas.{map-map, IsPermutation-filter}
use Rattle.sqlite_rules.specs.Edit.{is_taken}
use Rattle.sqlite_rules.proofs.ListLemmas.{all_has, all_from}
use Rattle.feed_names.specs.ReleaseName.{Name, IsName, text_of, name_eq}
use Rattle.feed_names.proofs.NameLemmas.{one_front, one_split}
use Rattle.feed_model.specs.Content.{Part, Record, Content, names}
use Rattle.feed_model.specs.Change.{insert_part, changed}
use Rattle.feed_model.proofs.Names.{name_is, name_self, name_laws}
use Rattle.feed_store_model.specs.Tables.{IsReleaseRow, text_in, name_in, part_in, is_of, parts_in, record_in, sorted, content_in}
use Rattle.feed_store_model.specs.Records.{with_part}
use Rattle.feed_store_model.proofs.Basics.{same_test}
use Rattle.feed_store_model.proofs.Insertion.{sort, sort_moved, sort_distinct, map_sort}
use Rattle.feed_store_model.proofs.Order.{same_text, record_stops, record_laws, records_sort, same_first, part_stops, part_laws, parts_sort, inserted_part}
use Rattle.feed_store_model.proofs.Unique.{same_texts}
use Rattle.feed_store_model.proofs.Contents.{distinct_records, release_text, map_same}
use Rattle.feed_store_model.proofs.Puts.{put_moved}

-- one text is that of one name
pub one_name : (m n : Name) → IsName (text_of m) m → IsName (text_of n) n → text_of m ≡ text_of n → m ≡ n
one_name m n hm hn same =
    let front = one_front (text_of m) hm.front hn.front hm.ends (rw same hn.ends) in
    one_split hm.front m n hm.is_dated (rw front hn.is_dated)

-- the record of the name is another one
abbrev pub each : Name → (Record → Record) → Record → Record
each n f r = if name_eq r.name n then f r else r

names_apart : (c : Content) → IsDistinct same_text c → IsDistinct name_eq (names c)
unfolding IsDistinct
names_apart [] d = tt
names_apart (r ∷ rs) d = (others r rs d.0, names_apart rs d.1)
  where
    others : (r : Record) (xs : Content) → AllByRecursion (λ y. same_text r y ≡ false) xs → AllByRecursion (λ n. name_eq r.name n ≡ false) (names xs)
    others r [] apart = tt
    others r (x ∷ xs) apart = (by (name_eq r.name x.name) refl, others r xs apart.1)
      where
        by : (b : Bool) → name_eq r.name x.name ≡ b → b ≡ false
        by false e = refl
        by true e =
            let same = ap text_of (name_is r.name x.name e) in
            let tie : same_text r x ≡ true = is_eq-slice_cmp (text_of r.name) (text_of x.name) ∙ (bytes_decides (text_of r.name) (text_of x.name)).1 same in
            absurd (let g : true ≡ false = sym tie ∙ apart.0 in cc)

-- no name appears twice in sorted records
pub sorted_names : (rs : List Record) → IsDistinct same_text rs → IsDistinct name_eq (names (sorted rs))
sorted_names rs d = names_apart (sorted rs) (subst (IsDistinct same_text) (sym (records_sort rs)) (sort_distinct same_text record_stops record_laws rs d))

none_here : (n : Name) (f : Record → Record) (c : Content) → AllByRecursion (λ m. name_eq n m ≡ false) (names c) → map (each n f) c ≡ c
none_here n f [] apart = refl
none_here n f (r ∷ rs) apart =
    let other : name_eq r.name n ≡ false = name_laws.symm r.name n ∙ apart.0 in
    rw other (ap (λ l. r ∷ l) (none_here n f rs apart.1))

pub changed_map : (n : Name) (f : Record → Record) (c : Content) → IsDistinct name_eq (names c) → map (each n f) c ≡ changed n f c
changed_map n f [] d = refl
changed_map n f (r ∷ rs) d = by (name_eq r.name n) refl (changed_map n f rs (IsDistinct-tail name_eq r.name (names rs) d))
  where
    by : (b : Bool) → name_eq r.name n ≡ b → map (each n f) rs ≡ changed n f rs
        → (if name_eq r.name n then f r else r) ∷ map (each n f) rs ≡ (if b then f r ∷ rs else r ∷ changed n f rs)
    by true e more = rw e (ap (λ l. f r ∷ l) (none_here n f rs
        (subst (λ (m : Name). AllByRecursion (λ k. name_eq m k ≡ false) (names rs)) (name_is r.name n e) (IsDistinct-head name_eq r.name (names rs) d))))
    by false e more = rw e (ap (λ l. r ∷ l) more)

each_name : (n : Name) (f : Record → Record) → ((r : Record) → (f r).name ≡ r.name) → (r : Record) → (each n f r).name ≡ r.name
each_name n f same r = by (name_eq r.name n)
  where
    by : (b : Bool) → (if b then f r else r).name ≡ r.name
    by true = same r
    by false = refl

-- where each record of a list is the changed one, so it is of the content
pub each_content : (n : Name) (f : Record → Record) → ((r : Record) → (f r).name ≡ r.name) → (rs : List Record) → IsDistinct same_text rs
    → sorted (map (each n f) rs) ≡ changed n f (sorted rs)
each_content n f same rs d =
    records_sort (map (each n f) rs)
    ∙ sym (map_sort record_stops (each n f) (λ x y. rw (each_name n f same x, each_name n f same y) refl) rs)
    ∙ ap (map (each n f)) (sym (records_sort rs))
    ∙ changed_map n f (sorted rs) (sorted_names rs d)

-- ---- one more part

-- a row of the name's text is a row of the name
pub is_named : (n : Name) (r new : Row) → IsName (text_of n) n → IsReleaseRow r → text_in new ≡ text_of n → is_of (text_in r) new ≡ name_eq (name_in r) n
is_named n r new named row texted = same_test (is_of (text_in r) new) (name_eq (name_in r) n) there back
  where
    there : is_of (text_in r) new ≡ true → name_eq (name_in r) n ≡ true
    there e =
        let texts : text_of (name_in r) ≡ text_of n = sym (release_text r row) ∙ sym ((bytes_decides (text_in new) (text_in r)).0 e) ∙ texted in
        subst (λ (m : Name). name_eq m n ≡ true) (sym (one_name (name_in r) n row.named named texts)) (name_self n)

    back : name_eq (name_in r) n ≡ true → is_of (text_in r) new ≡ true
    back e = (bytes_decides (text_in new) (text_in r)).1 (texted ∙ ap text_of (sym (name_is (name_in r) n e)) ∙ sym (release_text r row))

parts_put : (new : Row) (pieces : List Row) (t : List ℕ) → is_taken pieces new ≡ false → IsDistinct same_first (map part_in (filter (is_of t) (put_row new pieces)))
    → parts_in (put_row new pieces) t ≡ (if is_of t new then insert_part (part_in new) (parts_in pieces t) else parts_in pieces t)
parts_put new pieces t free d =
    let moved = IsPermutation-filter (is_of t) (put_row new pieces) (new ∷ pieces) (IsPermutation-sym (new ∷ pieces) (put_row new pieces) (put_moved new pieces free)) in
    parts_sort (map part_in (filter (is_of t) (put_row new pieces)))
    ∙ sort_moved same_first part_stops part_laws _ (map part_in (filter (is_of t) (new ∷ pieces))) (IsPermutation-map part_in _ (filter (is_of t) (new ∷ pieces)) moved) d
    ∙ by (is_of t new)
  where
    by : (b : Bool) → sort part_stops (map part_in (cond b (new ∷ filter (is_of t) pieces) (filter (is_of t) pieces)))
        ≡ (if b then insert_part (part_in new) (parts_in pieces t) else parts_in pieces t)
    by true = sym (inserted_part (part_in new) (sort part_stops (map part_in (filter (is_of t) pieces)))) ∙ ap (insert_part (part_in new)) (sym (parts_sort (map part_in (filter (is_of t) pieces))))
    by false = sym (parts_sort (map part_in (filter (is_of t) pieces)))

pub part_content : (n : Name) (new : Row) (rows pieces : List Row) → IsName (text_of n) n → text_in new ≡ text_of n → AllByRecursion IsReleaseRow rows → IsDistinct same_texts rows
    → is_taken pieces new ≡ false
    → ((t : List ℕ) → IsDistinct same_first (map part_in (filter (is_of t) (put_row new pieces))))
    → content_in rows (put_row new pieces) ≡ changed n (with_part (part_in new)) (content_in rows pieces)
part_content n new rows pieces named texted are apart free places =
    let f = with_part (part_in new) in
    let each_row : map (record_in (put_row new pieces)) rows ≡ map (λ r. each n f (record_in pieces r)) rows =
    map_same _ (λ r. each n f (record_in pieces r)) rows (all_from _ rows (λ r h. one r (all_has IsReleaseRow rows r are h))) in
    ap sorted (each_row ∙ sym (map-map (each n f) (record_in pieces) rows)) ∙ each_content n f (λ r. refl) (map (record_in pieces) rows) (distinct_records pieces rows are apart)
  where
    one : (r : Row) → IsReleaseRow r → record_in (put_row new pieces) r ≡ each n (with_part (part_in new)) (record_in pieces r)
    one r row =
        ap (λ (ps : List Part). let x : Record = record (record_in pieces r) { parts = ps } in x) (parts_put new pieces (text_in r) free (places (text_in r)))
        ∙ by (is_of (text_in r) new) (name_eq (name_in r) n) (is_named n r new named row texted)
      where
        by : (a b : Bool) → a ≡ b → (let x : Record = record
            (record_in pieces r) { parts = if a then insert_part (part_in new) (parts_in pieces (text_in r)) else parts_in pieces (text_in r) } in x)
            ≡ (if b then with_part (part_in new) (record_in pieces r) else record_in pieces r)
        by true true e = refl
        by false false e = refl
        by true false e = absurd (let g : true ≡ false = e in cc)
        by false true e = absurd (let g : false ≡ true = e in cc)
