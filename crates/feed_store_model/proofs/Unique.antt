-- The consequences of the tables' constraints: no name appears twice, and no place of a name.
use Rattle.std.proofs.Common.{◌≡◌, ◌⊎◌, inl, inr, ◌==◌, ◌&&◌, ℕ, pos, List, [], ◌∷◌, map, filter, Bool, true, false, cond, refl, sym, ap, subst, ◌∙◌, arith}
use Rattle.std.specs.List.{AllByRecursion, IsDistinct}
use Rattle.std.specs.Ordering.{is_eq, is_ne}
use Rattle.std.specs.declared.cmp.Ordering.{Ordering}
use Rattle.std.specs.declared.cmp.Ordering.TheVariants.{Less, Equal, Greater}
use Rattle.std.specs.Cmp.Lexicographic.{pointwise, bytes_decides}
use Rattle.sqlite_value.specs.declared.value.Value.TheVariants.{Int}
use Rattle.sqlite_value.specs.Order.{Row, column, value_cmp}
use Rattle.sqlite_value.specs.Keys.{plain, first_key, later}
use Rattle.sqlite_trees.specs.Tree.{Trees, rowid}
use Rattle.sqlite_schema.specs.declared.schema.Constraint.TheVariants.{Unique}
use Rattle.sqlite_schema.specs.Rules.{passes, clashes, agree, differ, equal}
use Rattle.sqlite_sql.specs.Ops.{binary}
use Rattle.sqlite_tied.specs.Compute.{everything}
use Rattle.sqlite_rules.specs.Lists.{Has}
use Rattle.sqlite_rules.specs.Edit.{id_in}
use Rattle.sqlite_rules.proofs.ListLemmas.{all_has, all_from, some_from, has_filtered}
use Rattle.sqlite.specs.Effect.{Database, IsDatabase}
use Rattle.sqlite_catalog.specs.Listing.{IsSound}
use Rattle.sqlite.specs.Table.{Table}
use Rattle.sqlite_schema.specs.declared.schema.Index.{Index}
use Rattle.std.proofs.lemmas.Map.Keys.{IsDistinct-head, IsDistinct-tail}
use Rattle.feed_store_model.specs.Layout.{schema_with, layout_2_schema, release, piece, reason}
use Rattle.feed_store_model.specs.Tables.{HasTables, same_id, text_in, part_in, is_of}
use Rattle.feed_store_model.proofs.Rows.{IsKeyed}
use Rattle.feed_store_model.proofs.Order.{same_first}
use Rattle.std.proofs.lemmas.Cmp.{tied_itself, int_cmp_total}
use Rattle.std.proofs.lemmas.Bool.Decides.{nat_tests}
use Rattle.sqlite_value.proofs.OrderLemmas.{value_cmp-Int}
use Rattle.feed_store_model.proofs.Basics.{held, not_broken, first_unbroken}
use Rattle.feed_store_model.proofs.Gone.{IsTexted, AreTexted, equal_texts}

abbrev pub same_texts : Row → Row → Bool
same_texts a b = pointwise ◌==◌ (text_in a) (text_in b)

clash_free : (more : List Table) (keys : List Index) (db : Trees) (row : Row) → passes Unique (schema_with more keys) db release row ≡ true → clashes plain (1 ∷ []) (db 1) row ≡ false
clash_free more keys db row h = first_unbroken (clashes plain (1 ∷ []) (db 1) row) _ h

reason_free : (db : Trees) (row : Row) → passes Unique layout_2_schema db reason row ≡ true → clashes plain (1 ∷ []) (db 5) row ≡ false
reason_free db row h = not_broken (clashes plain (1 ∷ []) (db 5) row) h

untied : (o : Ordering) → is_eq o ≡ false → is_ne o ≡ true
untied Equal e = absurd (let g : true ≡ false = e in cc)
untied Less e = refl
untied Greater e = refl

differs : (a b : Row) → IsKeyed a → IsKeyed b → same_id a b ≡ false → differ (rowid a) (rowid b) ≡ true
unfolding binary
differs a b ka kb apart =
    let e : is_eq (value_cmp (Int (id_in (rowid a))) (Int (id_in (rowid b)))) ≡ false = rw (← ka, ← kb) apart in
    rw (ka, kb) (held (is_ne (value_cmp (Int (id_in (rowid a))) (Int (id_in (rowid b))))) ∙ untied _ e)

module _ (rows : List Row) (keyed : AllByRecursion IsKeyed rows) (texted : AllByRecursion IsTexted rows) (free : AllByRecursion (λ row. clashes plain (1 ∷ []) rows row ≡ false) rows) where
  apart_from : (a b : Row) → Has rows a → Has rows b → same_id a b ≡ false → same_texts a b ≡ false
  apart_from a b h k apart = by (same_texts a b) refl
    where
      by : (t : Bool) → same_texts a b ≡ t → t ≡ false
      by false e = refl
      by true e =
          let one : agree plain (1 ∷ []) a (1 ∷ []) b ≡ true = equal_texts a b (all_has IsTexted rows a texted h) (all_has IsTexted rows b texted k) ∙ e in
          let two = differs a b (all_has IsKeyed rows a keyed h) (all_has IsKeyed rows b keyed k) apart in
          let both : (agree plain (1 ∷ []) a (1 ∷ []) b && differ (rowid a) (rowid b)) ≡ true = rw (one, two) in
          let some = some_from (λ other. agree plain (1 ∷ []) other (1 ∷ []) b && differ (rowid other) (rowid b)) rows a h both in
          absurd (let g : true ≡ false = sym some ∙ all_has (λ row. clashes plain (1 ∷ []) rows row ≡ false) rows b free k in cc)

  texts_apart : (xs : List Row) → ((x : Row) → Has xs x → Has rows x) → IsDistinct same_id xs → IsDistinct same_texts xs
  unfolding IsDistinct
  texts_apart [] among d = tt
  texts_apart (x ∷ xs) among d =
      (all_from _ xs (λ y h. apart_from x y (among x (inl refl)) (among y (inr h)) (all_has (λ y. same_id x y ≡ false) xs y d.0 h)), texts_apart xs (λ y h. among y (inr h)) d.1)

pub distinct_some : (p : Row → Bool) (xs : List Row) → IsDistinct same_id xs → IsDistinct same_id (filter p xs)
unfolding IsDistinct
distinct_some p [] d = tt
distinct_some p (x ∷ xs) d = by (p x) (distinct_some p xs d.1)
  where
    by : (b : Bool) → IsDistinct same_id (filter p xs) → IsDistinct same_id (cond b (x ∷ filter p xs) (filter p xs))
    by true more = (all_from _ (filter p xs) (λ y h. all_has (λ y. same_id x y ≡ false) xs y d.0 (has_filtered p xs y h).0), more)
    by false more = more

piece_free : (more : List Table) (keys : List Index) (db : Trees) (row : Row) → passes Unique (schema_with more keys) db piece row ≡ true → clashes plain (1 ∷ 2 ∷ []) (db 3) row ≡ false
piece_free more keys db row h = first_unbroken (clashes plain (1 ∷ 2 ∷ []) (db 3) row) _ h

-- a row whose second column is a place
abbrev pub IsPlaced : Row → Type 0
IsPlaced row = column row 2 ≡ Int (pos (part_in row).first)

equal_places : (m : ℕ) → (equal (first_key (later plain)).collation (Int (pos m)) (Int (pos m)) && true) ≡ true
unfolding binary everything
equal_places m = rw (value_cmp-Int (pos m) (pos m), tied_itself int_cmp_total (pos m))

first_equal : (a b : Row) → IsTexted a → IsTexted b → same_texts a b ≡ true → equal (first_key plain).collation (column a 1) (column b 1) ≡ true
first_equal a b s t e = both (equal (first_key plain).collation (column a 1) (column b 1)) (equal_texts a b s t ∙ e)
  where
    both : (x : Bool) → (x && true) ≡ true → x ≡ true
    both true h = refl
    both false h = absurd (let g : false ≡ true = h in cc)

module _ (rows : List Row) (keyed : AllByRecursion IsKeyed rows) (texted : AllByRecursion IsTexted rows) (placed : AllByRecursion IsPlaced rows)
    (free : AllByRecursion (λ row. clashes plain (1 ∷ 2 ∷ []) rows row ≡ false) rows) (t : List ℕ) where
  places_apart_from : (a b : Row) → Has rows a → Has rows b → same_id a b ≡ false → is_of t a ≡ true → is_of t b ≡ true → same_first (part_in a) (part_in b) ≡ false
  places_apart_from a b h k apart x y = by (same_first (part_in a) (part_in b)) refl
    where
      by : (e : Bool) → same_first (part_in a) (part_in b) ≡ e → e ≡ false
      by false e = refl
      by true e =
          let tie : same_texts a b ≡ true = (bytes_decides (text_in a) (text_in b)).1 ((bytes_decides (text_in a) t).0 x ∙ sym ((bytes_decides (text_in b) t).0 y)) in
          let one = first_equal a b (all_has IsTexted rows a texted h) (all_has IsTexted rows b texted k) tie in
          let same : (part_in a).first ≡ (part_in b).first = grind (arith, nat_tests) in
          let two : (equal (first_key (later plain)).collation (column a 2) (column b 2) && true) ≡ true =
          rw (all_has IsPlaced rows a placed h, all_has IsPlaced rows b placed k, same) (equal_places (part_in b).first) in
          let three = differs a b (all_has IsKeyed rows a keyed h) (all_has IsKeyed rows b keyed k) apart in
          let both : (agree plain (1 ∷ 2 ∷ []) a (1 ∷ 2 ∷ []) b && differ (rowid a) (rowid b)) ≡ true = rw (one, two, three) in
          let some = some_from (λ other. agree plain (1 ∷ 2 ∷ []) other (1 ∷ 2 ∷ []) b && differ (rowid other) (rowid b)) rows a h both in
          absurd (let g : true ≡ false = sym some ∙ all_has (λ row. clashes plain (1 ∷ 2 ∷ []) rows row ≡ false) rows b free k in cc)

  firsts_apart : (xs : List Row) → ((x : Row) → Has xs x → Has rows x × (is_of t x ≡ true)) → IsDistinct same_id xs → IsDistinct same_first (map part_in xs)
  unfolding IsDistinct
  firsts_apart [] among d = tt
  firsts_apart (x ∷ xs) among d =
      (others x (among x (inl refl)) xs (λ y h. among y (inr h)) d.0, firsts_apart xs (λ y h. among y (inr h)) d.1)
    where
      others : (x : Row) → Has rows x × (is_of t x ≡ true) → (ys : List Row) → ((y : Row) → Has ys y → Has rows y × (is_of t y ≡ true))
          → AllByRecursion (λ y. same_id x y ≡ false) ys
          → AllByRecursion (λ p. same_first (part_in x) p ≡ false) (map part_in ys)
      others x here [] among apart = tt
      others x here (y ∷ ys) among apart = (places_apart_from x y here.0 (among y (inl refl)).0 apart.0 here.1 (among y (inl refl)).1, others x here ys (λ z h. among z (inr h)) apart.1)

-- no two parts of a name have one place
pub distinct_places : (db : Database) → HasTables db → AreTexted (db.trees 3) → AllByRecursion IsPlaced (db.trees 3)
    → (t : List ℕ) → IsDistinct same_first (map part_in (filter (is_of t) (db.trees 3)))
distinct_places db has are placed t =
    let s = schema_with has.more has.keys in
    let is : IsSound s db.trees = subst (λ s. IsSound s db.trees) has.schema has.obeyed in
    let rules = (is.obeys.rules Unique).1.1.0 in
    firsts_apart (db.trees 3) are.keyed are.texted placed (all_from _ (db.trees 3)
    (λ r h. piece_free has.more has.keys db.trees r (all_has (λ row. passes Unique s db.trees piece row ≡ true) (db.trees 3) r rules h))) t
    (filter (is_of t) (db.trees 3)) (λ x h. has_filtered (is_of t) (db.trees 3) x h) (distinct_some (is_of t) (db.trees 3) are.ids)

-- no two releases have one text
pub distinct_texts : (db : Database) → HasTables db → AreTexted (db.trees 1) → IsDistinct same_texts (db.trees 1)
distinct_texts db has are =
    let s = schema_with has.more has.keys in
    let is : IsSound s db.trees = subst (λ s. IsSound s db.trees) has.schema has.obeyed in
    let rules = (is.obeys.rules Unique).1.0 in
    texts_apart (db.trees 1) are.keyed are.texted (all_from _ (db.trees 1)
    (λ r h. clash_free has.more has.keys db.trees r (all_has (λ row. passes Unique s db.trees release row ≡ true) (db.trees 1) r rules h))) (db.trees 1) (λ x h. h) are.ids

-- no two reasons have one text
pub distinct_reasons : (db : Database) → db.schema ≡ layout_2_schema → IsDatabase db → AreTexted (db.trees 5) → IsDistinct same_texts (db.trees 5)
distinct_reasons db has sound are =
    let is : IsSound layout_2_schema db.trees = subst (λ s. IsSound s db.trees) has sound in
    let rules = (is.obeys.rules Unique).1.1.1.0 in
    texts_apart (db.trees 5) are.keyed are.texted (all_from _ (db.trees 5)
    (λ r h. reason_free db.trees r (all_has (λ row. passes Unique layout_2_schema db.trees reason row ≡ true) (db.trees 5) r rules h))) (db.trees 5) (λ x h. h) are.ids

-- ---- at most one row has a text

none_of : (t : List ℕ) (r : Row) (xs : List Row) → is_of t r ≡ true → AllByRecursion (λ y. same_texts r y ≡ false) xs → filter (is_of t) xs ≡ []
none_of t r [] e apart = refl
none_of t r (x ∷ xs) e apart = at (is_of t x) refl (none_of t r xs e apart.1)
  where
    at : (b : Bool) → is_of t x ≡ b → filter (is_of t) xs ≡ [] → cond b (x ∷ filter (is_of t) xs) (filter (is_of t) xs) ≡ []
    at false f more = more
    at true f more =
        let tie : same_texts r x ≡ true = (bytes_decides (text_in r) (text_in x)).1 ((bytes_decides (text_in r) t).0 e ∙ sym ((bytes_decides (text_in x) t).0 f)) in
        absurd (let g : true ≡ false = sym tie ∙ apart.0 in cc)

pub single : (t : List ℕ) (rows : List Row) → IsDistinct same_texts rows → (filter (is_of t) rows ≡ []) ⊎ ((r : Row) × (filter (is_of t) rows ≡ r ∷ []))
single t [] d = inl refl
single t (r ∷ rows) d = by (is_of t r) refl (single t rows (IsDistinct-tail same_texts r rows d))
  where
    by : (b : Bool) → is_of t r ≡ b → (filter (is_of t) rows ≡ []) ⊎ ((r : Row) × (filter (is_of t) rows ≡ r ∷ []))
        → (cond b (r ∷ filter (is_of t) rows) (filter (is_of t) rows) ≡ []) ⊎ ((s : Row) × (cond b (r ∷ filter (is_of t) rows) (filter (is_of t) rows) ≡ s ∷ []))
    by true e more = inr (r, ap (λ l. r ∷ l) (none_of t r rows e (IsDistinct-head same_texts r rows d)))
    by false e more = more
