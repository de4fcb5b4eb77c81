-- How many values the rows of the tables have.
use Rattle.std.proofs.Common.{◌≡◌, ◌<◌, ◌≤◌, ◌+◌, ◌⊎◌, inl, inr, ◌&&◌, ◌||◌, not, ℕ, zero, suc, None, [], ◌∷◌, List, length, drop, length-drop, Bool, true}
use Rattle.std.proofs.Common.{false, refl, sym, ap, ◌∙◌, subst, arith}
use Rattle.std.specs.List.{AllByRecursion}
use Rattle.sqlite_value.specs.Order.{Row, column}
use Rattle.sqlite_trees.specs.Tree.{Trees}
use Rattle.sqlite_schema.specs.declared.schema.Constraint.TheVariants.{Datatype, NotNull}
use Rattle.sqlite_schema.specs.declared.schema.Column.{Column}
use Rattle.sqlite_schema.specs.declared.schema.Table.{Table}
use Rattle.sqlite_schema.specs.Rules.{passes, are_typed, are_present, has_computed, suits}
use Rattle.sqlite_sql.specs.Ops.{is_null}
use Rattle.sqlite_rules.proofs.ListLemmas.{all_has, all_from}
use Rattle.sqlite.specs.Effect.{Database, IsDatabase}
use Rattle.sqlite.specs.Schema.{Schema}
use Rattle.feed_store_model.specs.Layout.{schema_with, layout_2_schema, release, piece, reason}
use Rattle.feed_store_model.specs.Tables.{HasTables, IsLayout2}

first_of : (a b : Bool) → (a && b) ≡ true → a ≡ true
first_of true b h = refl
first_of false b h = absurd (let g : false ≡ true = h in cc)

last_of : (a b : Bool) → (a && b) ≡ true → b ≡ true
last_of true b h = h
last_of false b h = absurd (let g : false ≡ true = h in cc)

-- a row has no more values than the table has columns
typed_most : (at : ℕ) (columns : List Column) (values : Row) → are_typed None at columns values ≡ true → length values ≤ length columns
typed_most at [] [] h = omega arith
typed_most at [] (v ∷ vs) h = absurd (let g : false ≡ true = h in cc)
typed_most at (c ∷ cs) [] h = omega arith
typed_most at (c ∷ cs) (v ∷ vs) h = omega (arith, typed_most (at + 1) cs vs (last_of (suits c v) (are_typed None (at + 1) cs vs) h))

value_there : (row : Row) (at : ℕ) → not (is_null (column row at)) ≡ true → at < length row
value_there [] at h = absurd (let g : false ≡ true = h in cc)
value_there (v ∷ vs) zero h = omega arith
value_there (v ∷ vs) (suc at) h = omega (arith, value_there vs at h)

-- nor less, where none of them may be NULL
full_least : (at : ℕ) (columns : List Column) (row : Row) → AllByRecursion (λ c. c.not_null ≡ true) columns → are_present None at columns row ≡ true
    → (columns ≡ []) ⊎ (at + length columns < length row)
full_least at [] row all h = inl refl
full_least at (c ∷ cs) row all h =
    let here = value_there row (at + 1) (sym (strict c.not_null (not (is_null (column row (at + 1)))) all.0) ∙ first_of _ (are_present None (at + 1) cs row) h) in
    elim (full_least (at + 1) cs row all.1 (last_of (not c.not_null || not (is_null (column row (at + 1)))) (are_present None (at + 1) cs row) h)) [
      | inl none ↦ inr (omega (arith, ap length none))
      | inr more ↦ inr (omega arith)
    ]
  where
    strict : (b x : Bool) → b ≡ true → (not b || x) ≡ x
    strict b x e = rw e

width : (table : Table) (row : Row) → table.key ≡ None → ¬ (table.columns ≡ []) → AllByRecursion (λ c. c.not_null ≡ true) table.columns
    → are_typed table.key 0 table.columns (drop 1 row) ≡ true → are_present table.key 0 table.columns row ≡ true → length row ≡ length table.columns + 1
width table row none some all typed full =
    let most = typed_most 0 table.columns (drop 1 row) (rw none at typed) in
    elim (full_least 0 table.columns row all (rw none at full)) [
      | inl empty ↦ absurd (some empty)
      | inr least ↦ omega (arith, length-drop 1 row)
    ]

release_width : (s : Schema) (db : Trees) (row : Row) → passes Datatype s db release row ≡ true → passes NotNull s db release row ≡ true → length row ≡ 6
release_width s db row typed full =
    width release row refl (λ e. omega (arith, ap length e)) (refl, (refl, (refl, (refl, (refl, tt)))))
    (first_of (are_typed release.key 0 release.columns (drop 1 row)) (has_computed release row) typed) full

piece_width : (s : Schema) (db : Trees) (row : Row) → passes Datatype s db piece row ≡ true → passes NotNull s db piece row ≡ true → length row ≡ 4
piece_width s db row typed full =
    width piece row refl (λ e. omega (arith, ap length e)) (refl, (refl, (refl, tt))) (first_of (are_typed piece.key 0 piece.columns (drop 1 row)) (has_computed piece row) typed) full

-- a row's number, and its five columns
pub release_widths : (db : Database) → HasTables db → AllByRecursion (λ row. length row ≡ 6) (db.trees 1)
release_widths db has =
    let s = schema_with has.more has.keys in
    let is : IsDatabase (record { schema = s; trees = db.trees }) = subst (λ s. IsDatabase (record { schema = s; trees = db.trees })) has.schema has.obeyed in
    let typed = (is.obeys.rules Datatype).1.0 in
    let full = (is.obeys.rules NotNull).1.0 in
    all_from _ (db.trees 1) (λ r h. release_width s db.trees r
    (all_has (λ row. passes Datatype s db.trees release row ≡ true) (db.trees 1) r typed h)
    (all_has (λ row. passes NotNull s db.trees release row ≡ true) (db.trees 1) r full h))

-- a row's number, and its three columns
pub piece_widths : (db : Database) → HasTables db → AllByRecursion (λ row. length row ≡ 4) (db.trees 3)
piece_widths db has =
    let s = schema_with has.more has.keys in
    let is : IsDatabase (record { schema = s; trees = db.trees }) = subst (λ s. IsDatabase (record { schema = s; trees = db.trees })) has.schema has.obeyed in
    let typed = (is.obeys.rules Datatype).1.1.0 in
    let full = (is.obeys.rules NotNull).1.1.0 in
    all_from _ (db.trees 3) (λ r h. piece_width s db.trees r
    (all_has (λ row. passes Datatype s db.trees piece row ≡ true) (db.trees 3) r typed h)
    (all_has (λ row. passes NotNull s db.trees piece row ≡ true) (db.trees 3) r full h))

reason_width : (db : Trees) (row : Row) → passes Datatype layout_2_schema db reason row ≡ true → passes NotNull layout_2_schema db reason row ≡ true → length row ≡ 4
reason_width db row typed full =
    width reason row refl (λ e. omega (arith, ap length e)) (refl, (refl, (refl, tt))) (first_of (are_typed reason.key 0 reason.columns (drop 1 row)) (has_computed reason row) typed) full

-- a row's number, and its three columns
pub reason_widths : (db : Database) → IsLayout2 db → AllByRecursion (λ row. length row ≡ 4) (db.trees 5)
reason_widths db ours =
    let is : IsDatabase (record { schema = layout_2_schema; trees = db.trees }) = subst (λ s. IsDatabase (record { schema = s; trees = db.trees })) ours.schema ours.obeyed in
    let typed = (is.obeys.rules Datatype).1.1.1.0 in
    let full = (is.obeys.rules NotNull).1.1.1.0 in
    all_from _ (db.trees 5) (λ r h. reason_width db.trees r
    (all_has (λ row. passes Datatype layout_2_schema db.trees reason row ≡ true) (db.trees 5) r typed h)
    (all_has (λ row. passes NotNull layout_2_schema db.trees reason row ≡ true) (db.trees 5) r full h))
