-- Rows that a condition picks, and rows that their rowids take out.
use Rattle.std.proofs.Common.{◌≡◌, ◌==◌, ◌||◌, ℕ, ℤ, pos, negsuc, List, [], ◌∷◌, ◌++◌, map, filter, flat_map, Bool, true}
use Rattle.std.proofs.Common.{false, cond, not, None, IsPermutation, refl, sym, ap, subst, ◌∙◌, if◌then◌else◌}
use Rattle.std.specs.List.{AllByRecursion, list_any, list_all}
use Rattle.std.specs.Ordering.{is_eq, is_lt, int_cmp}
use Rattle.std.specs.Cmp.Lexicographic.{pointwise}
use Rattle.std.proofs.lemmas.Cmp.{tied_itself}
use Rattle.std.proofs.lemmas.Map.Text.{is_eq-slice_cmp}
use Rattle.std.proofs.lemmas.List.Sorted.{IsPermutation-map}
use Rattle.sqlite_value.specs.declared.value.Value.TheVariants.{Int, Text}
use Rattle.sqlite_value.specs.declared.keys.Collation.TheVariants.{Binary}
use Rattle.sqlite_value.specs.declared.keys.Key.{Key}
use Rattle.sqlite_value.specs.Order.{Row, value_cmp}
use Rattle.sqlite_value.proofs.OrderLemmas.{value_cmp_total, value_cmp-Int, value_cmp-Text}
use Rattle.sqlite_trees.specs.Tree.{Trees, rowid, has_rowid, without_rowid}
use Rattle.sqlite_trees.proofs.ListLemmas.{along_permutation}
use Rattle.sqlite_sql.specs.declared.ops.BinaryOp.TheVariants.{Compare}
use Rattle.sqlite_sql.specs.declared.ops.CompareOp.TheVariants.{Eq, Lt}
use Rattle.sqlite_sql.specs.Ops.{binary, is_true}
use Rattle.sqlite_sql.specs.Term.{Term, Env, lit, eval_all, holds}
use Rattle.sqlite_sql.specs.Query.{Query, inner, end, IsAnswer, output, Output}
use Rattle.sqlite_sql.specs.Program.{overlay}
use Rattle.sqlite_rules.specs.Edit.{id_in, without_all}
use Rattle.feed_store_model.specs.Tables.{same_id}
use Rattle.feed_store_model.proofs.Basics.{held}

-- ---- what a comparison of two texts, and of two numbers, says

pub text_equal : (s t : List ℕ) → is_true (binary (Compare Eq Binary) (Text s) (Text t)) ≡ pointwise ◌==◌ s t
unfolding binary
text_equal s t = held (is_eq (value_cmp (Text s) (Text t))) ∙ ap is_eq (value_cmp-Text s t) ∙ is_eq-slice_cmp s t

pub int_less : (m n : ℤ) → is_true (binary (Compare Lt Binary) (Int m) (Int n)) ≡ is_lt (int_cmp m n)
unfolding binary
int_less m n = held (is_lt (value_cmp (Int m) (Int n))) ∙ ap is_lt (value_cmp-Int m n)

-- ---- the answer of a query on one table

abbrev pub table_query : ℕ → List Term → List Term → List (Term × Key) → Query
table_query tree conditions shown order = record {
  from = inner tree end;
  filter = conditions;
  group = None;
  project = shown;
  distinct = false;
  collations = [];
  order = order;
  limit = lit (Int (negsuc 0));
  offset = lit (Int (pos 0));
}

abbrev pub passes : List Term → Row → Row → Bool
passes conditions params row = list_all (holds (params ∷ row ∷ [])) conditions

abbrev second : Output → Row
second o = o.1

module _ (tree : ℕ) (conditions shown : List Term) (order : List (Term × Key)) (params : Row) where
  abbrev q : Query
  q = table_query tree conditions shown order

  abbrev env_if : Row → List Env
  env_if r = if passes conditions params r then (params ∷ r ∷ []) ∷ [] else []

  shown_of : (rows : List Row) → map second (map (output q) (flat_map env_if rows)) ≡ map (λ r. eval_all shown (params ∷ r ∷ [])) (filter (passes conditions params) rows)
  shown_of [] = refl
  shown_of (r ∷ rows) = by (passes conditions params r) (shown_of rows)
    where
      by : (b : Bool) → map second (map (output q) (flat_map env_if rows)) ≡ map (λ r. eval_all shown (params ∷ r ∷ [])) (filter (passes conditions params) rows)
          → map second (map (output q) ((if b then (params ∷ r ∷ []) ∷ [] else []) ++ flat_map env_if rows))
          ≡ map (λ r. eval_all shown (params ∷ r ∷ [])) (cond b (r ∷ filter (passes conditions params) rows) (filter (passes conditions params) rows))
      by true same = ap (λ more. eval_all shown (params ∷ r ∷ []) ∷ more) same
      by false same = same

  pub answered : (db : Trees) (rows : List Row) → overlay db [] tree ≡ db tree → IsAnswer q (overlay db []) params rows
      → IsPermutation (map (λ r. eval_all shown (params ∷ r ∷ [])) (filter (passes conditions params) (db tree))) rows
  answered db rows there a =
      let kept : a.kept ≡ map (output q) (flat_map env_if (db tree)) = a.distinct ∙ ap (map (output q)) (a.grouped ∙ ap (flat_map env_if) there) in
      let same = IsPermutation-map second a.kept a.ordered a.same in
      let front : map second a.kept ≡ map (λ r. eval_all shown (params ∷ r ∷ [])) (filter (passes conditions params) (db tree)) = ap (map second) kept ∙ shown_of (db tree) in
      subst (λ xs. IsPermutation xs rows) front (subst (λ ys. IsPermutation (map second a.kept) ys) (sym a.shown) same)

-- ---- rows that are taken out by their rowids

either_way : (a b c : Bool) → (a || (b || c)) ≡ (b || (a || c))
either_way true true c = refl
either_way true false c = refl
either_way false true c = refl
either_way false false c = refl

pub any_moved : {X : Type 0} (p : X → Bool) (xs ys : List X) → IsPermutation xs ys → list_any p xs ≡ list_any p ys
any_moved {X} p = along_permutation (λ xs ys. list_any p xs ≡ list_any p ys) (λ xs. refl) (λ x xs ys same. ap (λ b. p x || b) same) (λ x y xs. either_way (p x) (p y) (list_any p xs))
    (λ xs ys zs a b. a ∙ b)

pub any_map : {X Y : Type 0} (p : Y → Bool) (f : X → Y) (xs : List X) → list_any p (map f xs) ≡ list_any (λ x. p (f x)) xs
any_map p f [] = refl
any_map p f (x ∷ xs) = ap (λ b. p (f x) || b) (any_map p f xs)

left_of : (r : Row) (rows : List Row) (ids : List ℤ) → without_all (r ∷ rows) ids ≡ cond (list_any (λ id. has_rowid id r) ids) (without_all rows ids) (r ∷ without_all rows ids)
left_of r rows [] = refl
left_of r rows (id ∷ ids) = by (has_rowid id r) (left_of r (without_rowid id rows) ids)
  where
    by : (b : Bool) → without_all (r ∷ without_rowid id rows) ids
        ≡ cond (list_any (λ id. has_rowid id r) ids) (without_all (without_rowid id rows) ids) (r ∷ without_all (without_rowid id rows) ids)
        → without_all (cond (not b) (r ∷ without_rowid id rows) (without_rowid id rows)) ids
        ≡ cond (b || list_any (λ id. has_rowid id r) ids) (without_all (without_rowid id rows) ids) (r ∷ without_all (without_rowid id rows) ids)
    by true same = refl
    by false same = same

-- if exactly the rows that pass a test have one of the rowids, the other rows remain
pub taken_out : (p : Row → Bool) (ids : List ℤ) (rows : List Row) → AllByRecursion (λ r. list_any (λ id. has_rowid id r) ids ≡ p r) rows
    → without_all rows ids ≡ filter (λ r. not (p r)) rows
taken_out p [] [] all = refl
taken_out p (id ∷ ids) [] all = taken_out p ids [] tt
taken_out p ids (r ∷ rows) all = left_of r rows ids ∙ by (p r) all.0 (taken_out p ids rows all.1)
  where
    by : (b : Bool) → list_any (λ id. has_rowid id r) ids ≡ b → without_all rows ids ≡ filter (λ r. not (p r)) rows
        → cond (list_any (λ id. has_rowid id r) ids) (without_all rows ids) (r ∷ without_all rows ids) ≡ cond (not b) (r ∷ filter (λ r. not (p r)) rows) (filter (λ r. not (p r)) rows)
    by true e same = rw (e, same)
    by false e same = rw (e, same)

-- a rowid that is a number
abbrev pub IsKeyed : Row → Type 0
IsKeyed row = rowid row ≡ Int (id_in (rowid row))

pub id_itself : (r : Row) → same_id r r ≡ true
id_itself r = ap is_eq (tied_itself value_cmp_total (rowid r))

pub has_id : (s r : Row) → IsKeyed s → has_rowid (id_in (rowid s)) r ≡ same_id r s
has_id s r keyed = ap (λ v. is_eq (value_cmp (rowid r) v)) (sym keyed)
