-- The rows that a removal leaves, of the releases, of their parts and of their reasons.
use Rattle.std.proofs.Common.{◌≡◌, inl, inr, ◌==◌, ◌||◌, ◌&&◌, ℤ, List, [], ◌∷◌, map, filter, Bool, true, false}
use Rattle.std.proofs.Common.{cond, not, IsPermutation, refl, sym, ap, subst, ◌∙◌}
use Rattle.std.specs.List.{AllByRecursion, IsDistinct, list_any}
use Rattle.std.specs.Ordering.{is_eq}
use Rattle.std.specs.Cmp.Lexicographic.{pointwise, bytes_decides}
use Rattle.std.specs.declared.cmp.Ordering.{Ordering}
use Rattle.std.specs.declared.cmp.Ordering.TheVariants.{Less, Equal, Greater}
use Rattle.std.proofs.lemmas.Cmp.{tied_back}
use Rattle.std.proofs.lemmas.Map.Keys.{IsDistinct-head, IsDistinct-tail}
use Rattle.sqlite_value.specs.declared.value.Value.TheVariants.{Text}
use Rattle.sqlite_value.specs.Order.{Row, column, value_cmp}
use Rattle.sqlite_value.specs.declared.keys.Collation.TheVariants.{Binary}
use Rattle.sqlite_value.specs.Keys.{plain, first_key}
use Rattle.sqlite_tied.specs.Compute.{everything}
use Rattle.sqlite_value.proofs.OrderLemmas.{value_cmp_total}
use Rattle.sqlite_trees.specs.Tree.{Trees, rowid, has_rowid}
use Rattle.sqlite_schema.specs.declared.schema.Table.{Table}
use Rattle.sqlite_schema.specs.Rules.{agree, equal}
use Rattle.sqlite_sql.specs.Ops.{binary}
use Rattle.sqlite_rules.specs.Lists.{Has}
use Rattle.sqlite_rules.specs.Edit.{id_in, without_all, row_at}
use Rattle.sqlite_rules.specs.Action.{pairs, loses, is_child_of, AreChildren}
use Rattle.sqlite_rules.proofs.ListLemmas.{all_has, all_from, some_has, some_from, has_filtered, has_kept}
use Rattle.feed_store_model.specs.Layout.{piece, reason}
use Rattle.feed_store_model.specs.Tables.{same_id, text_in, is_of}
use Rattle.feed_store_model.proofs.Rows.{IsKeyed, has_id, id_itself, any_moved, any_map, taken_out, text_equal}
use Rattle.feed_store_model.proofs.Basics.{same_test, and_true, three_one, one_three, one_five, three_five, five_one, five_three}
use Rattle.feed_store_model.proofs.Cascade.{Cascade, Removes, removes_beside, work, lose}

tied_is : (o : Ordering) → is_eq o ≡ true → o ≡ Equal
tied_is Equal e = refl
tied_is Less e = absurd (let g : false ≡ true = e in cc)
tied_is Greater e = absurd (let g : false ≡ true = e in cc)

-- two rows of one rowid are one
pub one_row : (rows : List Row) (a b : Row) → IsDistinct same_id rows → Has rows a → Has rows b → same_id a b ≡ true → a ≡ b
one_row [] a b d h k same = absurd h
one_row (r ∷ rows) a b d (inl p) (inl q) same = p ∙ sym q
one_row (r ∷ rows) a b d (inl p) (inr k) same =
    let apart = all_has (λ y. same_id r y ≡ false) rows b (IsDistinct-head same_id r rows d) k in
    absurd (let g : true ≡ false = sym same ∙ ap (λ x. same_id x b) p ∙ apart in cc)
one_row (r ∷ rows) a b d (inr h) (inl q) same =
    let apart = all_has (λ y. same_id r y ≡ false) rows a (IsDistinct-head same_id r rows d) h in
    let back : same_id b a ≡ true = ap is_eq (tied_back value_cmp_total (rowid a) (rowid b) (tied_is _ same)) in
    absurd (let g : true ≡ false = sym back ∙ ap (λ x. same_id x a) q ∙ apart in cc)
one_row (r ∷ rows) a b d (inr h) (inr k) same = one_row rows a b (IsDistinct-tail same_id r rows d) h k same

-- the row of a rowid that is there
pub row_there : (rows : List Row) (r : Row) → AllByRecursion IsKeyed rows → IsDistinct same_id rows → Has rows r → row_at rows (id_in (rowid r)) ≡ r
row_there [] r keyed d h = absurd h
row_there (x ∷ xs) r keyed d h =
    let own : IsKeyed r = all_has IsKeyed (x ∷ xs) r keyed h in
    by (same_id x r) refl own h (row_there xs r keyed.1 (IsDistinct-tail same_id x xs d))
  where
    by : (b : Bool) → same_id x r ≡ b → IsKeyed r → Has (x ∷ xs) r → (Has xs r → row_at xs (id_in (rowid r)) ≡ r) → row_at (x ∷ xs) (id_in (rowid r)) ≡ r
    by true e own h later = rw (has_id r x own, e) (one_row (x ∷ xs) x r d (inl refl) h e)
    by false e own (inl p) later = absurd (let g : false ≡ true = sym e ∙ ap (λ y. same_id x y) p ∙ id_itself x in cc)
    by false e own (inr k) later = rw (has_id r x own, e) (later k)

-- a row has a rowid of the selected ones exactly if it is selected
picked_id : (p : Row → Bool) (rows : List Row) → AllByRecursion IsKeyed rows → IsDistinct same_id rows
    → (r : Row) → Has rows r → list_any (λ s. has_rowid (id_in (rowid s)) r) (filter p rows) ≡ p r
picked_id p rows keyed d r h = same_test _ (p r) there back
  where
    there : list_any (λ s. has_rowid (id_in (rowid s)) r) (filter p rows) ≡ true → p r ≡ true
    there some =
        let it = some_has (λ s. has_rowid (id_in (rowid s)) r) (filter p rows) some in
        let was = has_filtered p rows it.0 it.1 in
        let same : same_id r it.0 ≡ true = sym (has_id it.0 r (all_has IsKeyed rows it.0 keyed was.0)) ∙ it.2 in
        ap p (one_row rows r it.0 d h was.0 same) ∙ was.1

    back : p r ≡ true → list_any (λ s. has_rowid (id_in (rowid s)) r) (filter p rows) ≡ true
    back e = some_from (λ s. has_rowid (id_in (rowid s)) r) (filter p rows) r (has_kept p rows r h e) (has_id r r (all_has IsKeyed rows r keyed h) ∙ id_itself r)

-- the rows without those that a condition picked
pub left_rows : (p : Row → Bool) (rows : List Row) (ids : List ℤ) → AllByRecursion IsKeyed rows → IsDistinct same_id rows → IsPermutation (map (λ r. id_in (rowid r)) (filter p rows)) ids
    → without_all rows ids ≡ filter (λ r. not (p r)) rows
left_rows p rows ids keyed d moved = taken_out p ids rows (all_from _ rows (λ r h.
    sym (any_moved (λ id. has_rowid id r) _ ids moved) ∙ any_map (λ id. has_rowid id r) (λ s. id_in (rowid s)) (filter p rows) ∙ picked_id p rows keyed d r h))

-- ---- the parts

-- a row whose first column is a text
abbrev pub IsTexted : Row → Type 0
IsTexted row = column row 1 ≡ Text (text_in row)

-- the part is one of some row that the condition picks
abbrev pub is_child : (Row → Bool) → List Row → Row → Bool
is_child p rows row = list_any (λ o. is_of (text_in o) row) (filter p rows)

first_plain : (first_key plain).collation ≡ Binary
unfolding everything
first_plain = refl

pub equal_texts : (a b : Row) → IsTexted a → IsTexted b → agree plain (1 ∷ []) a (1 ∷ []) b ≡ pointwise ◌==◌ (text_in a) (text_in b)
equal_texts a b s t = rw (s, t) (ap (λ how. equal how (Text (text_in a)) (Text (text_in b)) && true) first_plain ∙ and_true (equal Binary (Text (text_in a)) (Text (text_in b)))
    ∙ text_equal (text_in a) (text_in b))

lost : (o : Row) → IsTexted o → loses plain (1 ∷ []) (o, []) ≡ true
unfolding binary
lost o texted = rw (equal_texts o o texted texted, (bytes_decides (text_in o) (text_in o)).1 refl, texted)

-- a part is a child of a row exactly if it has its text
child_of : (child : Table) (w : List Row) (row o : Row) → IsTexted row → IsTexted o → is_child_of (work child w) row (o, []) ≡ is_of (text_in o) row
child_of child w row o s t = rw (lost o t, equal_texts row o s t)

pairs_any : (f : Row × Row → Bool) (olds : List Row) → list_any f (pairs olds []) ≡ list_any (λ o. f (o, [])) olds
pairs_any f [] = refl
pairs_any f (o ∷ olds) = ap (λ b. f (o, []) || b) (pairs_any f olds)

pub same_filter : (p q : Row → Bool) (rows : List Row) → AllByRecursion (λ r. p r ≡ q r) rows → filter p rows ≡ filter q rows
same_filter p q [] all = refl
same_filter p q (r ∷ rows) all = rw all.0 (ap (cond (q r) (r ∷ filter p rows)) (same_filter p q rows all.1) ∙ ap (λ l. cond (q r) (r ∷ l) (filter q rows)) (same_filter p q rows all.1))

keep_all : (p : Row → Bool) (rows : List Row) → AllByRecursion (λ r. p r ≡ false) rows → filter (λ r. not (p r)) rows ≡ rows
keep_all p [] all = refl
keep_all p (r ∷ rows) all = rw all.0 (ap (λ l. r ∷ l) (keep_all p rows all.1))

-- the children of the rows that were taken are those of the rows that were picked
module _ (p : Row → Bool) (rows : List Row) (ids : List ℤ) (keyed : AllByRecursion IsKeyed rows) (d : IsDistinct same_id rows) (texted : AllByRecursion IsTexted rows)
    (moved : IsPermutation (map (λ r. id_in (rowid r)) (filter p rows)) ids) where
  any_taken : (f : Row → Bool) → list_any f (map (row_at rows) ids) ≡ list_any f (filter p rows)
  any_taken f =
      any_map f (row_at rows) ids
      ∙ sym (any_moved (λ id. f (row_at rows id)) (map (λ r. id_in (rowid r)) (filter p rows)) ids moved)
      ∙ any_map (λ id. f (row_at rows id)) (λ r. id_in (rowid r)) (filter p rows)
      ∙ any_same (λ r. f (row_at rows (id_in (rowid r)))) f (filter p rows) (all_from _ (filter p rows) (λ r h. ap f (row_there rows r keyed d (has_filtered p rows r h).0)))
    where
      any_same : (f g : Row → Bool) (xs : List Row) → AllByRecursion (λ r. f r ≡ g r) xs → list_any f xs ≡ list_any g xs
      any_same f g [] all = refl
      any_same f g (x ∷ xs) all = rw (all.0, any_same f g xs all.1)

  children_are : (child : Table) (row : Row) → IsTexted row → list_any (is_child_of (work child (map (row_at rows) ids)) row) (pairs (map (row_at rows) ids) []) ≡ is_child p rows row
  children_are child row t =
      pairs_any (is_child_of (work child (map (row_at rows) ids)) row) (map (row_at rows) ids)
      ∙ any_taken (λ o. is_child_of (work child (map (row_at rows) ids)) row (o, []))
      ∙ any_same _ (λ o. is_of (text_in o) row) (filter p rows)
      (all_from _ (filter p rows) (λ o h. child_of child (map (row_at rows) ids) row o t (all_has IsTexted rows o texted (has_filtered p rows o h).0)))
    where
      any_same : (f g : Row → Bool) (xs : List Row) → AllByRecursion (λ r. f r ≡ g r) xs → list_any f xs ≡ list_any g xs
      any_same f g [] all = refl
      any_same f g (x ∷ xs) all = rw (all.0, any_same f g xs all.1)

  losing : lose (map (row_at rows) ids) ≡ false → (row : Row) → is_child p rows row ≡ false
  losing none row =
      no_child (filter p rows) (all_from IsTexted (filter p rows) (λ o h. all_has IsTexted rows o texted (has_filtered p rows o h).0))
      (sym (any_taken (λ o. loses plain (1 ∷ []) (o, []))) ∙ sym (pairs_any (loses plain (1 ∷ [])) (map (row_at rows) ids)) ∙ none)
    where
      no_child : (xs : List Row) → AllByRecursion IsTexted xs → list_any (λ o. loses plain (1 ∷ []) (o, [])) xs ≡ false → list_any (λ o. is_of (text_in o) row) xs ≡ false
      no_child [] all e = refl
      no_child (x ∷ xs) all e = absurd (let g : true ≡ false = sym (ap (λ b. b || list_any (λ o. loses plain (1 ∷ []) (o, [])) xs) (lost x all.0)) ∙ e in cc)

  -- if exactly the children have the rowids that are deleted, the other rows remain
  children_gone : (child : Table) (mid : Trees) (pieces : List Row) (ids' : List ℤ) → mid child.tree ≡ pieces
      → AllByRecursion IsKeyed pieces → IsDistinct same_id pieces → AllByRecursion IsTexted pieces
      → AreChildren mid (work child (map (row_at rows) ids)) ids' → without_all (mid child.tree) ids' ≡ filter (λ r. not (is_child p rows r)) pieces
  children_gone child mid pieces ids' same pkeyed pd ptexted are =
      rw same (taken_out (is_child p rows) ids' pieces (all_from _ pieces (λ row h. same_test (list_any (λ id. has_rowid id row) ids') (is_child p rows row) (there row h) (back row h))))
    where
      there : (row : Row) → Has pieces row → list_any (λ id. has_rowid id row) ids' ≡ true → is_child p rows row ≡ true
      there row h some =
          let it = some_has (λ id. has_rowid id row) ids' some in
          let one = are.sound it.0 it.1 in
          let tie : same_id row one.0 ≡ true = ap (λ v. is_eq (value_cmp (rowid row) v)) one.3 ∙ it.2 in
          let is : row ≡ one.0 = one_row pieces row one.0 pd h (subst (λ l. Has l one.0) same one.1) tie in
          sym (children_are child row (all_has IsTexted pieces row ptexted h)) ∙ ap (λ r. list_any (is_child_of (work child (map (row_at rows) ids)) r) (pairs (map (row_at rows) ids) [])) is ∙ one.2

      back : (row : Row) → Has pieces row → is_child p rows row ≡ true → list_any (λ id. has_rowid id row) ids' ≡ true
      back row h e =
          let own : IsKeyed row = all_has IsKeyed pieces row pkeyed h in
          let listed = are.complete row (id_in (rowid row)) (subst (λ l. Has l row) (sym same) h) (children_are child row (all_has IsTexted pieces row ptexted h) ∙ e) own in
          some_from (λ id. has_rowid id row) ids' (id_in (rowid row)) listed (has_id row row own ∙ id_itself row)

-- rows of a table, each with a number and a text
pub record AreTexted (rows : List Row) : Type 0 where
  pub keyed : AllByRecursion IsKeyed rows
  pub ids : IsDistinct same_id rows
  pub texted : AllByRecursion IsTexted rows

-- the tables without the rows that a condition picks, and without their parts and reasons
pub record AreLeft (p : Row → Bool) (db next : Trees) : Type 0 where
  pub releases : next 1 ≡ filter (λ r. not (p r)) (db 1)
  pub pieces : next 3 ≡ filter (λ r. not (is_child p (db 1) r)) (db 3)
  pub reasons : next 5 ≡ filter (λ r. not (is_child p (db 1) r)) (db 5)

module _ (p : Row → Bool) (db next : Trees) (gone : List ℤ) (releases : AreTexted (db 1)) (pieces : AreTexted (db 3)) (reasons : AreTexted (db 5))
    (moved : IsPermutation (map (λ r. id_in (rowid r)) (filter p (db 1))) gone) (c : Cascade db next gone) where
  rows : c.mid 1 ≡ filter (λ r. not (p r)) (db 1)
  rows = c.first.rows ∙ left_rows p (db 1) gone releases.keyed releases.ids moved

  -- without the children of the picked rows, the others are left
  left_of_table : (child : Table) (mid late : Trees) (these : List Row) → mid child.tree ≡ these → AreTexted these → Removes child c.olds mid late
      → late child.tree ≡ filter (λ r. not (is_child p (db 1) r)) these
  left_of_table child mid late these same are it =
      let mine = subst (λ o. AreChildren mid (work child o) it.ids) c.taken it.are in
      let gone_there = children_gone p (db 1) gone releases.keyed releases.ids releases.texted moved child mid these it.ids same are.keyed are.ids are.texted mine in
      elim it.then [
        | inl none ↦ ap (λ (t : Trees). t child.tree) none.1 ∙ ap (without_all (mid child.tree)) (sym none.0) ∙ gone_there
        | inr later ↦ later.rows ∙ gone_there
      ]

  -- where no row had a key that is lost, none had a child
  all_left : lose c.olds ≡ false → (these : List Row) → these ≡ filter (λ r. not (is_child p (db 1) r)) these
  all_left none these = sym (keep_all (is_child p (db 1)) these
      (all_from _ these (λ r h. losing p (db 1) gone releases.keyed releases.ids releases.texted moved (ap lose (sym c.taken) ∙ none) r)))

  pub removed : AreLeft p db next
  removed = elim c.then [
    | inl none ↦ record {
      releases = ap (λ (t : Trees). t 1) none.1 ∙ rows;
      pieces = ap (λ (t : Trees). t 3) none.1 ∙ c.first.tables.1.1.0 three_one ∙ all_left none.0 (db 3);
      reasons = ap (λ (t : Trees). t 5) none.1 ∙ c.first.tables.1.1.1.0 five_one ∙ all_left none.0 (db 5);
    }
    | inr (late, first, last) ↦
        let parts_there : late 3 ≡ db 3 = removes_beside reason c.olds c.mid late 3 first (λ ids it. it.tables.1.1.0 three_five) ∙ c.first.tables.1.1.0 three_one in record {
          releases = removes_beside piece c.olds late next 1 last (λ ids it. it.tables.1.0 one_three)
              ∙ removes_beside reason c.olds c.mid late 1 first (λ ids it. it.tables.1.0 one_five) ∙ rows;
          pieces = left_of_table piece late next (db 3) parts_there pieces last;
          reasons = removes_beside piece c.olds late next 5 last (λ ids it. it.tables.1.1.1.0 five_three)
              ∙ left_of_table reason c.mid late (db 5) (c.first.tables.1.1.1.0 five_one) reasons first;
        }
  ]
