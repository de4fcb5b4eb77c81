-- The effect of setting a state on the content.
use Rattle.std.proofs.Common.{◌≡◌, ◌⊎◌, ◌&&◌, inl, inr, ℕ, ℤ, pos, List, [], ◌∷◌, ◌++◌, length, map, filter, drop}
use Rattle.std.proofs.Common.{Bool, true, false, cond, not, None, IsPermutation, refl, sym, ap, subst, ◌∙◌, arith}
use Rattle.std.specs.List.{AllByRecursion, IsDistinct}
use Rattle.std.specs.Cmp.Lexicographic.{bytes_decides}
use Rattle.std.proofs.lemmas.List.Sorted.{length_permutation, IsPermutation-refl, IsPermutation-sym, IsPermutation-trans}
use Rattle.std.proofs.lemmas.List.Sorted.{IsPermutation-map, IsPermutation-filter_both}
use Rattle.sqlite_value.specs.declared.value.Value.TheVariants.{Int, Text}
use Rattle.sqlite_value.specs.Order.{Row, column}
use Rattle.sqlite_trees.specs.Tree.{rowid, put_row}
use Rattle.sqlite_trees.specs.Objects.{number_in}
use Rattle.sqlite_trees.proofs.ListLemmas.{map-map}
use Rattle.sqlite_trees.proofs.TreeLemmas.{all-put_row}
use Rattle.sqlite_sql.specs.Term.{eval_all}
use Rattle.sqlite_rules.specs.Lists.{Has}
use Rattle.sqlite_rules.specs.declared.error.Rowids.TheVariants.{Given}
use Rattle.sqlite_rules.specs.Cast.{cast_row}
use Rattle.sqlite_rules.specs.Edit.{id_in, edit_of, edited, left_by, are_fresh, is_taken, without_all}
use Rattle.sqlite_rules.specs.Calls.{ids_of}
use Rattle.sqlite_rules.proofs.ListLemmas.{all_has, all_from, has_filtered}
use Rattle.sqlite.proofs.Callers.{one_permutation}
use Rattle.sqlite.specs.Effect.{Database}
use Rattle.sqlite.specs.Query.{IsAnswer}
use Rattle.sqlite.specs.Program.{overlay}
use Rattle.feed_names.specs.ReleaseName.{Name, IsName, text_of, name_eq}
use Rattle.feed_model.specs.declared.state.State.{State}
use Rattle.feed_model.specs.declared.state.State.TheVariants.{Staged, Broken, Active}
use Rattle.feed_model.specs.Content.{Record}
use Rattle.feed_model.specs.Change.{changed}
use Rattle.feed_model.proofs.Names.{name_is, name_self}
use Rattle.feed_store_model.specs.Layout.{release}
use Rattle.feed_store_model.specs.Records.{with_state}
use Rattle.feed_store_model.specs.Tables.{IsReleaseRow, AreRows, AreReasons, IsChanged, HoldsReleases, HoldsRecords, IsLayout2}
use Rattle.feed_store_model.specs.Tables.{content_without_reasons, release_row, number_of, state_at, same_id, text_in}
use Rattle.feed_store_model.specs.Tables.{name_in, is_of, record_in, parts_in, sorted, content_in, stored_content}
use Rattle.feed_store_model.proofs.Basics.{same_test}
use Rattle.feed_store_model.proofs.Insertion.{sort_moved}
use Rattle.feed_store_model.proofs.Order.{same_text, record_stops, record_laws, records_sort}
use Rattle.feed_store_model.proofs.Rows.{passes, answered, text_equal}
use Rattle.feed_store_model.proofs.Conditions.{with_new_state}
use Rattle.feed_store_model.proofs.Gone.{left_rows, same_filter}
use Rattle.feed_store_model.proofs.Unique.{same_texts, distinct_texts, distinct_some, single}
use Rattle.feed_store_model.proofs.Ours.{KeepsLayout, still_ours, tables_of}
use Rattle.feed_store_model.proofs.Contents.{distinct_records, release_text, release_texted, map_same, texted_releases}
use Rattle.feed_store_model.proofs.Inserted.{cast_int, free_from}
use Rattle.feed_store_model.proofs.Puts.{put_moved, put_distinct}
use Rattle.feed_store_model.proofs.Each.{each, each_content, one_name}
use Rattle.feed_store_model.proofs.Explained.{explained_changed}

-- the row that the statement changes, if any
pub record Sets (name : List ℕ) (status : ℤ) (old new : Database) : Type 0 where
  pub keeps : KeepsLayout old new
  pub rows : List Row
  pub picked : IsAnswer with_new_state (overlay old.trees []) (Text name ∷ Int status ∷ []) rows
  pub releases : new.trees 1 ≡ edited old.trees (edit_of old.trees release (ids_of rows) Given 1 rows)
  pub fresh : are_fresh (left_by old.trees (edit_of old.trees release (ids_of rows) Given 1 rows))
      (edit_of old.trees release (ids_of rows) Given 1 rows).news ≡ true
  pub pieces : new.trees 3 ≡ old.trees 3
  pub reasons : new.trees 5 ≡ old.trees 5

pub state_back : (s : State) → state_at (number_of s) ≡ s
state_back Staged = refl
state_back Broken = refl
state_back Active = refl

-- the condition of the statement is that the text is the name's
picks : List ℕ → ℤ → Row → Bool
picks text status row = passes with_new_state.filter (Text text ∷ Int status ∷ []) row

picks_is : (text : List ℕ) (status : ℤ) (r : Row) → IsReleaseRow r → passes with_new_state.filter (Text text ∷ Int status ∷ []) r ≡ is_of text r
picks_is text status r h = rw (release_texted r h, text_equal (text_in r) text) (last (is_of text r))
  where
    last : (b : Bool) → (b && true) ≡ b
    last true = refl
    last false = refl

-- a row has the text of the name exactly if it is the name's
named_is : (n : Name) (r : Row) → IsName (text_of n) n → IsReleaseRow r → is_of (text_of n) r ≡ name_eq (name_in r) n
named_is n r named row = same_test (is_of (text_of n) r) (name_eq (name_in r) n) there back
  where
    there : is_of (text_of n) r ≡ true → name_eq (name_in r) n ≡ true
    there e =
        let texts : text_of (name_in r) ≡ text_of n = sym (release_text r row) ∙ (bytes_decides (text_in r) (text_of n)).0 e in
        subst (λ (m : Name). name_eq m n ≡ true) (sym (one_name (name_in r) n row.named named texts)) (name_self n)

    back : name_eq (name_in r) n ≡ true → is_of (text_of n) r ≡ true
    back e = (bytes_decides (text_in r) (text_of n)).1 (release_text r row ∙ ap text_of (name_is (name_in r) n e))

-- the row with another state
renewed : Row → State → Row
renewed r s = release_row (id_in (rowid r)) (name_in r) (number_in (column r 4)) s

module _ (n : Name) (s : State) (named : IsName (text_of n) n) where
  abbrev t : List ℕ
  t = text_of n

  abbrev params : Row
  params = Text t ∷ Int (pos (number_of s)) ∷ []

  abbrev shows : Row → Row
  shows row = eval_all with_new_state.project (params ∷ row ∷ [])

  written : (r : Row) → IsReleaseRow r → cast_row release (drop 1 (shows r)) ≡ renewed r s
  unfolding renewed
  written r h = ap (λ row. cast_row release (drop 1 (shows row))) h.is
      ∙ rw (cast_int (id_in (rowid r)), cast_int (name_in r).day, cast_int (pos (number_in (column r 4))), cast_int (pos (number_of s)))

  is_row : (r : Row) → IsReleaseRow r → IsReleaseRow (renewed r s)
  unfolding renewed
  is_row r h = record { is = ap (release_row (id_in (rowid r)) (name_in r) (number_in (column r 4))) (sym (state_back s)); named = h.named; limit = h.limit }

  record_is : (pieces : List Row) (r : Row) → IsReleaseRow r → record_in pieces (renewed r s) ≡ with_state s (record_in pieces r)
  unfolding renewed
  record_is pieces r h =
      ap (λ (st : State). let x : Record = record { name = name_in r; size = number_in (column r 4); state = st; reason = None; parts = parts_in pieces (text_of (name_in r)) } in x) (state_back s)
      ∙ ap (λ (u : List ℕ). let x : Record = record { name = name_in r; size = number_in (column r 4); state = s; reason = None; parts = parts_in pieces u } in x) (sym (release_text r h))

  others_same : (pieces xs : List Row) → AllByRecursion IsReleaseRow xs → AllByRecursion (λ r. is_of t r ≡ false) xs
      → map (λ r. each n (with_state s) (record_in pieces r)) xs ≡ map (record_in pieces) xs
  others_same pieces xs are out = map_same _ _ xs (all_from _ xs (λ r h.
      let other : name_eq (name_in r) n ≡ false = sym (named_is n r named (all_has IsReleaseRow xs r are h)) ∙ all_has (λ r. is_of t r ≡ false) xs r out h in
      rw other refl))

  none_out : (xs : List Row) → filter (is_of t) xs ≡ [] → AllByRecursion (λ r. is_of t r ≡ false) xs
  none_out [] e = tt
  none_out (x ∷ xs) e = by (is_of t x) refl e (none_out xs)
    where
      by : (b : Bool) → is_of t x ≡ b → cond b (x ∷ filter (is_of t) xs) (filter (is_of t) xs) ≡ [] → (filter (is_of t) xs ≡ [] → AllByRecursion (λ r. is_of t r ≡ false) xs)
          → AllByRecursion (λ r. is_of t r ≡ false) (x ∷ xs)
      by true f g more = absurd (let u = g in cc)
      by false f g more = (f, more g)

  rest_out : (xs : List Row) → AllByRecursion (λ r. is_of t r ≡ false) (filter (λ r. not (is_of t r)) xs)
  rest_out xs = all_from _ (filter (λ r. not (is_of t r)) xs) (λ r h. turned (is_of t r) (has_filtered (λ r. not (is_of t r)) xs r h).1)
    where
      turned : (b : Bool) → not b ≡ true → b ≡ false
      turned false e = refl
      turned true e = absurd (let g : false ≡ true = e in cc)

  -- the rows where at most one is another one
  pub record AreRenewed (rows pieces new : List Row) : Type 0 where
    pub are_releases : AllByRecursion IsReleaseRow new
    pub ids : IsDistinct same_id new
    pub content : IsDistinct same_texts new → content_in new pieces ≡ changed n (with_state s) (content_in rows pieces)

  none_new : (rows pieces : List Row) → AreRows rows pieces → IsDistinct same_texts rows → filter (is_of t) rows ≡ [] → AreRenewed rows pieces rows
  none_new rows pieces are apart none = record {
    are_releases = are.are_releases;
    ids = are.ids;
    content = λ _. ap sorted (sym (others_same pieces rows are.are_releases (none_out rows none)) ∙ sym (map-map (each n (with_state s)) (record_in pieces) rows))
        ∙ each_content n (with_state s) (λ r. refl) (map (record_in pieces) rows) (distinct_records pieces rows are.are_releases apart);
  }

  one_new : (rows pieces : List Row) → AreRows rows pieces → IsDistinct same_texts rows → (r : Row) → IsReleaseRow r → is_of t r ≡ true → filter (is_of t) rows ≡ r ∷ []
      → is_taken (filter (λ r. not (is_of t r)) rows) (renewed r s) ≡ false → AreRenewed rows pieces (put_row (renewed r s) (filter (λ r. not (is_of t r)) rows))
  one_new rows pieces are apart r h mine only free =
      let rest = filter (λ r. not (is_of t r)) rows in
      let left = all_from IsReleaseRow rest (λ x k. all_has IsReleaseRow rows x are.are_releases (has_filtered (λ r. not (is_of t r)) rows x k).0) in
      let news = all-put_row IsReleaseRow (renewed r s) rest (is_row r h) left in
      record {
        are_releases = news;
        ids = put_distinct (renewed r s) rest free (distinct_some (λ r. not (is_of t r)) rows are.ids);
        content = λ d.
            let f = λ (x : Row). each n (with_state s) (record_in pieces x) in
            let hit : f r ≡ with_state s (record_in pieces r) = rw (sym (named_is n r named h) ∙ mine) refl in
            let front : map (record_in pieces) (renewed r s ∷ rest) ≡ map f (r ∷ rest) =
            ap (λ y. y ∷ map (record_in pieces) rest) (record_is pieces r h ∙ sym hit) ∙ ap (λ l. f r ∷ l) (sym (others_same pieces rest left (rest_out rows))) in
            let split : IsPermutation rows (r ∷ rest) = subst (λ l. IsPermutation rows (l ++ rest)) only (IsPermutation-filter_both (is_of t) (λ r. not (is_of t r)) (λ _. refl) rows) in
            let one = IsPermutation-map (record_in pieces) (put_row (renewed r s) rest) (renewed r s ∷ rest) (IsPermutation-sym _ _ (put_moved (renewed r s) rest free)) in
            let two : IsPermutation (map f (r ∷ rest)) (map f rows) = IsPermutation-map f (r ∷ rest) rows (IsPermutation-sym _ _ split) in
            let moved = IsPermutation-trans _ _ _ one (subst (λ l. IsPermutation l (map f rows)) (sym front) two) in
            records_sort (map (record_in pieces) (put_row (renewed r s) rest))
            ∙ sort_moved same_text record_stops record_laws _ (map f rows) moved (distinct_records pieces (put_row (renewed r s) rest) news d)
            ∙ sym (records_sort (map f rows))
            ∙ ap sorted (sym (map-map (each n (with_state s)) (record_in pieces) rows))
            ∙ each_content n (with_state s) (λ r. refl) (map (record_in pieces) rows) (distinct_records pieces rows are.are_releases apart);
      }

-- what the statement's answer is, where one row has the text, and where none has
answer_one : (shows : Row → Row) (rows : List Row) (xs : List Row) (r : Row) → xs ≡ r ∷ [] → IsPermutation (map shows xs) rows → rows ≡ shows r ∷ []
answer_one shows rows xs r only moved = one_permutation (shows r) rows (subst (λ l. IsPermutation (map shows l) rows) only moved)

answer_none : (shows : Row → Row) (rows : List Row) (xs : List Row) → xs ≡ [] → IsPermutation (map shows xs) rows → rows ≡ []
answer_none shows rows xs none moved = empty rows (length_permutation [] rows (subst (λ l. IsPermutation (map shows l) rows) none moved))
  where
    empty : (ys : List Row) → length ys ≡ 0 → ys ≡ []
    empty [] e = refl
    empty (y ∷ ys) e = absurd (omega arith)

-- the rows that the statement leaves
renewed_rows : (n : Name) (s : State) (named : IsName (text_of n) n) (old new : Database) → AreRows (old.trees 1) (old.trees 3) → IsDistinct same_texts (old.trees 1)
    → Sets (text_of n) (pos (number_of s)) old new
    → AreRenewed n s named (old.trees 1) (old.trees 3) (new.trees 1)
renewed_rows n s named old new are apart it = by (single t rows apart)
  where
    t : List ℕ
    t = text_of n

    rows : List Row
    rows = old.trees 1

    show : Row → Row
    show row = eval_all with_new_state.project ((Text (text_of n) ∷ Int (pos (number_of s)) ∷ []) ∷ row ∷ [])

    picked : IsPermutation (map show (filter (is_of t) rows)) it.rows
    picked = subst (λ l. IsPermutation (map show l) it.rows)
        (same_filter (passes with_new_state.filter (Text (text_of n) ∷ Int (pos (number_of s)) ∷ [])) (is_of t) rows
        (all_from _ rows (λ r h. picks_is t (pos (number_of s)) r (all_has IsReleaseRow rows r are.are_releases h))))
        (answered 1 with_new_state.filter with_new_state.project [] (Text (text_of n) ∷ Int (pos (number_of s)) ∷ []) old.trees it.rows refl it.picked)

    by : (filter (is_of t) rows ≡ []) ⊎ ((r : Row) × (filter (is_of t) rows ≡ r ∷ [])) → AreRenewed n s named (old.trees 1) (old.trees 3) (new.trees 1)
    by (inl none) =
        let nothing = answer_none show it.rows (filter (is_of t) rows) none picked in
        let same : new.trees 1 ≡ rows = it.releases ∙ ap (λ l. edited old.trees (edit_of old.trees release (ids_of l) Given 1 l)) nothing in
        subst (λ l. AreRenewed n s named rows (old.trees 3) l) (sym same) (none_new n s named rows (old.trees 3) are apart none)
    by (inr (r, only)) =
        let just = answer_one show it.rows (filter (is_of t) rows) r only picked in
        let here : Has rows r × (is_of t r ≡ true) = has_filtered (is_of t) rows r (subst (λ l. Has l r) (sym only) (inl refl)) in
        let h = all_has IsReleaseRow rows r are.are_releases here.0 in
        let ids : IsPermutation (map (λ x. id_in (rowid x)) (filter (is_of t) rows)) (id_in (rowid r) ∷ []) =
        subst (λ l. IsPermutation (map (λ x. id_in (rowid x)) l) (id_in (rowid r) ∷ [])) (sym only) (IsPermutation-refl (id_in (rowid r) ∷ [])) in
        let left = left_rows (is_of t) rows (id_in (rowid r) ∷ []) (texted_releases rows (old.trees 3) are).keyed are.ids ids in
        let same : new.trees 1 ≡ put_row (renewed r s) (filter (λ x. not (is_of t x)) rows) =
        it.releases ∙ ap (λ l. edited old.trees (edit_of old.trees release (ids_of l) Given 1 l)) just
        ∙ ap (λ x. put_row x (without_all rows (id_in (rowid r) ∷ []))) (written n s named r h) ∙ ap (put_row (renewed r s)) left in
        let fresh : are_fresh (filter (λ x. not (is_of t x)) rows) (renewed r s ∷ []) ≡ true =
        subst (λ l. are_fresh l (renewed r s ∷ []) ≡ true) left
        (subst (λ x. are_fresh (without_all rows (id_in (rowid r) ∷ [])) (x ∷ []) ≡ true) (written n s named r h)
        (subst (λ l. are_fresh (left_by old.trees (edit_of old.trees release (ids_of l) Given 1 l)) (edit_of old.trees release (ids_of l) Given 1 l).news ≡ true) just it.fresh)) in
        subst (λ l. AreRenewed n s named rows (old.trees 3) l) (sym same)
        (one_new n s named rows (old.trees 3) are apart r h here.1 only (free_from (filter (λ x. not (is_of t x)) rows) (renewed r s) fresh))

module _ (n : Name) (s : State) (named : IsName (text_of n) n) (old new : Database) (ours : IsLayout2 old)
    (it : Sets (text_of n) (pos (number_of s)) old new) (are : HoldsRecords old) where
  apart : IsDistinct same_texts (old.trees 1)
  apart = distinct_texts old (tables_of old ours.schema ours.obeyed) (texted_releases _ _ are.rows)

  news : AreRenewed n s named (old.trees 1) (old.trees 3) (new.trees 1)
  news = renewed_rows n s named old new are.rows apart it

  rows : HoldsReleases new
  rows = rw it.pieces (record { are_releases = news.are_releases; are_pieces = are.rows.are_pieces; ids = news.ids; piece_ids = are.rows.piece_ids })

  listed : HoldsRecords new
  listed = record { rows = rows; reasons = subst AreReasons (sym it.reasons) are.reasons }

  content : stored_content new ≡ changed n (with_state s) (stored_content old)
  content =
      let texts = distinct_texts new (tables_of new it.keeps.schema it.keeps.sound) (texted_releases _ _ rows) in
      let bare : content_without_reasons new ≡ changed n (with_state s) (content_without_reasons old) = rw it.pieces (news.content texts) in
      rw (it.reasons, bare) (explained_changed (old.trees 5) n (with_state s) (λ r. refl) (λ r. refl) (content_without_reasons old))

pub sets_state : (n : Name) (s : State) (old new : Database) → IsName (text_of n) n → IsLayout2 old → Sets (text_of n) (pos (number_of s)) old new
    → IsChanged (changed n (with_state s)) old new
sets_state n s old new named ours it = record {
  ours = still_ours old new ours it.keeps;
  listed = listed n s named old new ours it;
  content = content n s named old new ours it;
}
