-- The selection of the reasons shows its table.
use Rattle.std.proofs.Common.{◌≡◌, ◌≢◌, ◌++◌, ℕ, ℤ, Bool, if◌then◌else◌, true, false, List, [], ◌∷◌, map, codes, All, IfOk, IsPermutation, refl, sym, ap, subst, ◌∙◌}
use Rattle.std.specs.List.{AllByRecursion}
use Rattle.std.specs.Cmp.Lexicographic.{bytes_decides}
use Rattle.sqlite_value.specs.declared.value.Value.TheVariants.{Null}
use Rattle.sqlite_value.specs.Order.{Row}
use Rattle.sqlite_tied.specs.Compute.{everything}
use Rattle.sqlite_sql.specs.Query.{IsAnswer}
use Rattle.sqlite_sql.specs.Program.{overlay}
use Rattle.sqlite_sql.specs.Term.{eval_all}
use Rattle.sqlite_trees.specs.declared.store.Store as store
use Rattle.sqlite_schema.specs.declared.schema.Constraint.TheVariants.{ForeignKey}
use Rattle.sqlite_schema.specs.Rules.{agree, passes}
use Rattle.sqlite_value.specs.Keys.{plain}
use Rattle.sqlite_rules.specs.Lists.{Has}
use Rattle.sqlite_rules.proofs.ListLemmas.{all_has, some_has}
use Rattle.sqlite_schema.specs.declared.command.Command.TheVariants.{Select}
use Rattle.sqlite_resolve.specs.Compile.{first}
use Rattle.sqlite.specs.Listing.{understood, reads_listing}
use Rattle.sqlite.specs.Effect.{Database, IsDatabase}
use Rattle.sqlite.specs.Given.{HasGiven}
use Rattle.sqlite.specs.Held.{Held, state}
use Rattle.sqlite.specs.State.{State, IsUnchanged, Shown}
use Rattle.sqlite.proofs.Callers.{IsPlain, command_of, reads_as}
use Rattle.feed_names.specs.ReleaseName.{Name, text_of}
use Rattle.feed_model.specs.Content.{Content, Record, names}
use Rattle.feed_model.specs.Change.{comes_before, insert_record}
use Rattle.feed_keep.specs.declared.record.Record as code
use Rattle.feed_keep.specs.Shown.{shown}
use Rattle.feed_store_model.specs.Layout.{layout_2_schema, reason}
use Rattle.feed_store_model.specs.Tables.{HoldsRecords, IsLayout2, IsReleaseRow, content_without_reasons, name_in, record_in, sorted, text_in}
use Rattle.feed_store_model.proofs.AddedRelease.{owned_reason}
use Rattle.feed_store_model.proofs.Contents.{release_text, release_texted, texted_reasons}
use Rattle.feed_store_model.proofs.Gone.{IsTexted, equal_texts}
use Rattle.feed_store_read.proofs.Parents.{none_named}
use Rattle.feed_store_model.proofs.ReadOnly.{IsRead}
use Rattle.feed_store_model.proofs.Rows.{table_query, answered}
use Rattle.feed_store_read.specs.Texts.{reasons_text}
use Rattle.feed_store_read.specs.Reasons.{AreReasonsOf, ShowReasons}
use Rattle.feed_store_read.proofs.Answers.{all_kept, all_same, by_name, four, piece_terms}
use Rattle.feed_store_read.proofs.Selected.{has_middle, has_moved}
use Rattle.feed_store_read.proofs.Streams.{whole_given}
use Rattle.feed_store_read.proofs.Widths.{reason_widths}

-- the selection changes no row, whatever tables there are
pub reasons_read : IfOk (first reasons_text) IsRead
unfolding everything
reasons_read = λ schema. (refl, λ base. refl)

reasons_plain : IsPlain (understood layout_2_schema reasons_text)
unfolding understood everything
reasons_plain = (refl, refl)

abbrev pub reason_heads : List (List ℕ)
reason_heads = codes "rowid" ∷ codes "name" ∷ codes "reason" ∷ codes "label" ∷ []

pub reasons_select : (command_of (understood layout_2_schema reasons_text) ≡ Select (record { lets = []; body = table_query 5 [] piece_terms by_name }) reason_heads)
    × (reads_listing layout_2_schema reasons_text ≡ false)
unfolding understood everything
reasons_select = (refl, refl)

pub reasons_shown : (old new : State) (rows : List Row) → IsLayout2 old.now → Shown reasons_text [] old new rows → IsPermutation (old.now.trees 5) rows
reasons_shown old new rows ours h =
    let got = reads_as reasons_text [] old new layout_2_schema ours.schema _ reasons_select.0 reasons_plain reasons_select.1 rows h in
    let a : IsAnswer (table_query 5 [] piece_terms by_name) (overlay old.now.trees []) [] rows = got.answer Null in
    let moved = answered 5 [] piece_terms by_name [] old.now.trees rows refl a in
    let show : Row → Row = λ r. eval_all piece_terms ([] ∷ r ∷ []) in
    subst (λ l. IsPermutation l rows) (ap (map show) (all_kept (old.now.trees 5)) ∙ all_same show 4 four (old.now.trees 5) (reason_widths old.now ours)) moved

pub are_reasons : (old mid new : State) (rows : List Row) (ids : List ℤ) (start now : Content) → IsLayout2 old.now → IsUnchanged old mid → Shown reasons_text [] mid new rows
    → ShowReasons rows ids start now → AreReasonsOf old.now ids start now
are_reasons old mid new rows ids start now ours same h show =
    let is : mid.now ≡ old.now = same.0.now_is in
    let mine : IsLayout2 mid.now = subst IsLayout2 (sym is) ours in record {
      rows = rows;
      moved = subst (λ (db : Database). IsPermutation (db.trees 5) rows) is (reasons_shown mid new rows mine h);
      show = show;
    }

-- each row that is given is one of the table
pub given_reason : {S : Type 0} (g : store.Ghosts S) (old now : Held S) (rows : List Row) (row : Row) → IsLayout2 (state g old).now → IsUnchanged (state g old) (state g now)
    → HasGiven g reasons_text [] now (rows ++ row ∷ []) → Has ((state g old).now.trees 5) row
given_reason g old now rows row ours same given =
    let is : (state g now).now ≡ (state g old).now = same.0.now_is in
    let mine : IsLayout2 (state g now).now = subst IsLayout2 (sym is) ours in
    let whole = whole_given g reasons_text now (rows ++ row ∷ []) _ _ layout_2_schema mine.schema refl reasons_select.0 same.0.is_open given in
    let all = (rows ++ row ∷ []) ++ whole.0 in
    let moved = reasons_shown (state g now) (state g now) all mine whole.1 in
    subst (λ (db : Database). Has (db.trees 5) row) is (has_moved all ((state g now).now.trees 5) row moved (has_middle rows row whole.0))

-- ---- each reason has a record

all_uninsert : (P : Record → Type 0) (r : Record) (c : Content) → AllByRecursion P (insert_record r c) → P r × AllByRecursion P c
all_uninsert P r [] all = (all.0, tt)
all_uninsert P r (x ∷ xs) all = by (comes_before x.name r.name) all (all_uninsert P r xs)
  where
    by : (b : Bool) → AllByRecursion P (if b then x ∷ insert_record r xs else r ∷ x ∷ xs) → (AllByRecursion P (insert_record r xs) → P r × AllByRecursion P xs)
        → P r × AllByRecursion P (x ∷ xs)
    by true all more = let it = more all.1 in (it.0, (all.0, it.1))
    by false all more = (all.0, all.1)

all_unsorted : (P : Record → Type 0) (rs : List Record) → AllByRecursion P (sorted rs) → AllByRecursion P rs
all_unsorted P [] all = tt
all_unsorted P (r ∷ rs) all = let it = all_uninsert P r (sorted rs) all in (it.0, all_unsorted P rs it.1)

all_unnamed : (Q : Name → Type 0) (c : Content) → AllByRecursion Q (names c) → AllByRecursion (λ r. Q r.name) c
all_unnamed Q [] all = tt
all_unnamed Q (r ∷ rs) all = (all.0, all_unnamed Q rs all.1)

all_unmapped : (Q : Name → Type 0) (pieces rows : List Row) → AllByRecursion (λ r. Q r.name) (map (record_in pieces) rows) → AllByRecursion (λ row. Q (name_in row)) rows
all_unmapped Q pieces [] all = tt
all_unmapped Q pieces (r ∷ rows) all = (all.0, all_unmapped Q pieces rows all.1)

-- no reason is of a name that no record has
pub no_lone_reason : (db : Database) (rs : List code.Record) (row : Row) → IsLayout2 db → HoldsRecords db → names (shown rs) ≡ names (content_without_reasons db)
    → Has (db.trees 5) row → ¬ (All (λ r. text_of r.name ≢ text_in row) rs)
no_lone_reason db rs row ours are same here none =
    let text = text_in row in
    let away : Name → Type 0 = λ n. text_of n ≢ text in
    let is : IsDatabase (record { schema = layout_2_schema; trees = db.trees }) = subst (λ s. IsDatabase (record { schema = s; trees = db.trees })) ours.schema ours.obeyed in
    let texted : IsTexted row = all_has IsTexted (db.trees 5) row (texted_reasons _ are.reasons).texted here in
    let rule = all_has (λ r. passes ForeignKey layout_2_schema db.trees reason r ≡ true) (db.trees 5) row (is.obeys.rules ForeignKey).1.1.1.0 here in
    let parent = some_has (λ p. agree plain (1 ∷ []) p (1 ∷ []) row) (db.trees 1) (owned_reason db.trees row texted rule) in
    let release = all_has IsReleaseRow (db.trees 1) parent.0 are.rows.are_releases parent.1 in
    let named : text_in parent.0 ≡ text = (bytes_decides (text_in parent.0) text).0 (sym (equal_texts parent.0 row (release_texted parent.0 release) texted) ∙ parent.2) in
    let all : AllByRecursion (λ row. text_of (name_in row) ≢ text) (db.trees 1) = all_unmapped away (db.trees 3) (db.trees 1)
    (all_unsorted (λ r. text_of r.name ≢ text) _ (all_unnamed away (content_without_reasons db) (subst (AllByRecursion away) same (none_named text rs none)))) in
    all_has (λ row. text_of (name_in row) ≢ text) (db.trees 1) parent.0 all parent.1 (sym (release_text parent.0 release) ∙ named)
