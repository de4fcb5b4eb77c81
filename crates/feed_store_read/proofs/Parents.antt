-- Each part has a release.
use Rattle.std.proofs.Common.{◌≡◌, ◌≢◌, ◌&&◌, ◌||◌, ℕ, Bool, true, false, List, [], ◌∷◌, map, All, Some, refl, sym, ap, subst, ◌∙◌, arith, suc}
use Rattle.std.specs.List.{AllByRecursion, list_any}
use Rattle.std.specs.Cmp.Lexicographic.{bytes_decides}
use Rattle.std.proofs.lemmas.List.Sorted.{IsPermutation-sym}
use Rattle.sqlite_value.specs.Order.{Row}
use Rattle.sqlite_value.specs.Keys.{plain}
use Rattle.sqlite_trees.proofs.ListLemmas.{all-permutation}
use Rattle.sqlite_schema.specs.declared.schema.Constraint.TheVariants.{ForeignKey}
use Rattle.sqlite_schema.specs.Rules.{agree, has_null, is_held, parent_key, passes}
use Rattle.sqlite_rules.specs.Lists.{Has}
use Rattle.sqlite_rules.proofs.ListLemmas.{all_has, some_has}
use Rattle.sqlite.specs.Effect.{Database, IsDatabase}
use Rattle.feed_names.specs.ReleaseName.{text_of}
use Rattle.feed_model.specs.Content.{names}
use Rattle.feed_keep.specs.declared.record.Record as code
use Rattle.feed_keep.specs.Shown.{shown}
use Rattle.sqlite.specs.Table.{Table}
use Rattle.sqlite_schema.specs.declared.schema.Index.{Index}
use Rattle.sqlite_tied.specs.Compute.{everything}
use Rattle.feed_store_model.specs.Layout.{schema_with, owner, piece}
use Rattle.feed_store_model.specs.Tables.{HasTables, HoldsReleases, IsPieceRow, IsReleaseRow, name_in, record_in, text_in}
use Rattle.feed_store_model.proofs.Contents.{piece_texted, release_text, release_texted}
use Rattle.feed_store_model.proofs.Gone.{IsTexted, equal_texts}
use Rattle.feed_store_read.specs.declared.releases.Releases.{Releases}
use Rattle.feed_store_read.specs.Releases.{AreReleases}

and_true : (b : Bool) → (b && true) ≡ true → b ≡ true
and_true true h = refl
and_true false h = absurd (let g : false ≡ true = h in cc)

-- a part names the first column of a release, whatever tables are behind
key_with : (more : List Table) (keys : List Index) → parent_key (schema_with more keys).tables owner ≡ Some (1, 1 ∷ [], plain)
unfolding everything
key_with more keys = refl

held_by : (more : List Table) (keys : List Index) (db : Database) (row : Row) → IsTexted row → passes ForeignKey (schema_with more keys) db.trees piece row ≡ true
    → list_any (λ parent. agree plain (1 ∷ []) parent (1 ∷ []) row) (db.trees 1) ≡ true
held_by more keys db row texted h =
    let one : (has_null (1 ∷ []) row || is_held db.trees (1 ∷ []) row (parent_key (schema_with more keys).tables owner)) ≡ true = and_true _ h in
    rw (texted, key_with more keys) at one

-- a release has the text of the part
parent_of : (db : Database) (row : Row) → HasTables db → HoldsReleases db → Has (db.trees 3) row → (parent : Row) × Has (db.trees 1) parent × (text_in parent ≡ text_in row)
parent_of db row has are here =
    let s = schema_with has.more has.keys in
    let is : IsDatabase (record { schema = s; trees = db.trees }) = subst (λ s. IsDatabase (record { schema = s; trees = db.trees })) has.schema has.obeyed in
    let texted : IsTexted row = piece_texted row (all_has IsPieceRow (db.trees 3) row are.are_pieces here) in
    let rule = all_has (λ r. passes ForeignKey s db.trees piece r ≡ true) (db.trees 3) row (is.obeys.rules ForeignKey).1.1.0 here in
    let it = some_has (λ parent. agree plain (1 ∷ []) parent (1 ∷ []) row) (db.trees 1) (held_by has.more has.keys db row texted rule) in
    let named : IsTexted it.0 = release_texted it.0 (all_has IsReleaseRow (db.trees 1) it.0 are.are_releases it.1) in
    (it.0, it.1, (bytes_decides (text_in it.0) (text_in row)).0 (sym (equal_texts it.0 row named texted) ∙ it.2))

pub none_named : (text : List ℕ) (rs : List code.Record) → All (λ r. text_of r.name ≢ text) rs → AllByRecursion (λ n. text_of n ≢ text) (names (shown rs))
none_named text [] all = tt
none_named text (r ∷ rs) all = (all 0 r (omega arith), none_named text rs (λ k d lt. all (suc k) d (omega arith)))

none_in_rows : (text : List ℕ) (rows : List Row) → AllByRecursion (λ n. text_of n ≢ text) (names (map (record_in []) rows)) → AllByRecursion (λ row. text_of (name_in row) ≢ text) rows
none_in_rows text [] all = tt
none_in_rows text (r ∷ rows) all = (all.0, none_in_rows text rows all.1)

-- no part is of a name that no release has
pub no_orphan : (db : Database) (found : Releases) (rs : List code.Record) (row : Row) → HasTables db → HoldsReleases db → AreReleases db found
    → names (shown rs) ≡ names (shown found.records.items) → Has (db.trees 3) row → ¬ (All (λ r. text_of r.name ≢ text_in row) rs)
no_orphan db found rs row ours are releases same here none =
    let parent = parent_of db row ours are here in
    let text = text_in row in
    let all : AllByRecursion (λ n. text_of n ≢ text) (names (map (record_in []) releases.rows)) =
    subst (AllByRecursion (λ n. text_of n ≢ text)) (same ∙ ap names releases.show.shows) (none_named text rs none) in
    let rows = all-permutation (λ r. text_of (name_in r) ≢ text) releases.rows (db.trees 1) (IsPermutation-sym _ _ releases.moved) (none_in_rows text releases.rows all) in
    let apart = all_has (λ r. text_of (name_in r) ≢ text) (db.trees 1) parent.0 rows parent.1 in
    apart (sym (release_text parent.0 (all_has IsReleaseRow (db.trees 1) parent.0 are.are_releases parent.1)) ∙ parent.2)
