-- The effects of the statements that create a table.
use Rattle.std.proofs.Common.{◌≡◌, ◌∷◌, List, ℕ, [], map, Ok, None, false, refl, sym, ap, subst, ◌∙◌}
use Rattle.sqlite.specs.Compile.{table_defined_by}
use Rattle.sqlite_tied.specs.Compute.{everything}
use Rattle.sqlite.specs.Listing.{understood}
use Rattle.sqlite.specs.Command.TheVariants.{CreateTable}
use Rattle.sqlite.specs.Schema.{Schema}
use Rattle.sqlite.specs.Tree.{put_row, rowid}
use Rattle.sqlite.specs.Change.{created, next_tree, KeepsRows}
use Rattle.sqlite.specs.Does.{Tally, lacks_sequence}
use Rattle.sqlite.specs.Effect.{Database, IsDatabase}
use Rattle.sqlite.specs.State.{State, Writes, Executes}
use Rattle.sqlite.proofs.Callers.{IsPlain, command_of, statement_of, runs_as}
use Rattle.feed_store_model.specs.Layout.{no_schema, layout_1_schema, layout_2_schema, layout, release}
use Rattle.feed_store_write.specs.Texts.{layout_text, release_text, piece_text, reason_text}
use Rattle.feed_store_write.specs.Schemas.{table_in, with_text, first_schema, second_schema, HasNoTable, HasLayoutTable, HasReleaseTable, HasPieceTable, HasAllTables}
use Rattle.feed_store_write.specs.Effects.{IsExtension, IsBlank}
use Rattle.feed_store_model.specs.Tables.{version_row}
use Rattle.feed_store_model.proofs.Basics.{one_zero, three_zero, five_zero}
use Rattle.feed_store_model.proofs.Inserted.{Puts}
use Rattle.feed_store_model.proofs.Ours.{empty_content, empty_listed}
use Rattle.feed_store_write.proofs.Runs.{went, same_value}

-- a text that makes a table under this schema
pub record IsMadeOnOk (schema : Schema) (text : List ℕ) : Type 0 where
  pub command : command_of (understood schema text) ≡ CreateTable
  pub whole : statement_of text (understood schema text) ≡ text
  pub plain : IsPlain (understood schema text)
  pub uncounted : lacks_sequence (with_text schema text) ≡ false

-- what a text that makes a table leaves
pub record Creates (schema : Schema) (text : List ℕ) (old new : Database) : Type 0 where
  pub schema_is : new.schema ≡ with_text schema text
  pub sound : IsDatabase new
  pub empty : new.trees (next_tree schema) ≡ []
  pub others : KeepsRows schema.tables old.trees new.trees

pub creates : (text : List ℕ) (schema : Schema) (m : IsMadeOnOk schema text) (old new : State) (count : ℕ) → old.now.schema ≡ schema → Executes text [] old new (Ok count)
    → Creates schema text old.now new.now
creates text schema m old new count has h =
    let w = subst (λ t. Writes old new None CreateTable t [] count) m.whole (runs_as text [] old new schema has CreateTable m.command m.plain count h) in
    let all = went w.changed in
    let first = went all.1 in
    let made = first.1 in
    let same : table_in (table_defined_by text) ≡ made.table = ap table_in made.defined in
    let is : first.0.schema ≡ with_text schema text = made.is ∙ ap (λ s. created s made.table) has ∙ ap (created schema) (sym same) in
    let plain : lacks_sequence first.0.schema ≡ false = ap lacks_sequence is ∙ m.uncounted in
    let now : new.now ≡ first.0 = ap (λ (p : Tally × Database). p.1) (same_value all.2) ∙ same_value (rw plain at first.2) in
    record {
      schema_is = ap (λ (d : Database). d.schema) now ∙ is;
      sound = w.sound;
      empty = ap (λ (d : Database). d.trees (next_tree schema)) now ∙ subst (λ s. first.0.trees (next_tree s) ≡ []) has made.empty;
      others = subst (λ (d : Database). KeepsRows schema.tables old.now.trees d.trees) (sym now) (subst (λ s. KeepsRows s.tables old.now.trees first.0.trees) has made.others);
    }

makes_layout : IsMadeOnOk no_schema layout_text
unfolding understood everything
makes_layout = record { command = refl; whole = refl; plain = (refl, refl); uncounted = refl }

makes_release : IsMadeOnOk first_schema release_text
unfolding understood everything
makes_release = record { command = refl; whole = refl; plain = (refl, refl); uncounted = refl }

makes_piece : IsMadeOnOk second_schema piece_text
unfolding understood everything
makes_piece = record { command = refl; whole = refl; plain = (refl, refl); uncounted = refl }

third_is : with_text second_schema piece_text ≡ layout_1_schema
unfolding understood everything
third_is = refl

makes_reason : IsMadeOnOk layout_1_schema reason_text
unfolding understood everything
makes_reason = record { command = refl; whole = refl; plain = (refl, refl); uncounted = refl }

fourth_is : with_text layout_1_schema reason_text ≡ layout_2_schema
unfolding understood everything
fourth_is = refl

next_of_earlier : next_tree layout_1_schema ≡ 5
unfolding understood everything
next_of_earlier = refl

next_trees : (next_tree no_schema ≡ 0) × (next_tree first_schema ≡ 1) × (next_tree second_schema ≡ 3)
unfolding understood everything
next_trees = (refl, refl, refl)

first_tables : first_schema.tables ≡ layout ∷ []
unfolding understood everything
first_tables = refl

second_tables : second_schema.tables ≡ layout ∷ release ∷ []
unfolding understood everything
second_tables = refl

pub creates_layout : (old new : State) (count : ℕ) → HasNoTable old.now → Executes layout_text [] old new (Ok count) → HasLayoutTable new.now
creates_layout old new count has h =
    let it = creates layout_text no_schema makes_layout old new count has.schema_is h in
    record { schema_is = it.schema_is; empty = (subst (λ n. new.now.trees n ≡ []) next_trees.0 it.empty, tt) }

pub creates_release : (old new : State) (count : ℕ) → HasLayoutTable old.now → Executes release_text [] old new (Ok count)
    → HasReleaseTable new.now
creates_release old new count has h =
    let it = creates release_text first_schema makes_release old new count has.schema_is h in
    let kept = subst (λ ts. KeepsRows ts old.now.trees new.now.trees) first_tables it.others in
    record { schema_is = it.schema_is; empty = (kept.0 ∙ has.empty.0, (subst (λ n. new.now.trees n ≡ []) next_trees.1 it.empty, tt)) }

pub creates_piece : (old new : State) (count : ℕ) → HasReleaseTable old.now → Executes piece_text [] old new (Ok count)
    → HasPieceTable new.now
creates_piece old new count has h =
    let it = creates piece_text second_schema makes_piece old new count has.schema_is h in
    let kept = subst (λ ts. KeepsRows ts old.now.trees new.now.trees) second_tables it.others in
    record {
      schema_is = it.schema_is ∙ third_is;
      empty = (kept.0 ∙ has.empty.0, (kept.1.0 ∙ has.empty.1.0, (subst (λ n. new.now.trees n ≡ []) next_trees.2 it.empty, tt)));
    }

-- the table of the reasons is made behind those of layout 1
pub creates_reason : (old new : State) (count : ℕ) → Executes reason_text [] old new (Ok count) → IsExtension old.now new.now
creates_reason old new count h has =
    let it = creates reason_text layout_1_schema makes_reason old new count has h in record {
      schema = it.schema_is ∙ fourth_is;
      obeyed = it.sound;
      layout = it.others.0;
      releases = it.others.1.0;
      pieces = it.others.1.1.0;
      reasons = subst (λ n. new.now.trees n ≡ []) next_of_earlier it.empty;
    }

pub all_tables : (old new : Database) → IsExtension old new → HasPieceTable old → HasAllTables new
all_tables old new extends has =
    let it = extends has.schema_is in
    record { schema_is = it.schema; empty = (it.layout ∙ has.empty.0, (it.releases ∙ has.empty.1.0, (it.pieces ∙ has.empty.1.1.0, (it.reasons, tt)))) }

-- the layout's number makes of empty tables those of a keeper of nothing
pub numbered : (old new : Database) → HasAllTables old → Puts layout (version_row 2) old new → IsBlank new
numbered old new has it =
    let one : new.trees 1 ≡ [] = it.others.1.0 one_zero ∙ has.empty.1.0 in
    let three : new.trees 3 ≡ [] = it.others.1.1.0 three_zero ∙ has.empty.1.1.0 in
    let five : new.trees 5 ≡ [] = it.others.1.1.1.0 five_zero ∙ has.empty.1.1.1.0 in record {
      ours = record { schema = it.schema; obeyed = it.sound; version = ap (map rowid) (it.rows ∙ ap (put_row (version_row 2)) has.empty.0) };
      listed = empty_listed new one three five;
      content = empty_content new one;
    }
