-- The effects of the statements that insert a row.
use Rattle.std.proofs.Common.{◌≡◌, Bool, MatchBool, Option, Result, ℕ, pos, List, [], ◌∷◌, true, false, None, Some, Ok, slice_get}
use Rattle.std.proofs.Common.{length, ◌/◌, if◌then◌else◌, refl, sym, ap, subst, ◌∙◌}
use Rattle.sqlite_value.specs.declared.value.Value.TheVariants.{Null, Int}
use Rattle.sqlite_value.specs.Order.{Row}
use Rattle.sqlite_schema.specs.declared.schema.Keys.TheVariants.{Enforced}
use Rattle.sqlite_rules.specs.Edit.{are_fresh, taken_by, put_all}
use Rattle.sqlite_rules.specs.Action.{Writes, works}
use Rattle.sqlite.specs.Term.{Term, lit, col}
use Rattle.sqlite.specs.Table.{Table}
use Rattle.sqlite.specs.Source.TheVariants.{Values}
use Rattle.sqlite.specs.Command.{Command}
use Rattle.sqlite.specs.Command.TheVariants.{Insert}
use Rattle.sqlite.specs.Edit.{edit_of}
use Rattle.sqlite.specs.Rowids.TheVariants.{Above, Chosen}
use Rattle.sqlite.specs.Does.{Tally, Does}
use Rattle.sqlite.specs.Rows.{Written, count_of, stamped}
use Rattle.sqlite.specs.Tree.{Trees}
use Rattle.sqlite_tied.specs.Compute.{everything}
use Rattle.sqlite.specs.declared.error.Error.{Error}
use Rattle.sqlite.specs.Listing.{understood}
use Rattle.sqlite.specs.Effect.{Database, value_rows}
use Rattle.sqlite.specs.State.{State, mode_of, Executes}
use Rattle.sqlite.proofs.Callers.{IsPlain, command_of, statement_of, runs_as, one_step}
use Rattle.feed_names.specs.ReleaseName.{Name, text_of}
use Rattle.feed_model.specs.Content.{Part}
use Rattle.feed_model.specs.declared.state.State as model
use Rattle.feed_store_model.specs.Layout.{layout_2_schema, layout, release, piece, reason}
use Rattle.feed_store_model.specs.Tables.{number_of, version_row}
use Rattle.feed_store_model.proofs.AddedPart.{part_row}
use Rattle.feed_store_model.proofs.AddedReason.{said_row}
use Rattle.feed_store_model.proofs.AddedRelease.{new_row}
use Rattle.feed_store_model.proofs.Inserted.{Puts, cast_null, cast_int, free_from}
use Rattle.feed_store_write.specs.Statements.{part_params, reason_params, release_params}
use Rattle.feed_store_write.specs.Texts.{insert_release_text, insert_piece_text, insert_reason_text, insert_version_text}
use Rattle.feed_store_write.proofs.Runs.{went, same_value}

-- the row that the sources of an insertion make
abbrev new_rows : Trees → Table → List Row → List Row
new_rows db table sources = (edit_of db table [] Chosen 0 sources).news

-- the terms of an insertion give these rows
abbrev rows_of : Table → Row → List Term → ℕ → List Row
rows_of table params terms width = value_rows (stamped table params) width (length terms / width) terms

-- a table without AUTOINCREMENT counts nothing
uncounted_left : (counts more : Bool) (Counts : Type 0) (next mid : Trees) → counts ≡ false
    → MatchBool (if counts then more else false) Counts (◌≡◌ {A = Result Trees (Option Error)} (Ok next) (Ok mid)) → next ≡ mid
uncounted_left false more Counts next mid is left = same_value left
uncounted_left true more Counts next mid is left = absurd (let e = is in cc)

-- what an insertion of one row makes, in one of our tables
module _ (text : List ℕ) (params : Row) (old new : State) (count at : ℕ) (table : Table) (terms : List Term) (width : ℕ) (row : Row)
    (there : slice_get layout_2_schema.tables at ≡ Some table) (uncounted : table.is_counted ≡ false)
    (is : command_of (understood layout_2_schema text) ≡ Insert at (Values terms width)) (plain : IsPlain (understood layout_2_schema text))
    (has : old.now.schema ≡ layout_2_schema) (h : Executes text params old new (Ok count)) where
  abbrev command : Command
  command = Insert at (Values terms width)

  pub puts : new_rows old.now.trees table (rows_of table params terms width) ≡ row ∷ []
      → works layout_2_schema Enforced 0 table.tree
      (taken_by old.now.trees (edit_of old.now.trees table [] Chosen 0 (rows_of table params terms width)))
      (new_rows old.now.trees table (rows_of table params terms width)) ≡ []
      → Puts table row old.now new.now
  puts news none =
      let w = runs_as text params old new layout_2_schema has command is plain count h in
      let does = subst (λ s. Does old.step_limit (mode_of old) params (record old.now { schema = s }) (statement_of text (understood layout_2_schema text)) None command
      (Ok (w.tally, new.now))) has w.changed in
      let done = went (rw there at does) in
      let now = ap (λ (p : Tally × Database). p.1) (same_value (went (went done.2).2).2) in
      let given = went done.1 in
      let written = went (went given.2).2 in
      let counted = went written.2 in
      let left : counted.0 ≡ written.0 = uncounted_left table.is_counted _ _ counted.0 written.0 uncounted counted.1 in
      let trees : done.0.trees ≡ written.0 = ap (λ (it : Written). it.trees) (same_value counted.2) ∙ left in
      let all : new.now.trees ≡ written.0 = ap (λ (d : Database). d.trees) now ∙ trees in
      let edit = edit_of old.now.trees table [] Chosen 0 (rows_of table params terms width) in
      let writes : Writes layout_2_schema Enforced old.now.trees edit (Ok new.now.trees) =
      subst (λ t. Writes layout_2_schema Enforced old.now.trees edit (Ok t)) (sym all)
      (subst (λ sources. Writes layout_2_schema Enforced old.now.trees (edit_of old.now.trees table [] Chosen 0 sources) (Ok written.0)) given.1.1
      (subst (λ b. Writes layout_2_schema Enforced old.now.trees (edit_of old.now.trees table [] (if b then Above (count_of (went given.2).0) else Chosen) 0 given.0)
      (Ok written.0)) uncounted written.1)) in
      let step = one_step layout_2_schema Enforced old.now.trees new.now.trees edit none writes in
      let rows = old.now.trees table.tree in record {
        schema = ap (λ (d : Database). d.schema) now;
        sound = w.sound;
        free = free_from rows row (subst (λ l. are_fresh rows l ≡ true) news step.fresh);
        rows = step.rows ∙ ap (put_all rows) news;
        others = step.tables;
      }

abbrev release_terms : List Term
release_terms = lit Null ∷ col 0 0 ∷ col 0 1 ∷ col 0 2 ∷ col 0 3 ∷ col 0 4 ∷ []

abbrev piece_terms : List Term
piece_terms = lit Null ∷ col 0 0 ∷ col 0 1 ∷ col 0 2 ∷ []

release_is : command_of (understood layout_2_schema insert_release_text) ≡ Insert 1 (Values release_terms 6)
unfolding understood everything
release_is = refl

release_plain : IsPlain (understood layout_2_schema insert_release_text)
unfolding understood everything
release_plain = (refl, refl)

piece_is : command_of (understood layout_2_schema insert_piece_text) ≡ Insert 2 (Values piece_terms 4)
unfolding understood everything
piece_is = refl

piece_plain : IsPlain (understood layout_2_schema insert_piece_text)
unfolding understood everything
piece_plain = (refl, refl)

abbrev reason_terms : List Term
reason_terms = lit Null ∷ col 0 0 ∷ col 0 1 ∷ col 0 2 ∷ []

reason_is : command_of (understood layout_2_schema insert_reason_text) ≡ Insert 3 (Values reason_terms 4)
unfolding understood everything
reason_is = refl

reason_plain : IsPlain (understood layout_2_schema insert_reason_text)
unfolding understood everything
reason_plain = (refl, refl)

version_is : command_of (understood layout_2_schema insert_version_text) ≡ Insert 0 (Values (lit (Int (pos 2)) ∷ lit Null ∷ []) 2)
unfolding understood everything
version_is = refl

version_plain : IsPlain (understood layout_2_schema insert_version_text)
unfolding understood everything
version_plain = (refl, refl)

pub puts_release : (n : Name) (size : ℕ) (s : model.State) (old new : State) (count : ℕ) → old.now.schema ≡ layout_2_schema
    → Executes insert_release_text (release_params n size s) old new (Ok count) → Puts release (new_row n size s old.now) old.now new.now
puts_release n size s old new count has h =
    puts insert_release_text (release_params n size s) old new count 1 release release_terms 6 (new_row n size s old.now) refl refl release_is release_plain has h
    (rw (cast_null, cast_int n.day, cast_int (pos size), cast_int (pos (number_of s)))) refl

pub puts_piece : (n : Name) (p : Part) (old new : State) (count : ℕ) → old.now.schema ≡ layout_2_schema
    → Executes insert_piece_text (part_params n p) old new (Ok count) → Puts piece (part_row n p old.now) old.now new.now
puts_piece n p old new count has h =
    puts insert_piece_text (part_params n p) old new count 2 piece piece_terms 4 (part_row n p old.now) refl refl piece_is piece_plain has h
    (rw (cast_null, cast_int (pos p.first))) refl

pub puts_version : (old new : State) (count : ℕ) → old.now.schema ≡ layout_2_schema → Executes insert_version_text [] old new (Ok count)
    → Puts layout (version_row 2) old.now new.now
puts_version old new count has h =
    puts insert_version_text [] old new count 0 layout (lit (Int (pos 2)) ∷ lit Null ∷ []) 2 (version_row 2) refl refl version_is version_plain has h (rw (cast_int (pos 2), cast_null)) refl

pub puts_reason : (n : Name) (number place : ℕ) (old new : State) (count : ℕ) → old.now.schema ≡ layout_2_schema
    → Executes insert_reason_text (reason_params n number place) old new (Ok count) → Puts reason (said_row n number place old.now) old.now new.now
puts_reason n number place old new count has h =
    puts insert_reason_text (reason_params n number place) old new count 3 reason reason_terms 4 (said_row n number place old.now) refl refl reason_is reason_plain has h
    (rw (cast_null, cast_int (pos number), cast_int (pos place))) refl
