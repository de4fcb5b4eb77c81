-- Parts of a statement's run.
use Rattle.std.proofs.Common.{◌≡◌, ◌⊎◌, inl, inr, List, None, Ok, Err, Result, ap, subst, sym, ◌∙◌}
use Rattle.sqlite_rules.specs.Action.{Writes}
use Rattle.sqlite_rules.specs.Edit.{Edit}
use Rattle.sqlite_schema.specs.declared.program.Program.{Program}
use Rattle.sqlite_value.specs.Order.{Row}
use Rattle.sqlite.specs.declared.run.Mode.{Mode}
use Rattle.sqlite.specs.Does.{Tally, Concludes}
use Rattle.sqlite.specs.Effect.{Database}
use Rattle.sqlite.specs.Rows.{Edited, Part, Queried, Task, Then, Gives, Written}
use Rattle.sqlite.specs.State.{State, mode_of}
use Rattle.sqlite.specs.Table.{Table}
use Rattle.sqlite.specs.Tree.{Trees}
use Rattle.feed_store_model.specs.Layout.{layout_2_schema}

pub same_value : {B E : Type 0} {a b : B} → ◌≡◌ {A = Result B E} (Ok a) (Ok b) → a ≡ b
same_value e = cc

-- a part that gave a value did not stop on the way
pub went : {B E R : Type 0} {b : B} {Stops : E → Type 0} → ((stop : E) × Stops stop × (Ok b ≡ Err stop)) ⊎ R → R
went (inl stopped) = absurd (let e = stopped.2 in cc)
went (inr on) = on

-- what a statement on a table of layout 2 reads
abbrev pub task_of : State → Table → Row → Task
task_of s table params = record { limit = s.step_limit; keys = (mode_of s).keys; schema = layout_2_schema; table = table; params = params }

-- the rows that its query picks
abbrev pub picked : State → Program → Row → Part (List Row)
picked s q params = Queried s.step_limit (record { schema = layout_2_schema; trees = s.now.trees }) q params

-- a statement that edits the rows which its query picked has written that edit
pub edited_rows : (task : Task) (mode : Mode) (Picks : Part (List Row)) (edit : List Row → Edit) (shown : List Row → List Row) (db : Trees) (tally : Tally) (after : Database)
    → Then (Then Picks (λ rows. Then (Edited task.schema task.keys db (edit rows)) (λ next. Gives (record { trees = next; rows = shown rows; last = None })))) (Concludes task mode None)
    (Ok (tally, after))
    → (after.schema ≡ task.schema) × (rows : List Row) × Picks (Ok rows) × Writes task.schema task.keys db (edit rows) (Ok after.trees)
edited_rows task mode Picks edit shown db tally after h =
    let done = went h in
    let now = ap (λ (p : Tally × Database). p.1) (same_value (went (went done.2).2).2) in
    let given = went done.1 in
    let written = went given.2 in
    let all : after.trees ≡ written.0 = ap (λ (d : Database). d.trees) now ∙ ap (λ (it : Written). it.trees) (same_value written.2) in
    (ap (λ (d : Database). d.schema) now, given.0, given.1, subst (λ (t : Trees). Writes task.schema task.keys db (edit given.0) (Ok t)) (sym all) written.1)
