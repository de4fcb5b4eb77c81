-- Texts that show no rows of changes and do not read the time, whatever the schema is.
use Rattle.std.proofs.Common.{◌≡◌, ℕ, List, [], Bool, true, false, None, Ok, Err, IfOk, if◌then◌else◌, refl}
use Rattle.sqlite_schema.specs.declared.command.Command.{Command}
use Rattle.sqlite_schema.specs.declared.schema.Schema.{Schema}
use Rattle.sqlite_syntax.specs.declared.statement.Parsed.{Parsed}
use Rattle.sqlite_resolve.specs.declared.compiled.Compiled.{Compiled}
use Rattle.sqlite_resolve.specs.Lowering.{Checked, and_then}
use Rattle.sqlite_resolve.specs.declared.error.CompileError.TheVariants.{NoSuchTable}
use Rattle.sqlite_resolve.specs.Scope.{Name}
use Rattle.sqlite_resolve.specs.Compile.{compiled, first, meaning, planned, returning, timed, with_command}
use Rattle.sqlite.specs.Listing.{understood, reads_listing, if_select, is_select, listing_schema}

-- a text that changes no row has no rows of changes to show; this one does not read the time
abbrev pub ShowsNone : Compiled → Type 0
ShowsNone c = (c.returning ≡ None) × (c.formats ≡ [])

-- as it is written, whatever the schema is
abbrev pub IsRead : Parsed → Type 0
IsRead p = (schema : Schema) → (timed schema p.formats p.statement ≡ []) × ((base : ℕ) → returning schema base p.statement ≡ Ok None)

with_any_command : (p : Parsed) (formats : List Name) → formats ≡ [] → (r : Checked Command)
    → IfOk (and_then (and_then (and_then r (λ c. Ok (c, None))) (λ found. Ok (formats, found))) (λ plan. Ok (with_command p plan))) ShowsNone
with_any_command p formats none (Ok c) = (refl, none)
with_any_command p formats none (Err e) = tt

planned_shows_none : (schema : Schema) (p : Parsed) → IsRead p → IfOk (and_then (planned schema p) (λ plan. Ok (with_command p plan))) ShowsNone
unfolding planned meaning
planned_shows_none schema p read = rw ((read schema).1 _) (with_any_command p _ (read schema).0 _)

first_shows_none : (schema : Schema) (f : Checked Parsed) → IfOk f IsRead → IfOk (and_then f (λ p. and_then (planned schema p) (λ plan. Ok (with_command p plan)))) ShowsNone
first_shows_none schema (Ok p) read = planned_shows_none schema p read
first_shows_none schema (Err e) read = tt

compiled_shows_none : (text : List ℕ) → IfOk (first text) IsRead → (schema : Schema) → IfOk (compiled schema text) ShowsNone
unfolding compiled
compiled_shows_none text read schema = first_shows_none schema (first text) read

either : (b : Bool) (r s : Checked Compiled) → IfOk r ShowsNone → IfOk s ShowsNone → IfOk (if b then r else s) ShowsNone
either true r s one other = one
either false r s one other = other

select_shows_none : (r : Checked Compiled) → IfOk r ShowsNone → IfOk (if_select r) ShowsNone
select_shows_none (Ok c) h = either (is_select c.command) (Ok c) (Err NoSuchTable) h tt
select_shows_none (Err e) h = tt

pub read_shows_none : (text : List ℕ) → IfOk (first text) IsRead → (schema : Schema) → IfOk (understood schema text) ShowsNone
unfolding understood
read_shows_none text read schema = either (reads_listing schema text) (if_select (compiled listing_schema text)) (compiled schema text)
    (select_shows_none (compiled listing_schema text) (compiled_shows_none text read listing_schema)) (compiled_shows_none text read schema)
