-- Rows that are read one by one.
use Rattle.std.proofs.Common.{◌≡◌, ◌≤◌, ◌⊎◌, inl, inr, ℕ, List, [], ◌∷◌, ◌++◌, false, None, Some, IsSome, Ok, Err, Option, Result, IsTrue, IfErr, IfOk, OnErr, OnOk, refl, sym, ap, subst, ◌∙◌, arith}
use Rattle.std.specs.Borrow.{Bor, GName}
use Rattle.sqlite_value.specs.Order.{Row}
use Rattle.sqlite_schema.specs.declared.command.Returning.{Returning}
use Rattle.sqlite_schema.specs.declared.command.Command.{Command}
use Rattle.sqlite_schema.specs.declared.command.Command.TheVariants.{Select}
use Rattle.sqlite_schema.specs.declared.program.Program.{Program}
use Rattle.sqlite_trees.specs.View.{doubt}
use Rattle.sqlite_trees.specs.declared.store.Store as store
use Rattle.sqlite.specs.declared.error.Error.{Error}
use Rattle.sqlite.specs.Clock.{timed}
use Rattle.sqlite.specs.Effect.{Database}
use Rattle.sqlite.specs.Listing.{understood}
use Rattle.sqlite_resolve.specs.declared.compiled.Compiled.{Compiled}
use Rattle.sqlite_resolve.specs.declared.error.CompileError.{CompileError}
use Rattle.sqlite_resolve.specs.Compile.{first}
use Rattle.sqlite.specs.Given.{HasGiven, HasBegun, IsRefused, Returns}
use Rattle.sqlite.specs.Held.{Held, state}
use Rattle.sqlite.specs.State.{State, HasCleanDisk, IsUnchanged, IsRolledBack, Fails, FailsToQuery, FailsToShow, IsNotRun, Shown, ShowsRows}
use Rattle.sqlite.specs.Next.{HasMoved}
use Rattle.sqlite.specs.declared.rows.Row.{Row as OneRow}
use Rattle.sqlite.specs.declared.rows.stream.Rows.{Rows}
use Rattle.sqlite.proofs.Callers.{EndsIn, begins_shown, command_of, given_begin, unchanged_then}
use Rattle.sqlite.specs.Schema.{Schema}
use Rattle.feed_store_model.specs.Live.{IsLive}
use Rattle.feed_store_model.proofs.ReadOnly.{IsRead, ShowsNone, read_shows_none}
use Rattle.feed_store_read.specs.Releases.{WritesNothing}

-- a query returned rows that are known to be so, and nothing was changed
pub record HasRead {S : Type 0} (g : store.Ghosts S) (sql : List ℕ) (Known : List Row → Type 0) (old now : Held S) : Type 0 where
  pub rows : List Row
  pub given : HasGiven g sql [] now rows
  pub same : IsUnchanged (state g old) (state g now)
  pub known : Known rows

-- nothing is changed, or what was not committed is undone
abbrev pub LeavesAlone : State → State → Type 0
LeavesAlone old new = IsUnchanged old new ⊎ IsRolledBack old new

pub was_open : (old new : State) → LeavesAlone old new → IsTrue new.is_open → IsTrue old.is_open
was_open old new (inl same) is = same.0.was_open
was_open old new (inr undone) is = undone.was_open is

not_shown : (sql : List ℕ) (old new : State) (e : Error) (c : _) (params : Row) (o : Option Returning) → FailsToShow old new sql c params e o → LeavesAlone old new
not_shown sql old new e c params None h = inl h.3
not_shown sql old new e c params (Some what) (inl refused) = inl refused.1
not_shown sql old new e c params (Some what) (inr fails) = inr fails.3

-- a query that fails leaves the database alone
pub failed_leaves : (sql : List ℕ) (old new : State) (e : Error) → FailsToQuery sql [] old new e → LeavesAlone old new
unfolding FailsToQuery IsNotRun
failed_leaves sql old new e (inl (inl none)) = inl none.1
failed_leaves sql old new e (inl (inr fails)) = inr fails.3
failed_leaves sql old new e (inr it) = not_shown sql old new e it.0 (timed [] it.0.formats it.1.now) it.0.returning it.2

shown_open : (sql : List ℕ) (old new : State) (c : _) (params : Row) (rows : List Row) (o : Option Returning) → ShowsRows old new sql c params rows o → IsTrue old.is_open
shown_open sql old new c params rows None h = h.3.0.was_open
shown_open sql old new c params rows (Some what) h = h.1.shown.was_open

-- a connection on which a query begins was open
pub begun_open : {S : Type 0} (g : store.Ghosts S) (sql : List ℕ) (old new : Held S) → HasBegun g sql [] old new → IsTrue (state g old).is_open
unfolding Shown
begun_open g sql old new (inl h) = h.1.0.was_open
begun_open g sql old new (inr h) = shown_open sql (state g old) (state g new) h.1.0 (timed [] h.1.0.formats h.1.1.now) _ h.1.0.returning h.1.2

-- the rows that were given begin a whole answer
pub whole_given : {S : Type 0} (g : store.Ghosts S) (sql : List ℕ) (now : Held S) (rows : List Row) (p : Program) (names : List (List ℕ)) (schema : Schema) → now.schema ≡ schema
    → p.lets ≡ [] → command_of (understood schema sql) ≡ Select p names → IsTrue (state g now).is_open → HasGiven g sql [] now rows
    → (tail : List Row) × Shown sql [] (state g now) (state g now) (rows ++ tail)
whole_given g sql now rows p names schema has none is open_now given =
    let s = state g now in
    let same : IsUnchanged s s =
    (record { was_open = open_now; is_open = open_now; now_is = refl; committed_is = refl; mode = refl }, record { changes = refl; last_rowid = refl }, refl) in
    begins_shown sql [] s s rows (given_begin g sql [] now rows given) same (λ c db it source.
    let plain : c.command ≡ Select p names = ap command_of (sym it.is ∙ ap (λ k. understood k sql) has) ∙ is in
    subst (λ (k : Command). EndsIn k db (timed [] c.formats it.now)) (sym plain) (ends p names db (timed [] c.formats it.now) none))
  where
    ends : (p : Program) (names : List (List ℕ)) (db : Database) (params : Row) → p.lets ≡ [] → EndsIn (Select p names) db params
    ends p names db params none = rw none tt

-- a query that does not begin leaves the database alone
pub refused_leaves : {S X : Type 0} (g : store.Ghosts S) (sql : List ℕ) (old new : Held S) (r : Result X Error) (e : Error) → r ≡ Err e → OnErr r (IsRefused g sql [] old r new)
    → WritesNothing (state g old) (state g new)
refused_leaves {X = X} g sql old new r e is held =
    let it : IsRefused g sql [] old r new = subst (λ x. OnErr x (IsRefused g sql [] old r new)) is held in
    let left : HasCleanDisk (state g new) → LeavesAlone (state g old) (state g new) =
    λ clean. failed_leaves sql (state g old) (state g new) e (subst (λ (x : Result X Error). IfErr x (FailsToQuery sql [] (state g old) (state g new))) is (it.err clean)) in
    record {
      idle = it.mode;
      live = λ live. (omega (arith, it.survives.clean, live.0), was_open (state g old) (state g new) (left live.0) live.1);
      kept = λ live. left live.0;
      limit = it.survives.limit;
    }

-- a query that only reads has given nothing yet as it begins, and changes nothing
pub begun_same : {S : Type 0} (g : store.Ghosts S) (sql : List ℕ) (old new : Held S) → IfOk (first sql) IsRead → HasBegun g sql [] old new
    → HasGiven g sql [] new [] × IsUnchanged (state g old) (state g new)
begun_same g sql old new read (inl h) = h
begun_same g sql old new read (inr h) = absurd (never_both (understood old.schema sql) (read_shows_none sql read old.schema) h.0)
  where
    never_both : (r : Result Compiled CompileError) → IfOk r ShowsNone → Returns r → ⊥
    never_both (Ok c) none some = absurd (let e : IsSome {T = Returning} None = subst IsSome none.0 some in cc)
    never_both (Err e) none some = some

-- the effect so far of a query that returns its rows one by one, as it was begun and as it is now
pub record IsUnderWay {S : Type 0} (g : store.Ghosts S) (sql : List ℕ) (Known : List Row → Type 0) (old : Held S) (begun now : Rows S g) : Type 0 where
  pub lent : now.conn.ghost_name ≡ begun.conn.ghost_name
  pub idle : old.in_transaction ≡ false → now.conn.now.in_transaction ≡ false
  pub live : IsLive (state g now.conn.now) → IsLive (state g old)
  pub limit : (state g now.conn.now).step_limit ≡ (state g old).step_limit
  pub read : HasCleanDisk (state g now.conn.now) → HasRead g sql Known old now.conn.now

-- a row was returned, after those that are known to be so
pub record HasRow {S : Type 0} (g : store.Ghosts S) (sql : List ℕ) (Known : List Row → Type 0) (old now : Held S) (row : Row) : Type 0 where
  pub front : List Row
  pub given : HasGiven g sql [] now (front ++ row ∷ [])
  pub same : IsUnchanged (state g old) (state g now)
  pub known : Known front

-- all rows were given, and this is known of them
pub record HasAll {S : Type 0} (g : store.Ghosts S) (sql : List ℕ) (Known : List Row → Type 0) (old mid now : Held S) : Type 0 where
  pub rows : List Row
  pub whole : Shown sql [] (state g mid) (state g now) rows
  pub early : IsUnchanged (state g old) (state g mid)
  pub same : IsUnchanged (state g old) (state g now)
  pub known : Known rows

-- a query that only reads has begun
pub begun_way : {S : Type 0} (g : store.Ghosts S) (sql : List ℕ) (Known : List Row → Type 0) (old : Held S) (rows : Rows S g) → IfOk (first sql) IsRead
    → (HasCleanDisk (state g rows.conn.now) → HasBegun g sql [] old rows.conn.now) → (old.in_transaction ≡ false → rows.conn.now.in_transaction ≡ false)
    → doubt (state g old).is_clean ≤ doubt (state g rows.conn.now).is_clean → (state g rows.conn.now).step_limit ≡ (state g old).step_limit → Known []
    → IsUnderWay g sql Known old rows rows
begun_way g sql Known old rows read begins idle falls limit known = record {
  lent = refl;
  idle = idle;
  live = λ live. (omega (arith, falls, live.0), begun_open g sql old rows.conn.now (begins live.0));
  limit = limit;
  read = λ clean. let it = begun_same g sql old rows.conn.now read (begins clean) in record { rows = []; given = it.0; same = it.1; known = known };
}

then_undone : (a b c : State) → IsUnchanged a b → IsRolledBack b c → IsRolledBack a c
then_undone a b c same back = record {
  was_open = λ is_open. same.0.was_open;
  undone = λ is_open. ((back.undone is_open).0 ∙ same.0.committed_is, (back.undone is_open).1 ∙ same.0.committed_is);
  autocommit = back.autocommit;
  unmarked = back.unmarked;
  counts = record { changes = back.counts.changes ∙ same.1.changes; last_rowid = back.counts.last_rowid ∙ same.1.last_rowid };
}

stays : (a b : State) (r : Result (Option (Bor OneRow)) Error) → OnOk r (IsUnchanged a b) → IfErr r (λ e. Fails a b ⊥ e ⊎ IsUnchanged a b) → LeavesAlone a b
stays a b (Ok row) same kept = inl same
stays a b (Err e) same (inl fails) = inr fails.3
stays a b (Err e) same (inr still) = inl still

-- a connection that was lent is what the rows left, once they are dropped
lent_back : {X N : Type 0} {begun mid last : N} {name : N} {left new : X} (end : (x : X) × (name ≡ last → x ≡ new)) → new ≡ left → last ≡ mid → mid ≡ begun → begun ≡ name → left ≡ end.0
lent_back end dropped three two one = sym (end.1 (sym (three ∙ two ∙ one)) ∙ dropped)

-- one more call of `next`, whatever it returned
module _ {S : Type 0} {g : store.Ghosts S} {sql : List ℕ} {Known : List Row → Type 0} {old : Held S} {begun a b : Rows S g}
    {result : Result (Option (Bor OneRow)) Error} (way : IsUnderWay g sql Known old begun a) (moved : HasMoved g a result b) where
  before : HasCleanDisk (state g b.conn.now) → HasCleanDisk (state g a.conn.now)
  before clean = omega (arith, moved.survives.clean)

  left : HasCleanDisk (state g b.conn.now) → LeavesAlone (state g a.conn.now) (state g b.conn.now)
  left clean = stays (state g a.conn.now) (state g b.conn.now) result (moved.same clean) (moved.kept clean)

  next_idle : old.in_transaction ≡ false → b.conn.now.in_transaction ≡ false
  next_idle idle = moved.mode (way.idle idle)

  next_live : IsLive (state g b.conn.now) → IsLive (state g old)
  next_live live = way.live (before live.0, was_open (state g a.conn.now) (state g b.conn.now) (left live.0) live.1)

  kept : HasCleanDisk (state g a.conn.now) → LeavesAlone (state g a.conn.now) (state g b.conn.now) → LeavesAlone (state g old) (state g b.conn.now)
  kept clean (inl same) = inl (unchanged_then (state g old) (state g a.conn.now) (state g b.conn.now) (way.read clean).same same)
  kept clean (inr undone) = inr (then_undone (state g old) (state g a.conn.now) (state g b.conn.now) (way.read clean).same undone)

  next_leaves : WritesNothing (state g old) (state g b.conn.now)
  next_leaves = record {
    idle = next_idle;
    live = next_live;
    kept = λ live. kept (before live.0) (left live.0);
    limit = moved.survives.limit ∙ way.limit;
  }

  -- it returned a row
  next_row : (row : Bor OneRow) → result ≡ Ok (Some row) → HasCleanDisk (state g b.conn.now) → HasRow g sql Known old b.conn.now row.now
  next_row row is clean =
      let read = way.read (before clean) in
      let step : IsUnchanged (state g a.conn.now) (state g b.conn.now) = rw is at (moved.same clean) in record {
        front = read.rows;
        given = (rw is at (moved.ok clean)) sql [] read.rows read.given;
        same = unchanged_then (state g old) (state g a.conn.now) (state g b.conn.now) read.same step;
        known = read.known;
      }

  pub next_way : (More : List Row → Type 0) (row : Bor OneRow) → result ≡ Ok (Some row) → ((rows : List Row) → Known rows → More (rows ++ row.now ∷ []))
      → IsUnderWay g sql More old begun b
  next_way More row is more = record {
    lent = moved.same_reference ∙ way.lent;
    idle = next_idle;
    live = next_live;
    limit = moved.survives.limit ∙ way.limit;
    read = λ clean. let it = next_row row is clean in
        record { rows = it.front ++ row.now ∷ []; given = it.given; same = it.same; known = more it.front it.known };
  }

  -- it returned no row
  next_all : result ≡ Ok None → HasCleanDisk (state g b.conn.now) → HasAll g sql Known old a.conn.now b.conn.now
  next_all is clean =
      let read = way.read (before clean) in
      let step : IsUnchanged (state g a.conn.now) (state g b.conn.now) = rw is at (moved.same clean) in record {
        rows = read.rows;
        whole = (rw is at (moved.ok clean)) sql [] read.rows read.given;
        early = read.same;
        same = unchanged_then (state g old) (state g a.conn.now) (state g b.conn.now) read.same step;
        known = read.known;
      }

  -- the rows were dropped after the call, and the connection is its owner's again
  module _ {name : GName} {new : Held S} (taken : begun.conn.ghost_name ≡ name) (end : (x : Held S) × (name ≡ b.conn.ghost_name → x ≡ new)) (dropped : new ≡ b.conn.now) where
    back : b.conn.now ≡ end.0
    back = lent_back end dropped moved.same_reference way.lent taken

    here : HasCleanDisk (state g end.0) → HasCleanDisk (state g b.conn.now)
    here clean = subst (λ h. HasCleanDisk (state g h)) (sym back) clean

    unchanged : IsUnchanged (state g old) (state g b.conn.now) → IsUnchanged (state g old) (state g end.0)
    unchanged same = subst (λ h. IsUnchanged (state g old) (state g h)) back same

    pub ended_leaves : WritesNothing (state g old) (state g end.0)
    ended_leaves = subst (λ h. WritesNothing (state g old) (state g h)) back next_leaves

    pub ended_row : (row : Bor OneRow) → result ≡ Ok (Some row) → IsLive (state g end.0) → HasRow g sql Known old b.conn.now row.now × IsUnchanged (state g old) (state g end.0)
    ended_row row is live = let it = next_row row is (here live.0) in (it, unchanged it.same)

    pub ended_all : {P : Type 0} → result ≡ Ok None → IsLive (state g end.0) → (HasAll g sql Known old a.conn.now b.conn.now → P) → IsUnchanged (state g old) (state g end.0) × P
    ended_all is live then = let it = next_all is (here live.0) in (unchanged it.same, then it)

-- the rows were dropped before the last one
pub way_leaves : {S : Type 0} {g : store.Ghosts S} {sql : List ℕ} {Known : List Row → Type 0} {old : Held S} {begun now : Rows S g} {name : GName} {new : Held S}
    → IsUnderWay g sql Known old begun now → begun.conn.ghost_name ≡ name → (end : (x : Held S) × (name ≡ now.conn.ghost_name → x ≡ new)) → new ≡ now.conn.now
    → WritesNothing (state g old) (state g end.0)
way_leaves {g = g} {old = old} way taken end dropped =
    subst (λ h. WritesNothing (state g old) (state g h)) (lent_back end dropped refl way.lent taken)
    (record { idle = way.idle; live = way.live; kept = λ live. inl (way.read live.0).same; limit = way.limit })
