-- The steps of the reading of a holdings file.
use Rattle.std.proofs.Common.{◌≡◌, ℕ, suc, ◌+◌, ◌-◌, ◌*◌, ◌<◌, ◌≤◌, Bool, true, false, ◌==◌, if◌then◌else◌, List, [], ◌∷◌, ◌++◌, None, filter, length}
use Rattle.std.proofs.Common.{refl, sym, ap, subst, ◌∙◌, arith, sum_by}
use Rattle.std.specs.Global.{Vec}
use Rattle.std.proofs.lemmas.List.{drop_all, length-map, length_push, nil_from_length}
use Rattle.std.proofs.lemmas.List.Elements.{All-head, All-push, All-tail}
use Rattle.std.proofs.lemmas.List.Sums.{sum_by-append, sum_by-cons, sum_by_push}
use Rattle.node_site.specs.declared.entry.Entry.{Entry}
use Rattle.node_site.specs.declared.merge.Merge.{Merge}
use Rattle.node_site.specs.declared.holdings_fault.HoldingsFault.{HoldingsFault}
use Rattle.node_site.specs.declared.holdings_fault.HoldingsFault.TheVariants.{TooLong, NotUtf8, Line, Memory}
use Rattle.node_site.specs.HoldingsEntries.{AreEntries, AreInOrder, IsInOrder, IsMerge, entries_at, entry_at, left_over, merge_weight, runs_weight}
use Rattle.node_site.specs.HoldingsFaults.{IsHoldingsFault, first_fault}
use Rattle.node_site.specs.HoldingsFiles.{begins_row, row_places, starts_from}
use Rattle.node_site.specs.HoldingsIndex.{AreOnBelow, IsFirstFault, IsHeaded, IsPeacefulBelow, places_behind}
use Rattle.node_site.specs.declared.holdings_reading.Phase.{Phase}
use Rattle.node_site.specs.declared.holdings_reading.Phase.TheVariants as phase
use Rattle.node_site.specs.HoldingsReadings.{AreCompared, AreMerging, AreRows, AreRuns, IsNext, IsRead, IsRunOf, steps_left}
use Rattle.node_site.specs.Indexes.{place_at}
use Rattle.node_site.specs.declared.places.Places.{Places}
use Rattle.node_site.proofs.HoldingsRead.{indexed, rows_fault_is}
use Rattle.node_site.proofs.OnListed.{all_on, none_on}

-- a run has the rows of its portion
pub run_is : (text : List ℕ) (start to : ℕ) (none rows : List Entry) (run : Vec Entry) → none ≡ []
    → none ++ entries_at text (places_behind text start) ≡ rows ++ entries_at text (places_behind text to)
    → ((weight : Entry → ℕ) → sum_by weight run.items ≡ sum_by weight rows) → IsInOrder text run.items
    → first_fault text (places_behind text start) ≡ first_fault text (places_behind text to) → IsRunOf text start to run
run_is text start to none rows run empty all same up fine = record {
  sorted = up;
  same = λ weight.
      let split : sum_by weight (entries_at text (places_behind text start)) ≡ sum_by weight (rows ++ entries_at text (places_behind text to)) =
      ap (λ (front : List Entry). sum_by weight (front ++ entries_at text (places_behind text start))) (sym empty) ∙ ap (sum_by weight) all in
      omega (arith, split, sum_by-append weight rows (entries_at text (places_behind text to)), same weight);
  fine = fine;
}

none_behind : (text : List ℕ) (place : ℕ) → place ≡ length text → places_behind text place ≡ []
none_behind text place end =
    let nothing = drop_all place text (omega (arith, end)) in
    ap (λ (bytes : List ℕ). filter (begins_row text) (starts_from place bytes)) nothing

-- at the end of the text all rows are in runs
pub all_in_runs : (text : List ℕ) (place : ℕ) (runs : List (Vec Entry)) → AreRows text place runs → place ≡ length text → AreRuns text runs
all_in_runs text place runs rows end =
    let none = none_behind text place end in record {
      sorted = rows.sorted;
      same = λ weight. omega (arith, rows.same weight, ap (λ (places : List ℕ). sum_by weight (entries_at text places)) none);
      fine = rows.fine ∙ ap (first_fault text) none;
    }

-- a run behind those before it
pub more_rows : (text : List ℕ) (place to : ℕ) (runs : List (Vec Entry)) (run : Vec Entry) → to ≤ length text → AreRows text place runs → IsRunOf text place to run
    → AreRows text to (runs ++ run ∷ [])
more_rows text place to runs run within rows is = record {
  within = within;
  sorted = All-push (λ (run : Vec Entry). IsInOrder text run.items) runs run rows.sorted is.sorted;
  same = λ weight. omega (arith, rows.same weight, is.same weight, sum_by_push (λ (run : Vec Entry). sum_by weight run.items) runs run);
  fine = rows.fine ∙ is.fine;
}

pub no_rows_yet : (text : List ℕ) (runs : List (Vec Entry)) → runs ≡ [] → AreRows text 0 runs
no_rows_yet text runs none = record {
  within = omega arith;
  sorted = λ k d below. absurd (omega (arith, below, ap length none));
  same = λ weight. omega (arith, ap (runs_weight weight) none);
  fine = refl;
}

-- a fault of the rows behind a place is one of the file, if none before it has one
pub fault_behind : (text : List ℕ) (place : ℕ) (runs : List (Vec Entry)) (fault : HoldingsFault) → IsHeaded text → AreRows text place runs
    → IsFirstFault text (places_behind text place) fault → IsHoldingsFault text fault
fault_behind text place runs fault head rows h = rows_fault_is text fault head (by_case fault h)
  where
    by_case : (fault : HoldingsFault) → IsFirstFault text (places_behind text place) fault → IsFirstFault text (row_places text) fault
    by_case TooLong h = h
    by_case NotUtf8 h = h
    by_case (Line bad) h = rows.fine ∙ h
    by_case Memory h = h

ones : (entries : List Entry) → sum_by (λ e. 1) entries ≡ length entries
ones [] = refl
ones (e ∷ entries) = omega (arith, sum_by-cons (λ (e : Entry). 1) e entries, ones entries)

few_starts : (place : ℕ) (bytes : List ℕ) → length (starts_from place bytes) ≤ length bytes
few_starts place [] = omega arith
few_starts place (b ∷ bytes) = by_case (b == 10) (few_starts (place + 1) bytes)
  where
    by_case : (feed : Bool) → length (starts_from (place + 1) bytes) ≤ length bytes
        → length (if feed then (place + 1) ∷ starts_from (place + 1) bytes else starts_from (place + 1) bytes) ≤ suc (length bytes)
    by_case true rest = omega (arith, rest)
    by_case false rest = omega (arith, rest)

few_pass : (test : ℕ → Bool) (places : List ℕ) → length (filter test places) ≤ length places
few_pass test [] = omega arith
few_pass test (place ∷ places) = by_case (test place) (few_pass test places)
  where
    by_case : (passes : Bool) → length (filter test places) ≤ length places
        → length (if passes then place ∷ filter test places else filter test places) ≤ suc (length places)
    by_case true rest = omega (arith, rest)
    by_case false rest = omega (arith, rest)

-- a file has fewer rows than a run counts for
few_rows : (text : List ℕ) → IsHeaded text → sum_by (λ e. 1) (entries_at text (row_places text)) ≤ 16777216
few_rows text head =
    omega (
      arith,
      ones (entries_at text (row_places text)),
      length-map (row_places text) (entry_at text),
      few_pass (begins_row text) (starts_from 0 text),
      few_starts 0 text,
      head.fits,
    )

-- a run that is taken from the end of fewer than two is the only one
pub only_one : (runs rest : List (Vec Entry)) (run : Vec Entry) → length runs < 2 → runs ≡ rest ++ run ∷ [] → runs ≡ run ∷ []
only_one runs rest run few is =
    is ∙ ap (λ (front : List (Vec Entry)). front ++ run ∷ []) (nil_from_length rest (omega (arith, few, ap length is, length_push rest run)))

-- the only run has all entries
same_run : (text : List ℕ) (runs : List (Vec Entry)) (run : Vec Entry) → AreRuns text runs → runs ≡ run ∷ [] → AreEntries text run.items
same_run text runs run are is = λ weight.
    omega (arith, are.same weight, ap (runs_weight weight) is, sum_by-cons (λ (run : Vec Entry). sum_by weight run.items) run [])

pub only_run : (text : List ℕ) (runs : List (Vec Entry)) (run : Vec Entry) → AreRuns text runs → runs ≡ run ∷ [] → (on : Places) → ((id : List ℕ) → place_at id on ≡ None)
    → AreCompared text run.items 0 on
only_run text runs run are is on none = record {
  within = omega arith;
  sorted = All-head (λ (run : Vec Entry). IsInOrder text run.items) run [] (subst (AreInOrder text) is are.sorted);
  same = same_run text runs run are is;
  peaceful = λ k d high. absurd (omega (arith, high));
  packages = none_on text run.items on none;
  fine = are.fine;
}

pub no_run : (text : List ℕ) (runs : List (Vec Entry)) (entries : List Entry) → AreRuns text runs → runs ≡ [] → entries ≡ []
    → (on : Places) → ((id : List ℕ) → place_at id on ≡ None) → AreCompared text entries 0 on
no_run text runs entries are none empty on nothing = record {
  within = omega arith;
  sorted = λ k d low high. absurd (omega (arith, high, ap length empty));
  same = λ weight. omega (arith, are.same weight, ap (runs_weight weight) none, ap (sum_by weight) empty);
  peaceful = λ k d high. absurd (omega (arith, high));
  packages = none_on text entries on nothing;
  fine = are.fine;
}

-- the entries of the only run are compared in fewer steps than a run counts for
pub few_left : (text : List ℕ) (runs : List (Vec Entry)) (run : Vec Entry) → IsHeaded text → AreRuns text runs → runs ≡ run ∷ []
    → 1 + (length run.items - 0) < 33554432 * length runs + 2
few_left text runs run head are is = omega (arith, few_rows text head, same_run text runs run are is (λ e. 1), ones run.items, ap length is)

-- the first two of some runs
pub first_two : (runs rest : List (Vec Entry)) (left right : Vec Entry) (text : List ℕ) → AreRuns text runs → runs ≡ left ∷ right ∷ rest
    → IsInOrder text left.items × IsInOrder text right.items × AreInOrder text rest
first_two runs rest left right text are is =
    let up : AreInOrder text (left ∷ right ∷ rest) = subst (AreInOrder text) is are.sorted in
    let order = λ (run : Vec Entry). IsInOrder text run.items in
    let tail = All-tail order left (right ∷ rest) up in
    (All-head order left (right ∷ rest) up, All-head order right rest tail, All-tail order right rest tail)

two_weigh : (runs rest : List (Vec Entry)) (left right : Vec Entry) (weight : Entry → ℕ) → runs ≡ left ∷ right ∷ rest
    → runs_weight weight runs ≡ sum_by weight left.items + sum_by weight right.items + runs_weight weight rest
two_weigh runs rest left right weight is =
    let f = λ (run : Vec Entry). sum_by weight run.items in
    omega (arith, ap (runs_weight weight) is, sum_by-cons f left (right ∷ rest), sum_by-cons f right rest)

pub begun : (text : List ℕ) (runs rest : List (Vec Entry)) (left right : Vec Entry) (merge : Merge) → AreRuns text runs → runs ≡ left ∷ right ∷ rest → IsMerge text merge
    → ((weight : Entry → ℕ) → merge_weight weight merge ≡ sum_by weight left.items + sum_by weight right.items) → AreMerging text merge rest
begun text runs rest left right merge are is merging same = record {
  is_merge = merging;
  sorted = (first_two runs rest left right text are is).2;
  same = λ weight. omega (arith, same weight, are.same weight, two_weigh runs rest left right weight is);
  fine = are.fine;
}

-- a merge counts for less than a run
pub few_begun : (text : List ℕ) (runs rest : List (Vec Entry)) (left right : Vec Entry) (merge : Merge) → IsHeaded text → AreRuns text runs → runs ≡ left ∷ right ∷ rest
    → left_over merge ≡ length left.items + length right.items → 33554432 * (length rest + 1) + left_over merge + 2 < 33554432 * length runs + 2
few_begun text runs rest left right merge head are is left_is =
    omega (
      arith,
      few_rows text head,
      are.same (λ e. 1),
      two_weigh runs rest left right (λ e. 1) is,
      ones left.items,
      ones right.items,
      left_is,
      ap length is,
    )

pub merged_more : (text : List ℕ) (merge next : Merge) (runs : List (Vec Entry)) → AreMerging text merge runs → IsMerge text next
    → ((weight : Entry → ℕ) → merge_weight weight next ≡ merge_weight weight merge) → AreMerging text next runs
merged_more text merge next runs are is same = record {
  is_merge = is;
  sorted = are.sorted;
  same = λ weight. omega (arith, same weight, are.same weight);
  fine = are.fine;
}

-- the merged run behind the others
pub run_more : (text : List ℕ) (merge : Merge) (runs : List (Vec Entry)) (run : Vec Entry) → AreMerging text merge runs → IsInOrder text run.items
    → ((weight : Entry → ℕ) → sum_by weight run.items ≡ merge_weight weight merge) → AreRuns text (runs ++ run ∷ [])
run_more text merge runs run are up same = record {
  sorted = All-push (λ (run : Vec Entry). IsInOrder text run.items) runs run are.sorted up;
  same = λ weight. omega (arith, same weight, are.same weight, sum_by_push (λ (run : Vec Entry). sum_by weight run.items) runs run);
  fine = are.fine;
}

pub compared_more : (text : List ℕ) (entries : List Entry) (index to : ℕ) (old new : Places) → to ≤ length entries → AreCompared text entries index old
    → IsPeacefulBelow text entries to → AreOnBelow text entries to new → AreCompared text entries to new
compared_more text entries index to old new within are peace on =
    record { within = within; sorted = are.sorted; same = are.same; peaceful = peace; packages = on; fine = are.fine }

pub all_compared : (text : List ℕ) (entries : List Entry) (index : ℕ) (on : Places) → IsHeaded text → index ≡ length entries → AreCompared text entries index on
    → IsRead text entries on
all_compared text entries index on head end are = record {
  packages = all_on text entries index on end are.same are.packages;
  indexed = indexed text entries head are.same are.sorted (rw (← end) are.peaceful);
  fine = are.fine;
}

-- fewer steps are left than before
pub next_by : (text : List ℕ) (old new : Phase) → steps_left text new < steps_left text old → IsNext text old new
next_by text old (phase.Done entries on) less = tt
next_by text old (phase.Rows place runs) less = less
next_by text old (phase.Merging merge runs) less = less
next_by text old (phase.Comparing entries index on) less = less

-- unless the file is read, fewer steps are left
pub less_unless_done : (text : List ℕ) (old new : Phase) → ((entries : Vec Entry) (on : Places) → new ≡ phase.Done entries on → ⊥) → IsNext text old new
    → steps_left text new < steps_left text old
less_unless_done text old (phase.Done entries on) other h = absurd (other entries on refl)
less_unless_done text old (phase.Rows place runs) other h = h
less_unless_done text old (phase.Merging merge runs) other h = h
less_unless_done text old (phase.Comparing entries index on) other h = h

-- a portion that is read counts for more than its run
pub less_behind : (runs place to size : ℕ) → place < to → to ≤ size → 33554432 * ((runs + 1) + 2 * (size - to) + 2) < 33554432 * (runs + 2 * (size - place) + 2)
less_behind runs place to size more within = omega (arith, more, within)
