-- IsContentChange one after another.
use Rattle.std.proofs.Common.{◌≡◌, ◌≢◌, ◌≤◌, ℕ, eqb, List, [], ◌∷◌, ◌++◌, Some, None, Bool, true, false, refl, sym, ap, ◌∙◌, if◌then◌else◌, arith}
use Rattle.std.proofs.lemmas.Bool.Decides.{nat_tests}
use Rattle.sqlite.specs.Effect.{Database}
use Rattle.sqlite.specs.State.{State}
use Rattle.feed_names.specs.ReleaseName.{Name, name_eq}
use Rattle.feed_model.specs.declared.state.State as model
use Rattle.feed_model.specs.declared.state.State.TheVariants as states
use Rattle.feed_model.specs.Content.{Part, Record, Content, record_of}
use Rattle.feed_kbart.specs.declared.fault.BadFile.{BadFile}
use Rattle.feed_kbart.specs.declared.fault.BadFile.TheVariants.{NoHeader}
use Rattle.feed_model.specs.Reply.{max_file}
use Rattle.feed_model.specs.Change.{changed, comes_before, grown, broken_with, merged, insert_part, insert_record, new_record, Add, Pieces, Break}
use Rattle.feed_model.proofs.Names.{name_self}
use Rattle.feed_store_model.specs.Records.{bare, with_part, with_parts, with_reason, with_state}
use Rattle.feed_store_model.specs.Tables.{IsStored, stored_content}
use Rattle.feed_store_model.proofs.Stored.{stored}
use Rattle.feed_store_write.specs.Effects.{IsAllowedChange, IsContentChange, IsContentChangeIf, IsMade, IsReasonChangeIf, IsTransition}

-- one change of a record after another
changed_twice : (n : Name) (f g h : Record → Record) → ((r : Record) → (f r).name ≡ r.name) → ((r : Record) → g (f r) ≡ h r) → (c : Content)
    → changed n g (changed n f c) ≡ changed n h c
changed_twice n f g h same both [] = refl
changed_twice n f g h same both (r ∷ rs) = by (name_eq r.name n) refl (changed_twice n f g h same both rs)
  where
    by : (b : Bool) → name_eq r.name n ≡ b → changed n g (changed n f rs) ≡ changed n h rs
        → changed n g (if b then f r ∷ rs else r ∷ changed n f rs) ≡ (if b then h r ∷ rs else r ∷ changed n h rs)
    by true e more = ap (λ (b : Bool). if b then g (f r) ∷ rs else f r ∷ changed n g rs) (ap (λ (m : Name). name_eq m n) (same r) ∙ e)
        ∙ ap (λ x. x ∷ rs) (both r)
    by false e more = ap (λ (b : Bool). if b then g r ∷ changed n f rs else r ∷ changed n g (changed n f rs)) e ∙ ap (λ l. r ∷ l) more

changed_same : (n : Name) (c : Content) → changed n (with_parts []) c ≡ c
changed_same n [] = refl
changed_same n (r ∷ rs) = by (name_eq r.name n) (changed_same n rs)
  where
    by : (b : Bool) → changed n (with_parts []) rs ≡ rs → (if b then with_parts [] r ∷ rs else r ∷ changed n (with_parts []) rs) ≡ r ∷ rs
    by true more = refl
    by false more = ap (λ l. r ∷ l) more

merged_last : (old ps : List Part) (p : Part) → insert_part p (merged old ps) ≡ merged old (ps ++ p ∷ [])
merged_last old [] p = refl
merged_last old (q ∷ ps) p = merged_last (insert_part q old) ps p

-- the changes of two calls are one
pub made_then : (f g h : Content → Content) (a b c : State) → ((k : Content) → g (f k) ≡ h k) → IsMade (IsContentChange f) a b → IsMade (IsContentChange g) b c
    → IsMade (IsContentChange h) a c
made_then f g h a b c both one two = record {
  change = λ ours.
      let first = one.change ours in
      let second = two.change first.ours in record {
        ours = second.ours;
        listed = λ are. second.listed (first.listed are);
        content = λ are. second.content (first.listed are) ∙ ap g (first.content are) ∙ both (stored_content a.now);
      };
  committed = two.committed ∙ one.committed;
  inside = λ on. two.inside (one.inside on);
}

-- one kind of database becomes another one, and this a third
pub leads_then : (P Q R : Database → Type 0) (a b c : State) → IsMade (IsTransition P Q) a b → IsMade (IsTransition Q R) b c → IsMade (IsTransition P R) a c
leads_then P Q R a b c one two = record {
  change = λ has. two.change (one.change has);
  committed = two.committed ∙ one.committed;
  inside = λ on. two.inside (one.inside on);
}

-- no part is added yet
pub none_added : (n : Name) (s : State) → IsMade (IsContentChange (changed n (with_parts []))) s s
none_added n s = record {
  change = λ ours. record { ours = ours; listed = λ are. are; content = λ are. sym (changed_same n (stored_content s.now)) };
  committed = refl;
  inside = λ on. on;
}

-- one more part is added
pub one_more : (n : Name) (ps : List Part) (p : Part) (a b c : State) → IsMade (IsContentChange (changed n (with_parts ps))) a b
    → IsMade (IsContentChange (changed n (with_part p))) b c → IsMade (IsContentChange (changed n (with_parts (ps ++ p ∷ [])))) a c
one_more n ps p a b c one two =
    made_then (changed n (with_parts ps)) (changed n (with_part p)) (changed n (with_parts (ps ++ p ∷ []))) a b c
    (changed_twice n (with_parts ps) (with_part p) (with_parts (ps ++ p ∷ [])) (λ r. refl)
    (λ r. ap (λ (all : List Part). let x : Record = record r { parts = all } in x) (merged_last r.parts ps p))) one two

-- parts and then a state are what the change of a record is
pub parts_then_state : (n : Name) (ps : List Part) (s : model.State) (a b c : State) → IsMade (IsContentChange (changed n (with_parts ps))) a b
    → IsMade (IsContentChange (changed n (with_state s))) b c → IsMade (IsContentChange (changed n (grown ps s))) a c
parts_then_state n ps s a b c one two =
    made_then (changed n (with_parts ps)) (changed n (with_state s)) (changed n (grown ps s)) a b c
    (changed_twice n (with_parts ps) (with_state s) (grown ps s) (λ r. refl) (λ r. refl)) one two

-- a staged release with more parts is staged
still_staged : (n : Name) (ps : List Part) (r : Record) (c : Content) → record_of c n ≡ Some r → r.state ≡ states.Staged
    → changed n (with_parts ps) c ≡ changed n (grown ps states.Staged) c
still_staged n ps r [] found staged = refl
still_staged n ps r (x ∷ xs) found staged = by (name_eq x.name n) refl (still_staged n ps r xs)
  where
    by : (b : Bool) → name_eq x.name n ≡ b
        → (record_of xs n ≡ Some r → r.state ≡ states.Staged → changed n (with_parts ps) xs ≡ changed n (grown ps states.Staged) xs)
        → (if b then with_parts ps x ∷ xs else x ∷ changed n (with_parts ps) xs)
        ≡ (if b then grown ps states.Staged x ∷ xs else x ∷ changed n (grown ps states.Staged) xs)
    by true e more =
        let is : Some x ≡ Some r = ap (λ (b : Bool). if b then Some x else record_of xs n) (sym e) ∙ found in
        let one : x ≡ r = cc in
        ap (λ (s : model.State). let y : Record = record { name = x.name; size = x.size; state = s; reason = x.reason; parts = merged x.parts ps } in y ∷ xs)
        (ap (λ (y : Record). y.state) one ∙ staged)
    by false e more = ap (λ l. x ∷ l) (more (ap (λ (b : Bool). if b then Some x else record_of xs n) (sym e) ∙ found) staged)

-- the same change by other words
pub made_as : (Change Same : Database → Database → Type 0) (a b : State) → (Change a.now b.now → Same a.now b.now) → IsMade Change a b → IsMade Same a b
made_as Change Same a b same it = record { change = same it.change; committed = it.committed; inside = it.inside }

-- the parts that are added to a staged release are the change that adds them
pub pieces_made : (n : Name) (ps : List Part) (a b : State) → IsMade (IsContentChange (changed n (with_parts ps))) a b
    → IsMade (IsAllowedChange (Pieces n ps)) a b
pieces_made n ps a b = made_as (IsContentChange (changed n (with_parts ps))) (IsAllowedChange (Pieces n ps)) a b (λ change most allowed ours.
    let done = change ours in record {
      ours = done.ours;
      listed = done.listed;
      content = λ are. done.content are ∙ still_staged n ps allowed.0 (stored_content a.now) allowed.1.found allowed.1.staged;
    })

-- ---- releases that are broken

-- the record that was put in is changed
changed_inserted : (f : Record → Record) (r : Record) → ((x : Record) → (f x).name ≡ x.name) → (c : Content) → record_of c r.name ≡ None
    → changed r.name f (insert_record r c) ≡ insert_record (f r) c
changed_inserted f r same [] free = ap (λ (b : Bool). if b then f r ∷ [] else r ∷ []) (name_self r.name)
changed_inserted f r same (x ∷ xs) free = by (name_eq x.name r.name) (comes_before x.name r.name) refl refl (changed_inserted f r same xs)
  where
    by : (a b : Bool) → name_eq x.name r.name ≡ a → comes_before x.name r.name ≡ b
        → (record_of xs r.name ≡ None → changed r.name f (insert_record r xs) ≡ insert_record (f r) xs)
        → changed r.name f (if b then x ∷ insert_record r xs else r ∷ x ∷ xs) ≡ insert_record (f r) (x ∷ xs)
    by true b e d more = absurd (let g : Some x ≡ None = sym (ap (λ (q : Bool). if q then Some x else record_of xs r.name) e) ∙ free in cc)
    by false true e d more =
        let before : comes_before x.name (f r).name ≡ true = ap (comes_before x.name) (same r) ∙ d in
        let rest : record_of xs r.name ≡ None = ap (λ (q : Bool). if q then Some x else record_of xs r.name) (sym e) ∙ free in
        ap (λ (q : Bool). if q then f x ∷ insert_record r xs else x ∷ changed r.name f (insert_record r xs)) e
        ∙ ap (λ l. x ∷ l) (more rest)
        ∙ ap (λ (q : Bool). if q then x ∷ insert_record (f r) xs else f r ∷ x ∷ xs) (sym before)
    by false false e d more =
        let before : comes_before x.name (f r).name ≡ false = ap (comes_before x.name) (same r) ∙ d in
        ap (λ (q : Bool). if q then f r ∷ x ∷ xs else r ∷ changed r.name f (x ∷ xs)) (name_self r.name)
        ∙ ap (λ (q : Bool). if q then x ∷ insert_record (f r) xs else f r ∷ x ∷ xs) (sym before)

-- an empty file is broken as it is offered
pub empty_made : (n : Name) (a b c : State) → IsMade (IsContentChangeIf (0 ≤ max_file) (insert_record (bare n 0 states.Broken))) a b
    → IsMade (IsReasonChangeIf (IsStored NoHeader) (changed n (with_reason NoHeader))) b c → IsMade (IsAllowedChange (Add n 0)) a c
empty_made n a b c one two = record {
  change = λ most allowed ours.
      let first = one.change (omega arith) ours in
      let second = (two.change tt first.ours).0 in record {
        ours = second.ours;
        listed = λ are. second.listed (first.listed are);
        content = λ are. second.content (first.listed are) ∙ ap (changed n (with_reason NoHeader)) (first.content are)
            ∙ changed_inserted (with_reason NoHeader) (bare n 0 states.Broken) (λ x. refl) (stored_content a.now) allowed.0;
      };
  committed = two.committed ∙ one.committed;
  inside = λ on. two.inside (one.inside on);
}

-- another one is staged
pub staged_made : (n : Name) (size : ℕ) (a b : State) → size ≢ 0 → IsMade (IsContentChangeIf (size ≤ max_file) (insert_record (bare n size states.Staged))) a b
    → IsMade (IsAllowedChange (Add n size)) a b
staged_made n size a b some = made_as (IsContentChangeIf (size ≤ max_file) (insert_record (bare n size states.Staged))) (IsAllowedChange (Add n size)) a b
    (λ change most allowed ours.
    let done = change allowed.2 ours in record {
      ours = done.ours;
      listed = done.listed;
      content = λ are. done.content are ∙ ap (λ (r : Record). insert_record r (stored_content a.now)) (new_is size some);
    })
  where
    new_is : (k : ℕ) → k ≢ 0 → bare n k states.Staged ≡ new_record n k
    new_is k some = let off : eqb k 0 ≡ false = grind (arith, nat_tests) in rw off refl

-- parts, the state and a reason are what the change of a record is
pub break_made : (n : Name) (ps : List Part) (why : BadFile) (a b c : State) → IsMade (IsContentChange (changed n (grown ps states.Broken))) a b
    → IsMade (IsReasonChangeIf (IsStored why) (changed n (with_reason why))) b c → IsMade (IsAllowedChange (Break n ps why)) a c
break_made n ps why a b c one two = record {
  change = λ most allowed ours.
      let bad = allowed.3 in
      let first = one.change ours in
      let second = (two.change (stored bad.0 why bad.2) first.ours).0 in record {
        ours = second.ours;
        listed = λ are. second.listed (first.listed are);
        content = λ are. second.content (first.listed are) ∙ ap (changed n (with_reason why)) (first.content are)
            ∙ changed_twice n (grown ps states.Broken) (with_reason why) (broken_with ps why) (λ r. refl) (λ r. refl) (stored_content a.now);
      };
  committed = two.committed ∙ one.committed;
  inside = λ on. two.inside (one.inside on);
}
