-- Records with their parts in the order of arrival, and the same records with sorted parts.
use Rattle.std.proofs.Common.{if◌then◌else◌, ◌≡◌, ◌++◌, Bool, true, false, not, cond, Option, List, [], ◌∷◌, IsPermutation, refl, sym, ◌∙◌, ap, subst}
use Rattle.std.specs.List.{IsDistinct}
use Rattle.std.proofs.lemmas.List.Sorted.{IsPermutation-map}
use Rattle.feed_names.specs.ReleaseName.{Name, name_eq}
use Rattle.feed_kbart.specs.declared.fault.BadFile.{BadFile}
use Rattle.feed_model.specs.declared.state.State.{State}
use Rattle.std.specs.Option.{option_or}
use Rattle.feed_model.specs.Content.{Part, Record, Content, names}
use Rattle.feed_model.specs.Change.{changed, comes_before, insert_part, insert_record, is_earlier, merged, without_earlier}
use Rattle.feed_parts.proofs.Unique.{merged_moves}
use Rattle.feed_keep.specs.declared.record.Record as code
use Rattle.feed_keep.specs.Shown.{shown, shown_record}
use Rattle.feed_keep.specs.Arranged.{AreSame, IsArranged, ordered_record, ordered, lengthened}

same_ordered : (c : Content) → AreSame c (ordered c)
same_ordered [] = tt
same_ordered (r ∷ rs) = (record { name = refl; size = refl; state = refl; reason = refl; parts = merged_moves [] r.parts }, same_ordered rs)

pub arranged : (given moved : List code.Record) → IsPermutation given moved → IsArranged (shown given) (ordered (shown moved))
arranged given moved permuted = (shown moved, IsPermutation-map shown_record given moved permuted, same_ordered (shown moved))

pub names_ordered : (c : Content) → names (ordered c) ≡ names c
names_ordered [] = refl
names_ordered (r ∷ rs) = ap (λ ns. r.name ∷ ns) (names_ordered rs)

pub distinct_ordered : (c : Content) → IsDistinct name_eq (names c) → IsDistinct name_eq (names (ordered c))
distinct_ordered c distinct = subst (λ (ns : List Name). IsDistinct name_eq ns) (sym (names_ordered c)) distinct

pub distinct_before : (c : Content) → IsDistinct name_eq (names (ordered c)) → IsDistinct name_eq (names c)
distinct_before c distinct = subst (λ (ns : List Name). IsDistinct name_eq ns) (names_ordered c) distinct

-- later parts are inserted among earlier ones
pub merged_behind : (ps qs ns : List Part) → merged ps (qs ++ ns) ≡ merged (merged ps qs) ns
merged_behind ps [] ns = refl
merged_behind ps (q ∷ qs) ns = merged_behind (insert_part q ps) qs ns

-- the record with these parts too, this state, and this reason if there is one, else its own
abbrev pub grown_for : List Part → State → Option BadFile → Record → Record
grown_for ps state reason r = record { name = r.name; size = r.size; state = state; reason = option_or reason r.reason; parts = merged r.parts ps }

lengthened_ordered : (ps : List Part) (state : State) (reason : Option BadFile) (r : Record) → ordered_record (lengthened ps state reason r) ≡ grown_for ps state reason (ordered_record r)
lengthened_ordered ps state reason r =
    ap (λ (qs : List Part). let x : Record = record { name = r.name; size = r.size; state = state; reason = option_or reason r.reason; parts = qs } in x) (merged_behind [] r.parts ps)

pub insert_ordered : (r : Record) (c : Content) → ordered (insert_record r c) ≡ insert_record (ordered_record r) (ordered c)
insert_ordered r [] = refl
insert_ordered r (x ∷ xs) = by (comes_before x.name r.name) (insert_ordered r xs)
  where
    by : (b : Bool) → ordered (insert_record r xs) ≡ insert_record (ordered_record r) (ordered xs)
        → ordered (if b then x ∷ insert_record r xs else r ∷ x ∷ xs) ≡
        (if b then ordered_record x ∷ insert_record (ordered_record r) (ordered xs) else ordered_record r ∷ ordered_record x ∷ ordered xs)
    by true again = ap (λ ys. ordered_record x ∷ ys) again
    by false again = refl

pub changed_ordered : (n : Name) (ps : List Part) (state : State) (reason : Option BadFile) (c : Content)
    → ordered (changed n (lengthened ps state reason) c) ≡ changed n (grown_for ps state reason) (ordered c)
changed_ordered n ps state reason [] = refl
changed_ordered n ps state reason (r ∷ rs) = by (name_eq r.name n) (changed_ordered n ps state reason rs)
  where
    by : (b : Bool) → ordered (changed n (lengthened ps state reason) rs) ≡ changed n (grown_for ps state reason) (ordered rs)
        → ordered (if b then lengthened ps state reason r ∷ rs else r ∷ changed n (lengthened ps state reason) rs) ≡
        (if b then grown_for ps state reason (ordered_record r) ∷ ordered rs else ordered_record r ∷ changed n (grown_for ps state reason) (ordered rs))
    by true again = ap (λ x. x ∷ ordered rs) (lengthened_ordered ps state reason r)
    by false again = ap (λ ys. ordered_record r ∷ ys) again

pub without_earlier_ordered : (n : Name) (c : Content) → ordered (without_earlier n c) ≡ without_earlier n (ordered c)
without_earlier_ordered n [] = refl
without_earlier_ordered n (r ∷ rs) = by (not (is_earlier r.name n)) (without_earlier_ordered n rs)
  where
    by : (b : Bool) → ordered (without_earlier n rs) ≡ without_earlier n (ordered rs)
        → ordered (cond b (r ∷ without_earlier n rs) (without_earlier n rs)) ≡ cond b (ordered_record r ∷ without_earlier n (ordered rs)) (without_earlier n (ordered rs))
    by true again = ap (λ ys. ordered_record r ∷ ys) again
    by false again = again

-- a release with new parts that becomes active
pub active_ordered : (n : Name) (ps : List Part) (state : State) (reason : Option BadFile) (c : Content)
    → ordered (without_earlier n (changed n (lengthened ps state reason) c)) ≡ without_earlier n (changed n (grown_for ps state reason) (ordered c))
active_ordered n ps state reason c = without_earlier_ordered n (changed n (lengthened ps state reason) c) ∙ ap (without_earlier n) (changed_ordered n ps state reason c)
