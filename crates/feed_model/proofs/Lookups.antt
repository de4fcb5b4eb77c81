-- Look-ups after a change.
use Rattle.std.proofs.Common.{◌≡◌, ◌≢◌, Bool, true, false, cond, not, [], ◌∷◌, Option, Some, None, refl, sym, ◌∙◌, ap, subst}
use Rattle.feed_names.specs.ReleaseName.{Name, name_eq}
use Rattle.feed_model.specs.Content.{Record, Content, record_of}
use Rattle.feed_model.specs.Change.{comes_before, insert_record, changed, is_earlier, without_earlier}
use Rattle.feed_model.proofs.Names.{name_is, name_apart, name_not}

-- the record that is found has the name

pub name-record_of : (c : Content) (n : Name) (r : Record) → record_of c n ≡ Some r → r.name ≡ n
name-record_of [] n r e = absurd cc
name-record_of (x ∷ xs) n r e = by (name_eq x.name n) refl (name-record_of xs n r)
  where
    by : (b : Bool) → name_eq x.name n ≡ b → (record_of xs n ≡ Some r → r.name ≡ n) → r.name ≡ n
    by true t again = let s : x ≡ r = (let u : Some x ≡ Some r = rw t at e in cc) in ap (λ (y : Record). y.name) (sym s) ∙ name_is x.name n t
    by false t again = again (rw t at e)

-- it is found under its own name too
pub record_of-own : (c : Content) (n : Name) (r : Record) → record_of c n ≡ Some r → record_of c r.name ≡ Some r
record_of-own c n r e = subst (λ (m : Name). record_of c m ≡ Some r) (sym (name-record_of c n r e)) e

pub record_of-insert_record : (r : Record) (c : Content) (m : Name) → record_of c r.name ≡ None → record_of (insert_record r c) m ≡ cond (name_eq r.name m) (Some r) (record_of c m)
record_of-insert_record r [] m e = refl
record_of-insert_record r (x ∷ xs) m e = at (comes_before x.name r.name) (behind (name_eq x.name r.name) (name_eq x.name m) refl refl (record_of-insert_record r xs m))
  where
    behind : (a b : Bool) → name_eq x.name r.name ≡ a → name_eq x.name m ≡ b
        → (record_of xs r.name ≡ None → record_of (insert_record r xs) m ≡ cond (name_eq r.name m) (Some r) (record_of xs m))
        → cond (name_eq x.name m) (Some x) (record_of (insert_record r xs) m) ≡ cond (name_eq r.name m) (Some r) (cond (name_eq x.name m) (Some x) (record_of xs m))
    behind true b s t again = absurd (let u : Some x ≡ None = rw s at e in cc)
    behind false true s t again =
        let apart : name_eq r.name m ≡ false = name_apart r.name m (λ same. name_not x.name r.name s (name_is x.name m t ∙ sym same)) in
        rw (t, apart) refl
    behind false false s t again = rw t (again (rw s at e))

    at : (d : Bool) → cond (name_eq x.name m) (Some x) (record_of (insert_record r xs) m) ≡ cond (name_eq r.name m) (Some r) (cond (name_eq x.name m) (Some x) (record_of xs m))
        → record_of (cond d (x ∷ insert_record r xs) (r ∷ x ∷ xs)) m ≡ cond (name_eq r.name m) (Some r) (record_of (x ∷ xs) m)
    at true later = later
    at false later = refl

-- f keeps the name
pub record_of-changed : (n : Name) (f : Record → Record) → ((r : Record) → (f r).name ≡ r.name) → (c : Content) (m : Name) → m ≢ n → record_of (changed n f c) m ≡ record_of c m
record_of-changed n f same [] m apart = refl
record_of-changed n f same (x ∷ xs) m apart = by (name_eq x.name n) refl (record_of-changed n f same xs m apart)
  where
    by : (b : Bool) → name_eq x.name n ≡ b → record_of (changed n f xs) m ≡ record_of xs m
        → record_of (cond (name_eq x.name n) (f x ∷ xs) (x ∷ changed n f xs)) m ≡ record_of (x ∷ xs) m
    by true t again =
        let off : name_eq x.name m ≡ false = name_apart x.name m (λ e. apart (sym e ∙ name_is x.name n t)) in
        let off' : name_eq (f x).name m ≡ false = name_apart (f x).name m (λ e. apart (sym e ∙ same x ∙ name_is x.name n t)) in
        rw (t, off, off') refl
    by false t again = rw t (ap (cond (name_eq x.name m) (Some x)) again)

pub record_of-changed_here : (n : Name) (f : Record → Record) → ((r : Record) → (f r).name ≡ r.name) → (c : Content) (r : Record) → record_of c n ≡ Some r
    → record_of (changed n f c) n ≡ Some (f r)
record_of-changed_here n f same [] r e = absurd cc
record_of-changed_here n f same (x ∷ xs) r e = by (name_eq x.name n) refl (record_of-changed_here n f same xs r)
  where
    by : (b : Bool) → name_eq x.name n ≡ b → (record_of xs n ≡ Some r → record_of (changed n f xs) n ≡ Some (f r))
        → record_of (cond (name_eq x.name n) (f x ∷ xs) (x ∷ changed n f xs)) n ≡ Some (f r)
    by true t again =
        let s : x ≡ r = (let u : Some x ≡ Some r = rw t at e in cc) in
        let here : name_eq (f x).name n ≡ true = subst (λ (y : Name). name_eq y n ≡ true) (sym (same x)) t in
        rw (t, here) (ap (λ y. Some (f y)) s)
    by false t again = rw (t, t) (again (rw t at e))

cond_none : (b : Bool) → let none : Option Record = None in none ≡ cond b none none
cond_none true = refl
cond_none false = refl

pub record_of-without_earlier : (n : Name) (c : Content) (m : Name) → record_of (without_earlier n c) m ≡ cond (is_earlier m n) None (record_of c m)
record_of-without_earlier n [] m = cond_none (is_earlier m n)
record_of-without_earlier n (x ∷ xs) m = by (name_eq x.name m) (is_earlier x.name n) (is_earlier m n) refl refl refl (record_of-without_earlier n xs m)
  where
    by : (a b d : Bool) → name_eq x.name m ≡ a → is_earlier x.name n ≡ b → is_earlier m n ≡ d → record_of (without_earlier n xs) m ≡ cond (is_earlier m n) None (record_of xs m)
        → record_of (cond (not (is_earlier x.name n)) (x ∷ without_earlier n xs) (without_earlier n xs)) m ≡ cond (is_earlier m n) None (cond (name_eq x.name m) (Some x) (record_of xs m))
    by true true true s t u again = rw (t, u) (again ∙ rw u refl)
    by true true false s t u again = absurd (let v : is_earlier x.name n ≡ is_earlier m n = ap (λ y. is_earlier y n) (name_is x.name m s) in cc)
    by true false true s t u again = absurd (let v : is_earlier x.name n ≡ is_earlier m n = ap (λ y. is_earlier y n) (name_is x.name m s) in cc)
    by true false false s t u again = rw (t, u, s) refl
    by false true d s t u again = rw (t, s) again
    by false false d s t u again = rw (t, s) again
