-- The names of a content stay distinct.
use Rattle.std.proofs.Common.{◌≡◌, Bool, true, false, cond, not, [], ◌∷◌, Some, None, refl, sym, ◌∙◌, ap, subst, filter}
use Rattle.std.specs.List.{IsDistinct, AllByRecursion}
use Rattle.std.proofs.lemmas.Map.Keys.{IsDistinct-head, IsDistinct-tail, IsDistinct-cons}
use Rattle.feed_names.specs.ReleaseName.{Name, name_eq}
use Rattle.feed_model.specs.Content.{Record, Content, names, record_of}
use Rattle.feed_model.specs.Change.{comes_before, insert_record, changed, is_earlier, without_earlier}
use Rattle.feed_model.proofs.Names.{name_laws}

abbrev HasNot : Name → Content → Type 0
HasNot n c = AllByRecursion (λ y. name_eq n y ≡ false) (names c)

-- a change of a record leaves its name
pub names-changed : (n : Name) (f : Record → Record) → ((r : Record) → (f r).name ≡ r.name) → (c : Content) → names (changed n f c) ≡ names c
names-changed n f same [] = refl
names-changed n f same (x ∷ xs) = by (name_eq x.name n) (names-changed n f same xs)
  where
    by : (b : Bool) → names (changed n f xs) ≡ names xs → names (cond b (f x ∷ xs) (x ∷ changed n f xs)) ≡ x.name ∷ names xs
    by true again = ap (λ y. y ∷ names xs) (same x)
    by false again = ap (λ y. x.name ∷ y) again

pub distinct-changed : (n : Name) (f : Record → Record) → ((r : Record) → (f r).name ≡ r.name) → (c : Content) → IsDistinct name_eq (names c) → IsDistinct name_eq (names (changed n f c))
distinct-changed n f same c d = subst (IsDistinct name_eq) (sym (names-changed n f same c)) d

apart_filter : (n : Name) (p : Record → Bool) (c : Content) → HasNot n c → HasNot n (filter p c)
apart_filter n p [] a = tt
apart_filter n p (x ∷ xs) a = by (p x) (apart_filter n p xs a.1)
  where
    by : (b : Bool) → HasNot n (filter p xs) → HasNot n (cond b (x ∷ filter p xs) (filter p xs))
    by true again = (a.0, again)
    by false again = again

distinct_filter : (p : Record → Bool) (c : Content) → IsDistinct name_eq (names c) → IsDistinct name_eq (names (filter p c))
distinct_filter p [] d = d
distinct_filter p (x ∷ xs) d = by (p x) (distinct_filter p xs (IsDistinct-tail name_eq x.name (names xs) d))
  where
    by : (b : Bool) → IsDistinct name_eq (names (filter p xs)) → IsDistinct name_eq (names (cond b (x ∷ filter p xs) (filter p xs)))
    by true again = IsDistinct-cons name_eq x.name (names (filter p xs)) (apart_filter x.name p xs (IsDistinct-head name_eq x.name (names xs) d)) again
    by false again = again

pub distinct-without_earlier : (n : Name) (c : Content) → IsDistinct name_eq (names c) → IsDistinct name_eq (names (without_earlier n c))
distinct-without_earlier n c d = distinct_filter (λ x. not (is_earlier x.name n)) c d

apart_insert : (n : Name) (r : Record) (c : Content) → name_eq n r.name ≡ false → HasNot n c → HasNot n (insert_record r c)
apart_insert n r [] t a = (t, tt)
apart_insert n r (x ∷ xs) t a = by (comes_before x.name r.name) (apart_insert n r xs t a.1)
  where
    by : (b : Bool) → HasNot n (insert_record r xs) → HasNot n (cond b (x ∷ insert_record r xs) (r ∷ x ∷ xs))
    by true again = (a.0, again)
    by false again = (t, a)

-- a name without a record is that of none
apart_none : (n : Name) (c : Content) → record_of c n ≡ None → HasNot n c
apart_none n [] e = tt
apart_none n (x ∷ xs) e = by (name_eq x.name n) refl (apart_none n xs)
  where
    by : (b : Bool) → name_eq x.name n ≡ b → (record_of xs n ≡ None → HasNot n xs) → HasNot n (x ∷ xs)
    by true t again = absurd (let u : Some x ≡ None = rw t at e in cc)
    by false t again = (name_laws.symm n x.name ∙ t, again (rw t at e))

pub distinct-insert_record : (r : Record) (c : Content) → record_of c r.name ≡ None → IsDistinct name_eq (names c) → IsDistinct name_eq (names (insert_record r c))
distinct-insert_record r [] e d = IsDistinct-cons name_eq r.name [] tt d
distinct-insert_record r (x ∷ xs) e d = at (comes_before x.name r.name) (behind (name_eq x.name r.name) refl (distinct-insert_record r xs))
  where
    behind : (b : Bool) → name_eq x.name r.name ≡ b → (record_of xs r.name ≡ None → IsDistinct name_eq (names xs) → IsDistinct name_eq (names (insert_record r xs)))
        → IsDistinct name_eq (x.name ∷ names (insert_record r xs))
    behind true t again = absurd (let u : Some x ≡ None = rw t at e in cc)
    behind false t again =
        IsDistinct-cons name_eq x.name (names (insert_record r xs)) (apart_insert x.name r xs t (IsDistinct-head name_eq x.name (names xs) d))
        (again (rw t at e) (IsDistinct-tail name_eq x.name (names xs) d))

    at : (b : Bool) → IsDistinct name_eq (x.name ∷ names (insert_record r xs)) → IsDistinct name_eq (names (cond b (x ∷ insert_record r xs) (r ∷ x ∷ xs)))
    at true later = later
    at false later = IsDistinct-cons name_eq r.name (names (x ∷ xs)) (apart_none r.name (x ∷ xs) e) d
