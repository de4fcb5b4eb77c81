-- Records and parts by their places in the lists.
use Rattle.std.proofs.Common.{◌≡◌, ◌<◌, ℕ, zero, suc, Bool, true, false, [], ◌∷◌, length, get_or, Some, refl, arith}
use Rattle.std.specs.List.{IsDistinct, AllByRecursion}
use Rattle.std.proofs.lemmas.Map.Keys.{IsDistinct-head, IsDistinct-tail}
use Rattle.feed_names.specs.ReleaseName.{Name, name_eq, IsEarlier}
use Rattle.feed_model.specs.declared.state.State.TheVariants.{Active}
use Rattle.feed_model.specs.Content.{Record, Content, record_of, names}
use Rattle.feed_model.specs.Handles.{HasLaterActive}
use Rattle.feed_model.proofs.Names.{name_self}

-- no record has the name

apart_at : (n : Name) (c : Content) (k : ℕ) (d : Record) → AllByRecursion (λ y. name_eq n y ≡ false) (names c) → k < length c → name_eq n (get_or c k d).name ≡ false
apart_at n [] k d a lt = absurd (omega arith)
apart_at n (x ∷ xs) zero d a lt = a.0
apart_at n (x ∷ xs) (suc k) d a lt = apart_at n xs k d a.1 (omega arith)

-- each record is found under its own name
pub record_of-at : (c : Content) (k : ℕ) (d : Record) → IsDistinct name_eq (names c) → k < length c → record_of c (get_or c k d).name ≡ Some (get_or c k d)
record_of-at [] k d apart lt = absurd (omega arith)
record_of-at (x ∷ xs) zero d apart lt = rw (name_self x.name) refl
record_of-at (x ∷ xs) (suc k) d apart lt =
    rw (apart_at x.name xs k d (IsDistinct-head name_eq x.name (names xs) apart) (omega arith)) (record_of-at xs k d (IsDistinct-tail name_eq x.name (names xs) apart) (omega arith))

-- a record that is found has a place
pub place_of : (c : Content) (n : Name) (r : Record) → record_of c n ≡ Some r → (k : ℕ) × (k < length c) × ((d : Record) → get_or c k d ≡ r)
place_of [] n r e = absurd (cc)
place_of (x ∷ xs) n r e = by (name_eq x.name n) refl (place_of xs n r)
  where
    by : (b : Bool) → name_eq x.name n ≡ b → (record_of xs n ≡ Some r → (k : ℕ) × (k < length xs) × ((d : Record) → get_or xs k d ≡ r))
        → (k : ℕ) × (k < length (x ∷ xs)) × ((d : Record) → get_or (x ∷ xs) k d ≡ r)
    by true t again = (0, omega arith, λ d. let u : Some x ≡ Some r = rw t at e in cc)
    by false t again = let g = again (rw t at e) in (suc g.0, (let lt : g.0 < length xs = g.1 in omega arith), g.2)

-- an active record at a place is later
pub later_at : (c : Content) (n : Name) (k : ℕ) (d : Record) → IsDistinct name_eq (names c) → k < length c → (get_or c k d).state ≡ Active → IsEarlier n (get_or c k d).name
    → HasLaterActive c n
later_at c n k d apart lt active later = (get_or c k d, record_of-at c k d apart lt, active, later)
