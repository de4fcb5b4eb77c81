-- A change of a map at one key, which is bytes, leaves the values of its other keys.
use Rattle.std.proofs.Common.{◌≡◌, ℕ, ◌&&◌, Bool, true, false, cond, is_some, List, Option, Some, None, Ordering, if◌then◌else◌, refl, sym, ◌∙◌}
use Rattle.std.specs.Global.{Vec}
use Rattle.std.specs.Option.{option_or}
use Rattle.std.specs.Ordering.{is_eq, nat_cmp, eq_by_cmp}
use Rattle.std.specs.Cmp.{eq_by_cmp_equiv}
use Rattle.std.specs.Cmp.Lexicographic.{slice_cmp, bytes_decides, nat_list_cmp_total, nat_list_eq_equiv}
use Rattle.std.specs.Str.{bytes_eq}
use Rattle.std.specs.BTreeMap.{BTreeMap, UpdatesBy, get_by, is_at}
use Rattle.std.specs.Map.{lookup, KeepsOthers}
use Rattle.std.proofs.lemmas.Map.Text.{is_eq-slice_cmp}
use Rattle.node_site.specs.declared.places.Places.{Places}
use Rattle.node_site.specs.declared.title_places.TitlePlaces.{TitlePlaces}
use Rattle.node_site.specs.Indexes.{AddsPlace, AddsTitle, place_at, title_at}

-- some bytes as a key
abbrev pub by : List ℕ → Vec ℕ → Ordering
by bs k = slice_cmp nat_cmp bs k.items

abbrev pub key_cmp : Vec ℕ → Vec ℕ → Ordering
key_cmp x y = slice_cmp nat_cmp x.items y.items

apart : (bs cs ks : List ℕ) → bytes_eq bs cs ≡ false → is_eq (slice_cmp nat_cmp bs ks) ≡ true → is_eq (slice_cmp nat_cmp cs ks) ≡ false
apart bs cs ks n y =
    is_eq-slice_cmp cs ks ∙ nat_list_eq_equiv.symm cs ks ∙ sym (nat_list_eq_equiv.congr bs ks cs (sym (is_eq-slice_cmp bs ks) ∙ y)) ∙ n

others : {X : Type 0} (old new : List (Vec ℕ × X)) (bs cs : List ℕ) → KeepsOthers (eq_by_cmp key_cmp) (is_at (by bs)) old new
    → bytes_eq bs cs ≡ false → lookup (is_at (by cs)) new ≡ lookup (is_at (by cs)) old
unfolding KeepsOthers
others old new bs cs keeps n =
    keeps (is_at (by cs)) (λ x y. (eq_by_cmp_equiv nat_list_cmp_total).congr cs x.items y.items) (λ k. apart bs cs k.items n)

same_or_other : {X : Type 0} (old new : BTreeMap (Vec ℕ) X) (w : Option X) (bs cs : List ℕ) → UpdatesBy key_cmp (by bs) old new w
    → (b : Bool) → bytes_eq bs cs ≡ b → get_by (by cs) new ≡ cond b w (get_by (by cs) old)
same_or_other old new w bs cs h true e = rw (← (bytes_decides bs cs).0 e) h.1
same_or_other old new w bs cs h false e = others old.entries new.entries bs cs h.3 e

-- the value is at the bytes that were changed, and the others have theirs
pub updated : {X : Type 0} (old new : BTreeMap (Vec ℕ) X) (w : Option X) (key bs : List ℕ) → key ≡ bs → UpdatesBy key_cmp (by key) old new w
    → (cs : List ℕ) → get_by (by cs) new ≡ cond (bytes_eq bs cs) w (get_by (by cs) old)
updated old new w key bs same h cs = rw (← same) (same_or_other old new w key cs h (bytes_eq key cs) refl)

pub or_none : {X : Type 0} (o : Option X) → option_or o None ≡ o
or_none None = refl
or_none (Some x) = refl

pub or_or : {X : Type 0} (o p q : Option X) → option_or (option_or o p) q ≡ option_or o (option_or p q)
or_or None p q = refl
or_or (Some x) p q = refl

or_given : {X : Type 0} (o p : Option X) → is_some o ≡ true → option_or o p ≡ o
or_given None p h = cc
or_given (Some x) p h = refl

-- a key that has a place keeps it
pub keeps_place : (places : Places) (key : List ℕ) (place : ℕ) → is_some (place_at key places) ≡ true → AddsPlace places key place places
keeps_place places key place given other = by_case (bytes_eq key other) refl
  where
    by_case : (b : Bool) → bytes_eq key other ≡ b → place_at other places ≡ option_or (place_at other places) (if b then Some place else None)
    by_case true e = sym (or_given (place_at other places) (Some place) (rw (← (bytes_decides key other).0 e) given))
    by_case false e = sym (or_none (place_at other places))

none_of : {X : Type 0} (o : Option X) → is_some o ≡ false → o ≡ None
none_of None h = refl
none_of (Some x) h = cc

-- a key without a place has one now
pub adds_place : (old new : Places) (kept key : List ℕ) (place : ℕ) → kept ≡ key → is_some (place_at key old) ≡ false
    → UpdatesBy key_cmp (by kept) old.places new.places (Some place)
    → AddsPlace old key place new
adds_place old new kept key place same absent h other = by_case (bytes_eq key other) refl
  where
    by_case : (b : Bool) → bytes_eq key other ≡ b → place_at other new ≡ option_or (place_at other old) (if b then Some place else None)
    by_case true e =
        let none : place_at other old ≡ None = rw (← (bytes_decides key other).0 e) (none_of (place_at key old) absent) in
        rw (updated old.places new.places (Some place) kept key same h other, e, none) refl
    by_case false e = rw (updated old.places new.places (Some place) kept key same h other, e) (sym (or_none (place_at other old)))

-- the titles of a package are taken, one more has a place, and they are put back
pub adds_title : (old taken new : TitlePlaces) (were titles : Places) (kept package_id id : List ℕ) (place : ℕ) → kept ≡ package_id
    → UpdatesBy key_cmp (by package_id) old.packages taken.packages None
    → ((key : List ℕ) → place_at key were ≡ title_at package_id key old)
    → AddsPlace were id place titles
    → UpdatesBy key_cmp (by kept) taken.packages new.packages (Some titles)
    → AddsTitle old package_id id place new
adds_title old taken new were titles kept package_id id place is takes are adds puts other_package other = by_case (bytes_eq package_id other_package) refl
  where
    by_case : (b : Bool) → bytes_eq package_id other_package ≡ b
        → title_at other_package other new ≡ option_or (title_at other_package other old) (if b && bytes_eq id other then Some place else None)
    by_case true e =
        let same : package_id ≡ other_package = (bytes_decides package_id other_package).0 e in
        rw (updated taken.packages new.packages (Some titles) kept package_id is puts other_package, e, ← same) (rw (← are other) (adds other))
    by_case false e =
        rw (updated taken.packages new.packages (Some titles) kept package_id is puts other_package, e, updated old.packages taken.packages None package_id package_id refl takes other_package, e)
        (sym (or_none (title_at other_package other old)))
