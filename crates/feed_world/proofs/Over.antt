-- A history over published files: what it has of a release is what is published.
use Rattle.std.proofs.Common.{◌≡◌, ◌<◌, ◌+◌, ℕ, ℤ, ◌≤ℤ◌, Bool, true, false, List, [], ◌∷◌, length, take}
use Rattle.std.proofs.Common.{drop, Option, Some, None, Result, Ok, Err, slice_get, nat_le, refl, sym, ◌∙◌, ap, subst, arith}
use Rattle.feed_names.specs.ReleaseName.{Name}
use Rattle.feed_world.specs.declared.line.Why as why
use Rattle.feed_world.specs.declared.line.Why.TheVariants as whys
use Rattle.feed_names.specs.ReleaseName.{name_eq}
use Rattle.feed_model.specs.File.{fault_of}
use Rattle.feed_model.specs.History.{Event, Offered, Piece, Lost, History, Answer, is_noted, is_taken, or_else, byte_at, size_of, kept, IsFile, IsWhole, IsGood, IsActive, Reports}
use Rattle.feed_world.specs.World.{Shelf, file_on, Sent, Offer, Deliver, Lose, arriving, delivery_event}
use Rattle.feed_world.specs.Headline.{HasAlike}
use Rattle.feed_model.proofs.Names.{name_is}
use Rattle.feed_model.proofs.Reports.{reports_one}
use Rattle.feed_world.proofs.Slices.{byte-slice, same_list, get_some, same_some}

pub record IsOver (shelf : Shelf) (h : History) : Type 0 where
  pub size : (n : Name) (s : ℕ) → size_of h n ≡ Some s → (file : List ℕ) × (file_on shelf n ≡ Some file) × (length file ≡ s)
  pub bytes : (n : Name) (place b : ℕ) → kept h n place ≡ Some b → (file : List ℕ) × (file_on shelf n ≡ Some file) × (slice_get file place ≡ Some b)

-- the later history has all that the earlier one has
pub record Keeps (h k : History) : Type 0 where
  pub size : (n : Name) (s : ℕ) → size_of h n ≡ Some s → size_of k n ≡ Some s
  pub bytes : (n : Name) (place b : ℕ) → kept h n place ≡ Some b → kept k n place ≡ Some b

-- what the event says of a release is published
abbrev pub IsTrueOf : Shelf → Event → Type 0
IsTrueOf shelf (Offered n s) = (file : List ℕ) × (file_on shelf n ≡ Some file) × (length file ≡ s)
IsTrueOf shelf (Piece n first total bytes) = (file : List ℕ) × (file_on shelf n ≡ Some file) × ((place b : ℕ) → byte_at first bytes place ≡ Some b → slice_get file place ≡ Some b)
IsTrueOf shelf (Lost n) = Unit {0}

-- what arrives is published
pub arriving_true : (shelf : Shelf) (sent : Sent) (e : Event) → arriving shelf sent ≡ Ok e → IsTrueOf shelf e
arriving_true shelf (Offer n) e is = by (file_on shelf n) refl
  where
    by : (o : Option (List ℕ)) → file_on shelf n ≡ o → IsTrueOf shelf e
    by None at = absurd (let u : ◌≡◌ {A = Result Event why.Why} (Err whys.Unpublished) (Ok e) = rw at at is in cc)
    by (Some file) at =
        let u : ◌≡◌ {A = Result Event why.Why} (Ok (Offered n (length file))) (Ok e) = rw at at is in let v : Offered n (length file) ≡ e = cc in subst (IsTrueOf shelf) v (file, at, refl)
arriving_true shelf (Deliver n first len) e is = by (file_on shelf n) refl
  where
    slice : (file : List ℕ) → file_on shelf n ≡ Some file → (t : Bool) → nat_le (first + len) (length file) ≡ t → delivery_event n first len (Some file) ≡ Ok e → IsTrueOf shelf e
    slice file at true t u =
        let v : ◌≡◌ {A = Result Event why.Why} (Ok (Piece n first (Some (length file)) (take len (drop first file)))) (Ok e) = rw t at u in let w : Piece n first (Some (length file))
        (take len (drop first file)) ≡ e = cc in subst (IsTrueOf shelf) w (file, at, byte-slice file first len)
    slice file at false t u = absurd (let v : ◌≡◌ {A = Result Event why.Why} (Err whys.NoSlice) (Ok e) = rw t at u in cc)

    by : (o : Option (List ℕ)) → file_on shelf n ≡ o → IsTrueOf shelf e
    by None at = absurd (let u : ◌≡◌ {A = Result Event why.Why} (Err whys.Unpublished) (Ok e) = rw at at is in cc)
    by (Some file) at = slice file at (nat_le (first + len) (length file)) refl (rw at at is)
arriving_true shelf (Lose n) e is = by (file_on shelf n) refl
  where
    by : (o : Option (List ℕ)) → file_on shelf n ≡ o → IsTrueOf shelf e
    by None at = absurd (let u : ◌≡◌ {A = Result Event why.Why} (Err whys.Unpublished) (Ok e) = rw at at is in cc)
    by (Some file) at = let u : ◌≡◌ {A = Result Event why.Why} (Ok (Lost n)) (Ok e) = rw at at is in let v : Lost n ≡ e = cc in subst (IsTrueOf shelf) v tt

pub empty_over : (shelf : Shelf) → IsOver shelf []
empty_over shelf = record { size = λ n s e. absurd (cc); bytes = λ n place b e. absurd (cc) }

-- one more event
pub over_more : (shelf : Shelf) (h : History) (e : Event) (a : Answer) → IsOver shelf h → IsTrueOf shelf e → IsOver shelf ((e, a) ∷ h)
over_more shelf h (Offered m s) a o t = record { size = λ n q. by n q (is_noted a) (name_eq m n) refl refl; bytes = o.bytes }
  where
    by : (n : Name) (q : ℕ) (x y : Bool) → is_noted a ≡ x → name_eq m n ≡ y → size_of ((Offered m s, a) ∷ h) n ≡ Some q → (file : List ℕ) × (file_on shelf n ≡ Some file)
        × (length file ≡ q)
    by n q true true u v e = let w : Some s ≡ Some q = rw (u, v) at e in (t.0, subst (λ (z : Name). file_on shelf z ≡ Some t.0) (name_is m n v) t.1, t.2 ∙ cc)
    by n q true false u v e = o.size n q (rw (u, v) at e)
    by n q false y u v e = o.size n q (rw u at e)
over_more shelf h (Piece m f total bs) a o t = record { size = o.size; bytes = λ n place b. by n place b (is_taken a) (name_eq m n) refl refl }
  where
    first : (n : Name) (place b : ℕ) → m ≡ n → (x : Option ℕ) → kept h n place ≡ x → or_else x (byte_at f bs place) ≡ Some b
        → (file : List ℕ) × (file_on shelf n ≡ Some file) × (slice_get file place ≡ Some b)
    first n place b same None at e = (t.0, subst (λ (z : Name). file_on shelf z ≡ Some t.0) same t.1, t.2 place b e)
    first n place b same (Some x) at e = o.bytes n place b (at ∙ e)

    by : (n : Name) (place b : ℕ) (x y : Bool) → is_taken a ≡ x → name_eq m n ≡ y → kept ((Piece m f total bs, a) ∷ h) n place ≡ Some b
        → (file : List ℕ) × (file_on shelf n ≡ Some file) × (slice_get file place ≡ Some b)
    by n place b true true u v e = first n place b (name_is m n v) (kept h n place) refl (rw (u, v) at e)
    by n place b true false u v e = o.bytes n place b (rw (u, v) at e)
    by n place b false y u v e = o.bytes n place b (rw u at e)
over_more shelf h (Lost m) a o t = record { size = o.size; bytes = o.bytes }

-- more files are published
pub over_grown : (old new : Shelf) (h : History) → ((n : Name) (file : List ℕ) → file_on old n ≡ Some file → file_on new n ≡ Some file) → IsOver old h → IsOver new h
over_grown old new h grown o = record { size = λ n s e. (let x = o.size n s e in (x.0, grown n x.0 x.1, x.2)); bytes = λ n place b e. (let x = o.bytes n place b e in (x.0, grown n x.0 x.1, x.2)) }

pub keeps_all : (h : History) → Keeps h h
keeps_all h = record { size = λ n s e. e; bytes = λ n place b e. e }

pub keeps_on : (h k l : History) → Keeps h k → Keeps k l → Keeps h l
keeps_on h k l x y = record { size = λ n s e. y.size n s (x.size n s e); bytes = λ n place b e. y.bytes n place b (x.bytes n place b e) }

-- one more event changes nothing that is known of a release
pub keeps_more : (shelf : Shelf) (h : History) (e : Event) (a : Answer) → IsOver shelf h → IsTrueOf shelf e → Keeps h ((e, a) ∷ h)
keeps_more shelf h (Offered m s) a o t = record { size = λ n q. by n q (is_noted a) (name_eq m n) refl refl; bytes = λ n place b e. e }
  where
    by : (n : Name) (q : ℕ) (x y : Bool) → is_noted a ≡ x → name_eq m n ≡ y → size_of h n ≡ Some q → size_of ((Offered m s, a) ∷ h) n ≡ Some q
    by n q true true u v e =
        let x = o.size n q e in
        let same : t.0 ≡ x.0 = same_some (file_on shelf n) t.0 x.0 (subst (λ (z : Name). file_on shelf z ≡ Some t.0) (name_is m n v) t.1) x.1 in
        rw (u, v) (ap Some (sym t.2 ∙ ap length same ∙ x.2))
    by n q true false u v e = rw (u, v) e
    by n q false y u v e = rw u e
keeps_more shelf h (Piece m f total bs) a o t = record { size = λ n s e. e; bytes = λ n place b. by n place b (is_taken a) (name_eq m n) refl refl }
  where
    by : (n : Name) (place b : ℕ) (x y : Bool) → is_taken a ≡ x → name_eq m n ≡ y → kept h n place ≡ Some b → kept ((Piece m f total bs, a) ∷ h) n place ≡ Some b
    by n place b true true u v e = rw (u, v, e) refl
    by n place b true false u v e = rw (u, v) e
    by n place b false y u v e = rw u e
keeps_more shelf h (Lost m) a o t = record { size = λ n s e. e; bytes = λ n place b e. e }

-- a whole file over published files is the published file
pub file_published : (shelf : Shelf) (h : History) (n : Name) (text : List ℕ) → IsOver shelf h → IsFile h n text → file_on shelf n ≡ Some text
file_published shelf h n text o f = x.1 ∙ ap Some (same_list x.0 text x.2 each)
  where
    x : (file : List ℕ) × (file_on shelf n ≡ Some file) × (length file ≡ length text)
    x = o.size n (length text) f.0

    each : (i : ℕ) → i < length x.0 → slice_get x.0 i ≡ slice_get text i
    each i lt =
        let g = get_some text i (omega (arith, x.2)) in
        let k = o.bytes n i g.0 (f.1 i (omega (arith, x.2)) ∙ g.1) in
        let same : k.0 ≡ x.0 = same_some (file_on shelf n) k.0 x.0 k.1 x.1 in
        ap (λ (z : List ℕ). slice_get z i) (sym same) ∙ k.2 ∙ sym g.1

-- what is whole stays whole, and good
pub file_kept : (h k : History) (n : Name) (text : List ℕ) → Keeps h k → IsFile h n text → IsFile k n text
file_kept h k n text s f = (s.size n (length text) f.0, λ place lt. (let g = get_some text place lt in s.bytes n place g.0 (f.1 place lt ∙ g.1) ∙ sym g.1))

pub good_kept : (h k : History) (n : Name) → Keeps h k → IsGood h n → IsGood k n
good_kept h k n s g = (g.0, file_kept h k n g.0 s g.1, g.2)

-- where a release was active, a later report names it or one of a later day
pub later_report : (h k : History) (key : List ℕ) (n : Name) (o : Option Name) → Keeps h k → Reports h key (Some n) → Reports k key o → (m : Name) × (o ≡ Some m) × (m.package_name ≡ key)
    × (n.day ≤ℤ m.day)
later_report h k key n None s x y = absurd (y n x.0 (good_kept h k n s x.1.0))
later_report h k key n (Some m) s x y = (m, refl, y.0, y.1.1 n (x.0 ∙ sym y.0) (good_kept h k n s x.1.0))

-- histories that have the same of each release of a package report the same of it
good_alike : (h k : History) (key : List ℕ) (n : Name) → HasAlike h k key → n.package_name ≡ key → IsGood h n → IsGood k n
good_alike h k key n s e g = (g.0, (sym (s.size n e) ∙ g.1.0, λ place lt. sym (s.bytes n e place) ∙ g.1.1 place lt), g.2)

turned : (h k : History) (key : List ℕ) → HasAlike h k key → HasAlike k h key
turned h k key s = record { size = λ n e. sym (s.size n e); bytes = λ n e place. sym (s.bytes n e place) }

reports_as : (h k : History) (key : List ℕ) (o : Option Name) → HasAlike h k key → Reports h key o → Reports k key o
reports_as h k key None s x = λ m e g. x m e (good_alike k h key m (turned h k key s) e g)
reports_as h k key (Some n) s x = (x.0, (good_alike h k key n s x.0 x.1.0, λ m e g. x.1.1 m e (good_alike k h key m (turned h k key s) (e ∙ x.0) g)))

pub reports_alike : (h k : History) (key : List ℕ) (o p : Option Name) → HasAlike h k key → Reports h key o → Reports k key p → o ≡ p
reports_alike h k key o p s x y = reports_one k key o p (reports_as h k key o s x) y

-- a whole release that is the latest of the good published files of its package is active
pub latest_active : (shelf : Shelf) (h : History) (n : Name) (file : List ℕ) → IsOver shelf h → IsWhole h n → file_on shelf n ≡ Some file → fault_of file ≡ None
    → ((m : Name) (f : List ℕ) → m.package_name ≡ n.package_name → file_on shelf m ≡ Some f → fault_of f ≡ None → m.day ≤ℤ n.day) → IsActive h n
latest_active shelf h n file o w at good latest =
    let same : w.0 ≡ file = same_some (file_on shelf n) w.0 file (file_published shelf h n w.0 o w.1) at in
    ((w.0, w.1, ap fault_of same ∙ good), λ m e g. latest m g.0 e (file_published shelf h m g.0 o g.1) g.2)
