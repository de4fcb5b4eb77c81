-- A piece that is kept.
use Rattle.std.proofs.Common.{◌≡◌, ◌≢◌, ℕ, Bool, true, false, List, ◌∷◌, Option, Some, None, MatchOption, ◌⊎◌, inl, inr, refl, sym, ◌∙◌, ap, subst}
use Rattle.feed_names.specs.ReleaseName.{Name, name_eq}
use Rattle.feed_kbart.specs.declared.fault.BadFile.{BadFile}
use Rattle.feed_model.specs.declared.state.State.{State}
use Rattle.feed_model.specs.declared.state.State.TheVariants.{Staged}
use Rattle.feed_model.specs.History.{Piece, History, Answer, is_taken, or_else, byte_at, kept, IsWhole, IsGood, IsHeld}
use Rattle.feed_model.specs.Reply.{IsRightWith, kept_with}
use Rattle.feed_model.specs.Content.{Part, Record, Content, record_of, byte_in, AreParts, IsState, IsReason, IsRecord, IsContentWithin}
use Rattle.feed_model.specs.Change.{merged, grown, broken_with, changed}
use Rattle.feed_model.proofs.Names.{name_self, name_apart, name_cases}
use Rattle.feed_model.proofs.Goods.{SameGood, held_same}
use Rattle.feed_model.proofs.Lookups.{record_of-changed, record_of-changed_here}
use Rattle.feed_model.proofs.Distinct.{distinct-changed}
use Rattle.feed_model.proofs.Others.{SameBut, goods_but, each_same}
use Rattle.feed_model.proofs.Tests.{of_record}

-- A piece of n is kept: its record is staged, and the new parts have what the piece adds.
pub record Keeps (most : ℕ) (c : Content) (h : History) (n : Name) (first : ℕ) (bytes : List ℕ) (r : Record) (ps : List Part) : Type 0 where
  pub content : IsContentWithin most c h
  pub found : record_of c n ≡ Some r
  pub staged : r.state ≡ Staged
  pub parts : AreParts (merged r.parts ps)
  pub new : (place : ℕ) → byte_in (merged r.parts ps) place ≡ or_else (byte_in r.parts place) (byte_at first bytes place)

-- what is kept of n afterwards
pub kept_here : (h : History) (n : Name) (f : ℕ) (t : Option ℕ) (b : List ℕ) (a : Answer) → is_taken a ≡ true → (place : ℕ)
    → kept ((Piece n f t b, a) ∷ h) n place ≡ kept_with h n f b place
kept_here h n f t b a taken place = rw (taken, name_self n) refl

pub keeps_but : (h : History) (n : Name) (f : ℕ) (t : Option ℕ) (b : List ℕ) (a : Answer) → SameBut n h ((Piece n f t b, a) ∷ h)
keeps_but h n f t b a = record { size = λ m apart. refl; bytes = bytes }
  where
    bytes : (m : Name) → m ≢ n → (place : ℕ) → kept ((Piece n f t b, a) ∷ h) m place ≡ kept h m place
    bytes m apart place = by (is_taken a) refl
      where
        off : name_eq n m ≡ false
        off = name_apart n m (λ e. apart (sym e))

        by : (x : Bool) → is_taken a ≡ x → kept ((Piece n f t b, a) ∷ h) m place ≡ kept h m place
        by true s = rw (s, off) refl
        by false s = rw s refl

pub grown_bytes : {most : ℕ} (c : Content) (h : History) (n : Name) (f : ℕ) (t : Option ℕ) (b : List ℕ) (a : Answer) (r : Record) (ps : List Part) → Keeps most c h n f b r ps → is_taken a ≡ true
    → (place : ℕ) → byte_in (merged r.parts ps) place ≡ kept ((Piece n f t b, a) ∷ h) n place
grown_bytes c h n f t b a r ps k taken place = k.new place ∙ ap (λ o. or_else o (byte_at f b place)) ((of_record c h n r k.content k.found).bytes place) ∙ sym (kept_here h n f t b a taken place)

-- staged, it was not good before
pub not_before : {most : ℕ} (c : Content) (h : History) (n : Name) (r : Record) → IsContentWithin most c h → record_of c n ≡ Some r → r.state ≡ Staged → (IsWhole h n → ⊥)
not_before c h n r is found staged = let s = (of_record c h n r is found).state in subst (IsState h n) staged s

-- a change that keeps name and size, and adds the parts
pub record IsGrown (ps : List Part) (grow : Record → Record) (r : Record) : Type 0 where
  pub name : (x : Record) → (grow x).name ≡ x.name
  pub size : (grow r).size ≡ r.size
  pub parts : (grow r).parts ≡ merged r.parts ps

pub grown_is : (ps : List Part) (s : State) (r : Record) → IsGrown ps (grown ps s) r
grown_is ps s r = record { name = λ x. refl; size = refl; parts = refl }

pub broken_is : (ps : List Part) (why : BadFile) (r : Record) → IsGrown ps (broken_with ps why) r
broken_is ps why r = record { name = λ x. refl; size = refl; parts = refl }

-- staged, it has no reason
pub no_reason : {most : ℕ} (c : Content) (h : History) (n : Name) (r : Record) → IsContentWithin most c h → record_of c n ≡ Some r → r.state ≡ Staged → r.reason ≡ None
no_reason c h n r is found staged = let x = (of_record c h n r is found).reason in subst (λ (s : State). IsReason h n s r.reason) staged x

-- It isn't good afterwards: nothing else changes.
pub piece_moves : {most : ℕ} (c : Content) (h : History) (n : Name) (f : ℕ) (t : Option ℕ) (b : List ℕ) (a : Answer) (r : Record) (ps : List Part) (grow : Record → Record)
    → IsGrown ps grow r → Keeps most c h n f b r ps → is_taken a ≡ true → IsRightWith most h (Piece n f t b) a
    → (IsGood ((Piece n f t b, a) ∷ h) n → ⊥) → IsState ((Piece n f t b, a) ∷ h) n (grow r).state → IsReason ((Piece n f t b, a) ∷ h) n (grow r).state (grow r).reason
    → IsContentWithin most (changed n grow c) ((Piece n f t b, a) ∷ h)
piece_moves c h n f t b a r ps grow grows keeps taken right now state reason = record {
  legal = (right, keeps.content.legal);
  distinct = distinct-changed n grow grows.name c keeps.content.distinct;
  each = λ m. by m (name_cases m n);
}
  where
    k : History
    k = (Piece n f t b, a) ∷ h

    was : IsRecord h n r
    was = of_record c h n r keeps.content keeps.found

    but : SameBut n h k
    but = keeps_but h n f t b a

    goods : SameGood h k
    goods = goods_but n h k but (λ g. not_before c h n r keeps.content keeps.found keeps.staged (g.0, g.1)) now

    mine : IsRecord k n (grow r)
    mine = record {
      held = held_same h k goods n refl was.held;
      size = was.size ∙ ap (λ s. Some s) (sym grows.size);
      bytes = λ place. ap (λ qs. byte_in qs place) grows.parts ∙ grown_bytes c h n f t b a r ps keeps taken place;
      parts = subst AreParts (sym grows.parts) keeps.parts;
      state = state;
      reason = reason;
    }

    by : (m : Name) → (m ≡ n) ⊎ (m ≢ n) → MatchOption (record_of (changed n grow c) m) (¬ (IsHeld k m)) (IsRecord k m)
    by m (inl e) =
        let found : record_of (changed n grow c) n ≡ Some (grow r) = record_of-changed_here n grow grows.name c r keeps.found in
        subst (λ (x : Name). MatchOption (record_of (changed n grow c) x) (¬ (IsHeld k x)) (IsRecord k x)) (sym e) (rw found mine)
    by m (inr apart) =
        let found : record_of (changed n grow c) m ≡ record_of c m = record_of-changed n grow grows.name c m apart in
        rw found (each_same n m h k but goods apart (record_of c m) (keeps.content.each m))
