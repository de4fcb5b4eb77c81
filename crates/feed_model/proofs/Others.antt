-- A step that touches one release leaves the others as they were.
use Rattle.std.proofs.Common.{◌≡◌, ◌≢◌, ℕ, List, Option, Some, None, MatchOption, ◌⊎◌, inl, inr, sym, ◌∙◌, subst}
use Rattle.feed_names.specs.ReleaseName.{Name}
use Rattle.feed_model.specs.declared.state.State.{State}
use Rattle.feed_model.specs.declared.state.State.TheVariants.{Staged, Broken, Active}
use Rattle.feed_model.specs.History.{History, size_of, kept, IsFile, IsGood, IsHeld}
use Rattle.feed_model.specs.Content.{Record, IsState, IsRecord}
use Rattle.feed_model.proofs.Names.{name_cases}
use Rattle.feed_model.proofs.Goods.{SameGood, same_back, active_same, held_same, reason_there}

-- other releases keep their size and their bytes
pub record SameBut (n : Name) (h k : History) : Type 0 where
  pub size : (m : Name) → m ≢ n → size_of k m ≡ size_of h m
  pub bytes : (m : Name) → m ≢ n → (place : ℕ) → kept k m place ≡ kept h m place

pub file_same : (n m : Name) (h k : History) → SameBut n h k → m ≢ n → (text : List ℕ) → IsFile h m text → IsFile k m text
file_same n m h k s apart text f = (s.size m apart ∙ f.0, λ place lt. s.bytes m apart place ∙ f.1 place lt)

pub file_back : (n m : Name) (h k : History) → SameBut n h k → m ≢ n → (text : List ℕ) → IsFile k m text → IsFile h m text
file_back n m h k s apart text f = (sym (s.size m apart) ∙ f.0, λ place lt. sym (s.bytes m apart place) ∙ f.1 place lt)

pub good_other : (n m : Name) (h k : History) → SameBut n h k → m ≢ n → IsGood h m → IsGood k m
good_other n m h k s apart g = (g.0, file_same n m h k s apart g.0 g.1, g.2)

pub good_back : (n m : Name) (h k : History) → SameBut n h k → m ≢ n → IsGood k m → IsGood h m
good_back n m h k s apart g = (g.0, file_back n m h k s apart g.0 g.1, g.2)

-- where n is good neither before nor after, the same releases are good
pub goods_but : (n : Name) (h k : History) → SameBut n h k → (IsGood h n → ⊥) → (IsGood k n → ⊥) → SameGood h k
goods_but n h k s before now = record { there = there; back = back }
  where
    there : (m : Name) → IsGood h m → IsGood k m
    there m g = by (name_cases m n)
      where
        by : (m ≡ n) ⊎ (m ≢ n) → IsGood k m
        by (inl e) = absurd (before (subst (IsGood h) e g))
        by (inr apart) = good_other n m h k s apart g

    back : (m : Name) → IsGood k m → IsGood h m
    back m g = by (name_cases m n)
      where
        by : (m ≡ n) ⊎ (m ≢ n) → IsGood h m
        by (inl e) = absurd (now (subst (IsGood k) e g))
        by (inr apart) = good_back n m h k s apart g

-- a record of another release stays right, where the same releases are good
pub record_same : (n m : Name) (h k : History) → SameBut n h k → SameGood h k → m ≢ n → (r : Record) → IsRecord h m r → IsRecord k m r
record_same n m h k s g apart r is = record {
  held = held_same h k g m (sym (s.size m apart)) is.held;
  size = s.size m apart ∙ is.size;
  bytes = λ place. is.bytes place ∙ sym (s.bytes m apart place);
  parts = is.parts;
  state = state r.state is.state;
  reason = reason_there h k m (file_same n m h k s apart) r.state r.reason is.reason;
}
  where
    state : (st : State) → IsState h m st → IsState k m st
    state Staged w = λ f. w (f.0, file_back n m h k s apart f.0 f.1)
    state Active a = active_same h k g m a
    state Broken b = (b.0, file_same n m h k s apart b.0 b.1, b.2)

none_same : (n m : Name) (h k : History) → SameBut n h k → SameGood h k → m ≢ n → (¬ (IsHeld h m)) → ¬ (IsHeld k m)
none_same n m h k s g apart out = λ held. out (held_same k h (same_back h k g) m (s.size m apart) held)

-- the other names, where the look-ups stay the same
pub each_same : (n m : Name) (h k : History) → SameBut n h k → SameGood h k → m ≢ n → (o : Option Record) → MatchOption o (¬ (IsHeld h m)) (IsRecord h m)
    → MatchOption o (¬ (IsHeld k m)) (IsRecord k m)
each_same n m h k s g apart None out = none_same n m h k s g apart out
each_same n m h k s g apart (Some r) is = record_same n m h k s g apart r is
