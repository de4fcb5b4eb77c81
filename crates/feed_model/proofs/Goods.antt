-- Consequences if the good releases stay the same.
use Rattle.std.proofs.Common.{◌≡◌, ℕ, List, Option, sym, ◌∙◌, IsSome, subst}
use Rattle.feed_names.specs.ReleaseName.{Name}
use Rattle.feed_kbart.specs.declared.fault.BadFile.{BadFile}
use Rattle.feed_model.specs.declared.state.State.{State}
use Rattle.feed_model.specs.declared.state.State.TheVariants.{Staged, Broken, Active}
use Rattle.feed_model.specs.History.{History, size_of, kept, IsFile, IsGood, IsActive, IsPassed, IsHeld}
use Rattle.feed_model.specs.Content.{IsReason}

pub record SameGood (h k : History) : Type 0 where
  pub there : (m : Name) → IsGood h m → IsGood k m
  pub back : (m : Name) → IsGood k m → IsGood h m

pub same_back : (h k : History) → SameGood h k → SameGood k h
same_back h k s = record { there = s.back; back = s.there }

pub active_same : (h k : History) → SameGood h k → (n : Name) → IsActive h n → IsActive k n
active_same h k s n a = (s.there n a.0, λ m e g. a.1 m e (s.back m g))

pub passed_same : (h k : History) → SameGood h k → (n : Name) → IsPassed h n → IsPassed k n
passed_same h k s n p = (p.0, active_same h k s p.0 p.1, p.2)

pub held_same : (h k : History) → SameGood h k → (n : Name) → size_of h n ≡ size_of k n → IsHeld h n → IsHeld k n
held_same h k s n e held = (subst IsSome e held.0, λ p. held.1 (passed_same k h (same_back h k s) n p))

-- a step that changes no size and no byte
pub record IsStill (h k : History) : Type 0 where
  pub size : (n : Name) → size_of k n ≡ size_of h n
  pub bytes : (n : Name) (place : ℕ) → kept k n place ≡ kept h n place

pub file_there : (h k : History) → IsStill h k → (n : Name) (text : List ℕ) → IsFile h n text → IsFile k n text
file_there h k s n text f = (s.size n ∙ f.0, λ place lt. s.bytes n place ∙ f.1 place lt)

pub file_back_again : (h k : History) → IsStill h k → (n : Name) (text : List ℕ) → IsFile k n text → IsFile h n text
file_back_again h k s n text f = (sym (s.size n) ∙ f.0, λ place lt. sym (s.bytes n place) ∙ f.1 place lt)

pub goods_still : (h k : History) → IsStill h k → SameGood h k
goods_still h k s = record { there = λ m g. (g.0, file_there h k s m g.0 g.1, g.2); back = λ m g. (g.0, file_back_again h k s m g.0 g.1, g.2) }

-- a reason stays, where the file does
pub reason_there : (h k : History) (n : Name) → ((text : List ℕ) → IsFile h n text → IsFile k n text) → (s : State) (o : Option BadFile) → IsReason h n s o → IsReason k n s o
reason_there h k n file Staged o is = is
reason_there h k n file Active o is = is
reason_there h k n file Broken o is = (is.0, file is.0 is.1, is.2)
