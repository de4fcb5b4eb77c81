-- An answer that adds nothing.
use Rattle.std.proofs.Common.{◌≡◌, ℕ, false, ◌∷◌, Option, Some, None, MatchOption, refl, sym, ◌∙◌}
use Rattle.feed_names.specs.ReleaseName.{Name}
use Rattle.feed_model.specs.declared.state.State.{State}
use Rattle.feed_model.specs.declared.state.State.TheVariants.{Staged, Broken, Active}
use Rattle.feed_model.specs.History.{Event, Offered, Piece, Lost, History, Answer, is_noted, is_taken, size_of, kept, IsHeld}
use Rattle.feed_model.specs.Reply.{IsRightWith}
use Rattle.feed_model.specs.Content.{Record, Content, record_of, IsState, IsRecord, IsContentWithin, within}
use Rattle.feed_model.specs.Handles.{Handles}
use Rattle.feed_model.proofs.Goods.{SameGood, same_back, active_same, held_same, IsStill, file_there, file_back_again, goods_still, reason_there}

size_idle : (h : History) (e : Event) (a : Answer) → is_noted a ≡ false → (n : Name) → size_of ((e, a) ∷ h) n ≡ size_of h n
size_idle h (Offered m s) a out n = rw out refl
size_idle h (Piece m f t b) a out n = refl
size_idle h (Lost m) a out n = refl

kept_idle : (h : History) (e : Event) (a : Answer) → is_taken a ≡ false → (n : Name) (place : ℕ) → kept ((e, a) ∷ h) n place ≡ kept h n place
kept_idle h (Offered m s) a out n place = refl
kept_idle h (Piece m f t b) a out n place = rw out refl
kept_idle h (Lost m) a out n place = refl

pub idle : {most : ℕ} (c : Content) (h : History) (e : Event) (a : Answer) → IsContentWithin most c h → is_noted a ≡ false → is_taken a ≡ false → IsRightWith most h e a
    → IsContentWithin most c ((e, a) ∷ h)
idle c h e a is noted taken right = record { legal = (right, is.legal); distinct = is.distinct; each = λ n. by n (record_of c n) (is.each n) }
  where
    k : History
    k = (e, a) ∷ h

    still : IsStill h k
    still = record { size = λ n. size_idle h e a noted n; bytes = λ n place. kept_idle h e a taken n place }

    goods : SameGood h k
    goods = goods_still h k still

    by : (n : Name) (o : Option Record) → MatchOption o (¬ (IsHeld h n)) (IsRecord h n) → MatchOption o (¬ (IsHeld k n)) (IsRecord k n)
    by n None out = λ held. out (held_same k h (same_back h k goods) n (size_idle h e a noted n) held)
    by n (Some r) x = record {
      held = held_same h k goods n (sym (size_idle h e a noted n)) x.held;
      size = size_idle h e a noted n ∙ x.size;
      bytes = λ place. x.bytes place ∙ sym (kept_idle h e a taken n place);
      parts = x.parts;
      state = state r.state x.state;
      reason = reason_there h k n (file_there h k still n) r.state r.reason x.reason;
    }
      where
        state : (s : State) → IsState h n s → IsState k n s
        state Staged w = λ f. w (f.0, file_back_again h k still n f.0 f.1)
        state Active act = active_same h k goods n act
        state Broken b = (b.0, file_there h k still n b.0 b.1, b.2)

-- so it leaves the content as it was
pub unchanged : {most : ℕ} (c : Content) (e : Event) (a : Answer) → is_noted a ≡ false → is_taken a ≡ false → ((h : History) → IsContentWithin most c h → IsRightWith most h e a)
    → Handles (within most c) e a (within most c)
unchanged c e a noted taken right = λ h is. (right h is, idle c h e a is noted taken (right h is))
