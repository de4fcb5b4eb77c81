-- A history of a feed is one of a feed with more room, without the offers that found it full.
use Rattle.std.proofs.Common.{◌≡◌, ◌≢◌, ◌<◌, ◌≤◌, ◌↔◌, ℕ, suc, Bool, true, false, List, [], ◌∷◌, length, get_or, Option, Some, None, Ok, Err, MatchOption, All}
use Rattle.std.proofs.Common.{inl, inr, refl, sym, ◌∙◌, ap, subst, arith}
use Rattle.std.specs.List.{AllByRecursion, Contains, list_any}
use Rattle.std.proofs.lemmas.Map.Views.{Contains-from_any}
use Rattle.feed_names.specs.ReleaseName.{Name, name_eq}
use Rattle.feed_model.specs.declared.state.State.{State}
use Rattle.feed_model.specs.declared.state.State.TheVariants.{Staged, Broken, Active}
use Rattle.feed_model.specs.declared.reply.Refusal.TheVariants as refusals
use Rattle.feed_model.specs.History.{Event, Offered, Piece, Lost, History, Answer, IsHeld, Reports}
use Rattle.feed_model.specs.Reply.{HoldsNumber, limits_of, IsRightWith, IsLegalWith}
use Rattle.feed_model.specs.Content.{Record, Content, record_of, IsReason, IsState, IsRecord, IsContentWithin, within}
use Rattle.feed_model.specs.Earlier.{IsSameRelease}
use Rattle.feed_model.specs.Larger.{is_full, IsNeverFull, without_full, IsMovedUp}
use Rattle.feed_model.proofs.Names.{name_is, name_self}
use Rattle.feed_model.proofs.Goods.{held_same, IsStill, file_there, goods_still, reason_there}
use Rattle.feed_model.proofs.Held.{AreHeld, held_limit}
use Rattle.feed_model.proofs.Earlier.{still_self, still_step, right_still, same_release, same_reports, state_still, held_moves}

-- the offers that found the feed full say nothing of a release

still_full : (h k : History) (e : Event) (a : Answer) → is_full (e, a) ≡ true → IsStill h k → IsStill ((e, a) ∷ h) k
still_full h k (Offered m x) (Err refusals.Full) is s = record { size = s.size; bytes = s.bytes }
still_full h k (Offered m x) (Ok r) is s = absurd (cc)
still_full h k (Offered m x) (Err refusals.TooLarge) is s = absurd (cc)
still_full h k (Offered m x) (Err refusals.WrongSize) is s = absurd (cc)
still_full h k (Offered m x) (Err refusals.BadPiece) is s = absurd (cc)
still_full h k (Offered m x) (Err refusals.Unknown) is s = absurd (cc)
still_full h k (Offered m x) (Err refusals.Outside) is s = absurd (cc)
still_full h k (Offered m x) (Err refusals.Conflict) is s = absurd (cc)
still_full h k (Offered m x) (Err refusals.Memory) is s = absurd (cc)
still_full h k (Offered m x) (Err refusals.Device) is s = absurd (cc)
still_full h k (Piece m f t b) a is s = absurd (cc)
still_full h k (Lost m) a is s = absurd (cc)

still_without_full : (h : History) → IsStill h (without_full h)
still_without_full [] = still_self []
still_without_full ((e, a) ∷ h) = by (is_full (e, a)) refl (still_without_full h)
  where
    by : (x : Bool) → is_full (e, a) ≡ x → IsStill h (without_full h) → IsStill ((e, a) ∷ h) (without_full ((e, a) ∷ h))
    by true is s = rw is (still_full h (without_full h) e a is s)
    by false is s = rw is (still_step h (without_full h) e a s)

-- all releases that are held are held

all_held_in : (h : History) (ns : List Name) → ((n : Name) → list_any (name_eq n) ns ≡ true → IsHeld h n) → AreHeld h ns
all_held_in h [] held = tt
all_held_in h (x ∷ xs) held = (held x (here (name_eq x x) refl), all_held_in h xs (λ n e. held n (there n (name_eq n x) refl e)))
  where
    here : (b : Bool) → name_eq x x ≡ b → list_any (name_eq x) (x ∷ xs) ≡ true
    here true e = rw e refl
    here false e = absurd (let u : true ≡ false = sym (name_self x) ∙ e in cc)

    there : (n : Name) (b : Bool) → name_eq n x ≡ b → list_any (name_eq n) xs ≡ true → list_any (name_eq n) (x ∷ xs) ≡ true
    there n true t e = rw t refl
    there n false t e = rw t e

-- a feed with room for more that holds as many as it may would have as much room
number_down : (small large : ℕ) (h : History) → small ≤ large → IsLegalWith small h → HoldsNumber h large → HoldsNumber h small
number_down small large h le legal (ns, distinct, each, count) =
    let few : length ns ≤ small = held_limit small h legal ns distinct (all_held_in h ns (λ n e. (each n).1 (Contains-from_any name_is n ns e))) in
    (ns, distinct, each, omega (arith, few, count, le))

-- an answer that is right, and is no such refusal, is right with more room
right_up : (small large : ℕ) (h : History) (e : Event) (a : Answer) → small ≤ large → IsLegalWith small h → is_full (e, a) ≡ false → IsRightWith small h e a → IsRightWith large h e a
right_up small large h (Offered n size) a le legal other (inl past) = inl past
right_up small large h (Offered n size) a le legal other (inr (fits, inl passed)) = inr (fits, inl passed)
right_up small large h (Offered n size) a le legal other (inr (fits, inr (ahead, inl held))) = inr (fits, inr (ahead, inl held))
right_up small large h (Offered n size) a le legal other (inr (fits, inr (ahead, inr (out, inl (full, e))))) =
    absurd (let u : is_full (Offered n size, a) ≡ true = ap (λ (x : Answer). is_full (Offered n size, x)) e in cc)
right_up small large h (Offered n size) a le legal other (inr (fits, inr (ahead, inr (out, inr (room, last))))) =
    inr (fits, inr (ahead, inr (out, inr ((λ full. room (number_down small large h le legal full)), last))))
right_up small large h (Piece n first total bytes) a le legal other right = right
right_up small large h (Lost n) a le legal other right = right

pub legal_up : (small large : ℕ) (h : History) → small ≤ large → IsLegalWith small h → IsNeverFull h → IsLegalWith large h
legal_up small large [] le legal never = tt
legal_up small large ((e, a) ∷ h) le legal never = (
  right_up small large h e a le legal.1 (never 0 (e, a) (omega arith)) legal.0,
  legal_up small large h le legal.1 (λ k d lt. never (suc k) d (omega arith)),
)

legal_without : (small large : ℕ) (h : History) → small ≤ large → IsLegalWith small h → IsLegalWith large (without_full h)
legal_without small large [] le legal = tt
legal_without small large ((e, a) ∷ h) le legal = by (is_full (e, a)) refl (legal_without small large h le legal.1)
  where
    by : (x : Bool) → is_full (e, a) ≡ x → IsLegalWith large (without_full h) → IsLegalWith large (without_full ((e, a) ∷ h))
    by true is rest = rw is rest
    by false is rest = rw is (right_still (limits_of large) h (without_full h) e a (still_without_full h) (right_up small large h e a le legal.1 is legal.0), rest)

-- the records

record_still : (h k : History) → IsStill h k → (n : Name) (r : Record) → IsRecord h n r → IsRecord k n r
record_still h k s n r is = record {
  held = (held_moves h k s n).0 is.held;
  size = s.size n ∙ is.size;
  bytes = λ place. is.bytes place ∙ sym (s.bytes n place);
  parts = is.parts;
  state = state_still h k s n r.state is.state;
  reason = reason_there h k n (file_there h k s n) r.state r.reason is.reason;
}

each_still : (h k : History) → IsStill h k → (n : Name) (o : Option Record) → MatchOption o (¬ (IsHeld h n)) (IsRecord h n) → MatchOption o (¬ (IsHeld k n)) (IsRecord k n)
each_still h k s n None out = λ held. out ((held_moves h k s n).1 held)
each_still h k s n (Some r) is = record_still h k s n r is

pub moved_up : (small large : ℕ) (c : Content) (h : History) → small ≤ large → IsContentWithin small c h → IsMovedUp large c h (without_full h)
moved_up small large c h le is =
    let s = still_without_full h in
    record {
      content = record {
        legal = legal_without small large h le is.legal;
        distinct = is.distinct;
        each = λ n. each_still h (without_full h) s n (record_of c n) (is.each n);
      };
      releases = same_release h (without_full h) s;
      reports = same_reports h (without_full h) s;
    }
