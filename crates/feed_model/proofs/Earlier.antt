-- A content of an earlier version is a content now.
use Rattle.std.proofs.Common.{◌≡◌, ◌≢◌, ◌<◌, ◌↔◌, ◌+◌, ℕ, Bool, true, false, List, [], ◌∷◌, length, Option, Some, None, Ok, Err, slice_get, IsSome, MatchOption}
use Rattle.std.proofs.Common.{inl, inr, refl, sym, ◌∙◌, ap, subst, arith}
use Rattle.std.specs.Prelude.{IsSomeAnd}
use Rattle.feed_names.specs.ReleaseName.{Name, name_eq}
use Rattle.feed_model.specs.declared.state.State.{State}
use Rattle.feed_model.specs.declared.state.State.TheVariants.{Staged, Broken, Active}
use Rattle.feed_model.specs.declared.reply.Reply.TheVariants as replies
use Rattle.feed_model.specs.declared.reply.Refusal.TheVariants as refusals
use Rattle.feed_model.specs.File.{fault_of}
use Rattle.feed_model.specs.History.{Event, Offered, Piece, Lost, History, Answer, or_else, byte_at, size_of, kept, IsFile, IsPassed, IsHeld, Reports}
use Rattle.feed_model.specs.Reply.{Case, HoldsNumber, Differs, IsKept, Stores, kept_with, missing_below, verdict, limits_of, max_held, Limits, IsRightWithin, IsRight, IsLegalWithin, IsLegal}
use Rattle.feed_model.specs.Content.{Record, Content, names, record_of, byte_in, IsText, IsState, IsReason, IsRecord, IsContent, within}
use Rattle.feed_model.specs.Sound.{Explains}
use Rattle.feed_model.specs.Earlier.{earlier_limits, is_refused, without_refused, IsEarlierRecord, IsEarlierContent, IsExplained, AreExplained, IsSameRelease}
use Rattle.feed_model.proofs.Goods.{same_back, active_same, passed_same, held_same, IsStill, file_there, file_back_again, goods_still}
use Rattle.feed_model.proofs.Arrivals.{missing_same}

-- Steps that add nothing.

pub still_self : (h : History) → IsStill h h
still_self h = record { size = λ n. refl; bytes = λ n place. refl }

still_back : (h k : History) → IsStill h k → IsStill k h
still_back h k s = record { size = λ n. sym (s.size n); bytes = λ n place. sym (s.bytes n place) }

-- the same step after histories that say the same
pub still_step : (h k : History) (e : Event) (a : Answer) → IsStill h k → IsStill ((e, a) ∷ h) ((e, a) ∷ k)
still_step h k (Offered m x) a s = record { size = size; bytes = s.bytes }
  where
    size : (n : Name) → size_of ((Offered m x, a) ∷ k) n ≡ size_of ((Offered m x, a) ∷ h) n
    size n = rw (s.size n) refl
still_step h k (Piece m f t b) a s = record { size = s.size; bytes = bytes }
  where
    bytes : (n : Name) (place : ℕ) → kept ((Piece m f t b, a) ∷ k) n place ≡ kept ((Piece m f t b, a) ∷ h) n place
    bytes n place = rw (s.bytes n place) refl
still_step h k (Lost m) a s = record { size = s.size; bytes = s.bytes }

-- an offer that was refused as too large says nothing of a release
still_refused : (h k : History) (e : Event) (a : Answer) → is_refused (e, a) ≡ true → IsStill h k → IsStill ((e, a) ∷ h) k
still_refused h k (Offered m x) (Err refusals.TooLarge) is s = record { size = s.size; bytes = s.bytes }
still_refused h k (Offered m x) (Ok r) is s = absurd (cc)
still_refused h k (Offered m x) (Err refusals.WrongSize) is s = absurd (cc)
still_refused h k (Offered m x) (Err refusals.Full) is s = absurd (cc)
still_refused h k (Offered m x) (Err refusals.BadPiece) is s = absurd (cc)
still_refused h k (Offered m x) (Err refusals.Unknown) is s = absurd (cc)
still_refused h k (Offered m x) (Err refusals.Outside) is s = absurd (cc)
still_refused h k (Offered m x) (Err refusals.Conflict) is s = absurd (cc)
still_refused h k (Offered m x) (Err refusals.Memory) is s = absurd (cc)
still_refused h k (Offered m x) (Err refusals.Device) is s = absurd (cc)
still_refused h k (Piece m f t b) a is s = absurd (cc)
still_refused h k (Lost m) a is s = absurd (cc)

pub still_without : (h : History) → IsStill h (without_refused h)
still_without [] = still_self []
still_without ((e, a) ∷ h) = by (is_refused (e, a)) refl (still_without h)
  where
    by : (x : Bool) → is_refused (e, a) ≡ x → IsStill h (without_refused h) → IsStill ((e, a) ∷ h) (without_refused ((e, a) ∷ h))
    by true is s = rw is (still_refused h (without_refused h) e a is s)
    by false is s = rw is (still_step h (without_refused h) e a s)

-- an answer that is right after a history is right after any other with the same facts

case_moves : {P Q A B C D : Type 0} → (P ↔ Q) → (A → B) → (C → D) → Case P A C → Case Q B D
case_moves same here after (inl (p, a)) = inl (same.0 p, here a)
case_moves same here after (inr (other, c)) = inr ((λ q. other (same.1 q)), after c)

alike : {P : Type 0} → (P ↔ P)
alike = (λ p. p, λ p. p)

not_moves : {P Q : Type 0} → (P ↔ Q) → (¬ P ↔ ¬ Q)
not_moves same = (λ f q. f (same.1 q), λ f p. f (same.0 p))

passed_moves : (h k : History) → IsStill h k → (n : Name) → (IsPassed h n ↔ IsPassed k n)
passed_moves h k s n = (passed_same h k (goods_still h k s) n, passed_same k h (same_back h k (goods_still h k s)) n)

pub held_moves : (h k : History) → IsStill h k → (n : Name) → (IsHeld h n ↔ IsHeld k n)
held_moves h k s n = (held_same h k (goods_still h k s) n (sym (s.size n)), held_same k h (same_back h k (goods_still h k s)) n (s.size n))

number_there : (h k : History) → IsStill h k → (i : ℕ) → HoldsNumber h i → HoldsNumber k i
number_there h k s i (ns, apart, each, count) = (ns, apart, (λ n. (λ held. (each n).0 ((held_moves h k s n).1 held), λ has. (held_moves h k s n).0 ((each n).1 has))), count)

number_moves : (h k : History) → IsStill h k → (i : ℕ) → (HoldsNumber h i ↔ HoldsNumber k i)
number_moves h k s i = (number_there h k s i, number_there k h (still_back h k s) i)

sized_moves : (h k : History) → IsStill h k → (n : Name) (size : ℕ) → ((size_of h n ≡ Some size) ↔ (size_of k n ≡ Some size))
sized_moves h k s n size = (λ e. s.size n ∙ e, λ e. sym (s.size n) ∙ e)

total_there : (h k : History) → IsStill h k → (n : Name) (total : Option ℕ) → IsSomeAnd total (λ t. size_of h n ≢ Some t) → IsSomeAnd total (λ t. size_of k n ≢ Some t)
total_there h k s n None other = other
total_there h k s n (Some t) other = λ e. other (sym (s.size n) ∙ e)

outside_there : (h k : History) → IsStill h k → (n : Name) (end : ℕ) → IsSomeAnd (size_of h n) (λ size. size < end) → IsSomeAnd (size_of k n) (λ size. size < end)
outside_there h k s n end past = subst (λ (o : Option ℕ). IsSomeAnd o (λ size. size < end)) (sym (s.size n)) past

differs_there : (h k : History) → IsStill h k → (n : Name) (first : ℕ) (bytes : List ℕ) → Differs h n first bytes → Differs k n first bytes
differs_there h k s n first bytes (place, x, y, is, at, other) = (place, x, y, s.bytes n place ∙ is, at, other)

kept_there : (h k : History) → IsStill h k → (n : Name) (first : ℕ) (bytes : List ℕ) → IsKept h n first bytes → IsKept k n first bytes
kept_there h k s n first bytes all = λ place some. subst IsSome (sym (s.bytes n place)) (all place some)

with_moves : (h k : History) → IsStill h k → (n : Name) (first : ℕ) (bytes : List ℕ) (place : ℕ) → kept_with k n first bytes place ≡ kept_with h n first bytes place
with_moves h k s n first bytes place = ap (λ o. or_else o (byte_at first bytes place)) (s.bytes n place)

stores_there : (h k : History) → IsStill h k → (n : Name) (first : ℕ) (bytes : List ℕ) (a : Answer) → Stores h n first bytes a → Stores k n first bytes a
stores_there h k s n first bytes a (inr refused) = inr refused
stores_there h k s n first bytes a (inl (size, sized, judged)) = inl (size, s.size n ∙ sized, by judged)
  where
    same : missing_below (kept_with h n first bytes) size ≡ missing_below (kept_with k n first bytes) size
    same = sym (missing_same (kept_with k n first bytes) (kept_with h n first bytes) (with_moves h k s n first bytes) size)

    by : Case (0 < missing_below (kept_with h n first bytes) size) (a ≡ Ok (replies.Stored (missing_below (kept_with h n first bytes) size)))
        ((text : List ℕ) × (length text ≡ size) × ((place : ℕ) → place < size → kept_with h n first bytes place ≡ slice_get text place) × (a ≡ Ok (verdict (fault_of text))))
        → Case (0 < missing_below (kept_with k n first bytes) size) (a ≡ Ok (replies.Stored (missing_below (kept_with k n first bytes) size)))
        ((text : List ℕ) × (length text ≡ size) × ((place : ℕ) → place < size → kept_with k n first bytes place ≡ slice_get text place) × (a ≡ Ok (verdict (fault_of text))))
    by (inl (some, e)) = inl (subst (λ (m : ℕ). 0 < m) same some, e ∙ ap (λ m. Ok (replies.Stored m)) same)
    by (inr (none, (text, len, at, e))) = inr ((λ some. none (subst (λ (m : ℕ). 0 < m) (sym same) some)), (text, len, (λ place lt. with_moves h k s n first bytes place ∙ at place lt), e))

pub right_still : (limit : Limits) (h k : History) (e : Event) (a : Answer) → IsStill h k → IsRightWithin limit h e a → IsRightWithin limit k e a
right_still limit h k (Offered n size) a s right =
    case_moves alike (λ e. e) (case_moves (passed_moves h k s n) (λ e. e)
    (case_moves (held_moves h k s n) (case_moves (sized_moves h k s n size) (λ e. e) (λ e. e))
    (case_moves (number_moves h k s limit.held) (λ e. e) (λ e. e)))) right
right_still limit h k (Piece n first total bytes) a s right =
    let t = still_back h k s in
    case_moves alike (λ e. e) (case_moves (passed_moves h k s n) (λ e. e)
    (case_moves (not_moves (held_moves h k s n)) (λ e. e)
    (case_moves (total_there h k s n total, total_there k h t n total) (λ e. e)
    (case_moves (outside_there h k s n (first + length bytes), outside_there k h t n (first + length bytes)) (λ e. e)
    (case_moves (differs_there h k s n first bytes, differs_there k h t n first bytes) (λ e. e)
    (case_moves (kept_there h k s n first bytes, kept_there k h t n first bytes) (λ e. e)
    (stores_there h k s n first bytes a))))))) right
right_still limit h k (Lost n) a s right = right

-- an answer that was right under the earlier limit, and was not a refusal as too large, is right now
right_now : (h : History) (e : Event) (a : Answer) → is_refused (e, a) ≡ false → IsRightWithin earlier_limits h e a → IsRight h e a
right_now h (Offered n size) a other (inl (past, e)) = absurd (let u : is_refused (Offered n size, a) ≡ true = ap (λ (x : Answer). is_refused (Offered n size, x)) e in cc)
right_now h (Offered n size) a other (inr (within, rest)) = inr ((λ past. within (omega (arith, past))), rest)
right_now h (Piece n first total bytes) a other right = right
right_now h (Lost n) a other right = right

pub legal_now : (h : History) → IsLegalWithin earlier_limits h → IsLegal (without_refused h)
legal_now [] legal = tt
legal_now ((e, a) ∷ h) legal = by (is_refused (e, a)) refl (legal_now h legal.1)
  where
    by : (x : Bool) → is_refused (e, a) ≡ x → IsLegal (without_refused h) → IsLegal (without_refused ((e, a) ∷ h))
    by true is rest = rw is rest
    by false is rest = rw is (right_still (limits_of max_held) h (without_refused h) e a (still_without h) (right_now h e a is legal.0), rest)

-- The records.

names_same : (c d : Content) → AreExplained c d → names d ≡ names c
names_same [] [] all = refl
names_same [] (s ∷ ss) all = absurd all
names_same (r ∷ rs) [] all = absurd all
names_same (r ∷ rs) (s ∷ ss) all = rw (all.0.name, names_same rs ss all.1) refl

-- the file of a release that is recorded so
file_of_parts : (k : History) (n : Name) (s : Record) (text : List ℕ) → size_of k n ≡ Some s.size → ((place : ℕ) → byte_in s.parts place ≡ kept k n place)
    → IsText s.size s.parts text → IsFile k n text
file_of_parts k n s text size bytes is = (size ∙ ap Some (sym is.count), λ place lt. sym (bytes place) ∙ is.bytes place (omega (arith, is.count, lt)))

reason_of_file : (k : History) (n : Name) (s : Record) → size_of k n ≡ Some s.size → ((place : ℕ) → byte_in s.parts place ≡ kept k n place)
    → (state : State) → Explains state s.size s.parts s.reason → IsReason k n state s.reason
reason_of_file k n s size bytes Staged is = is
reason_of_file k n s size bytes Active is = is
reason_of_file k n s size bytes Broken is = (is.0, file_of_parts k n s is.0 size bytes is.1, is.2)

pub state_still : (h k : History) → IsStill h k → (n : Name) (state : State) → IsState h n state → IsState k n state
state_still h k s n Staged lacks = λ w. lacks (w.0, file_back_again h k s n w.0 w.1)
state_still h k s n Active active = active_same h k (goods_still h k s) n active
state_still h k s n Broken bad = (bad.0, file_there h k s n bad.0 bad.1, bad.2)

record_now : (h k : History) → IsStill h k → (n : Name) (r s : Record) → IsExplained r s → IsEarlierRecord h n r → IsRecord k n s
record_now h k still n r s same is =
    let size : size_of k n ≡ Some s.size = still.size n ∙ is.size ∙ ap Some (sym same.size) in
    let bytes : (place : ℕ) → byte_in s.parts place ≡ kept k n place = λ place. ap (λ ps. byte_in ps place) same.parts ∙ is.bytes place ∙ sym (still.bytes n place) in
    record {
      held = (held_moves h k still n).0 is.held;
      size = size;
      bytes = bytes;
      parts = rw same.parts is.parts;
      state = state_still h k still n s.state (subst (IsState h n) (sym same.state) is.state);
      reason = reason_of_file k n s size bytes s.state same.reason;
    }

each_now : (h k : History) → IsStill h k → (n : Name) (c d : Content) → AreExplained c d → MatchOption (record_of c n) (¬ (IsHeld h n)) (IsEarlierRecord h n)
    → MatchOption (record_of d n) (¬ (IsHeld k n)) (IsRecord k n)
each_now h k still n [] [] all out = λ held. out ((held_moves h k still n).1 held)
each_now h k still n [] (s ∷ ss) all out = absurd all
each_now h k still n (r ∷ rs) [] all out = absurd all
each_now h k still n (r ∷ rs) (s ∷ ss) all is = by (name_eq r.name n) refl is (each_now h k still n rs ss all.1)
  where
    same : name_eq s.name n ≡ name_eq r.name n
    same = ap (λ m. name_eq m n) all.0.name

    by : (x : Bool) → name_eq r.name n ≡ x → MatchOption (record_of (r ∷ rs) n) (¬ (IsHeld h n)) (IsEarlierRecord h n)
        → (MatchOption (record_of rs n) (¬ (IsHeld h n)) (IsEarlierRecord h n) → MatchOption (record_of ss n) (¬ (IsHeld k n)) (IsRecord k n))
        → MatchOption (record_of (s ∷ ss) n) (¬ (IsHeld k n)) (IsRecord k n)
    by true here found again = rw (same, here) (record_now h k still n r s all.0 (rw here at found))
    by false here found again = rw (same, here) (again (rw here at found))

pub contents : (c d : Content) (h : History) → IsEarlierContent c h → AreExplained c d → IsContent (within max_held d) (without_refused h)
contents c d h is all = record {
  legal = legal_now h is.legal;
  distinct = rw (names_same c d all) is.distinct;
  each = λ n. each_now h (without_refused h) (still_without h) n c d all (is.each n);
}

-- the facts that stay the same

pub same_release : (h k : History) → IsStill h k → (n : Name) → IsSameRelease h k n
same_release h k s n = record {
  size = s.size n;
  bytes = s.bytes n;
  file = λ text. (file_there h k s n text, file_back_again h k s n text);
  held = held_moves h k s n;
}

pub release_same : (h : History) (n : Name) → IsSameRelease h (without_refused h) n
release_same h n = same_release h (without_refused h) (still_without h) n

report_there : (h k : History) → IsStill h k → (package_name : List ℕ) (o : Option Name) → Reports h package_name o → Reports k package_name o
report_there h k s package_name None none = λ m same good. none m same ((goods_still h k s).back m good)
report_there h k s package_name (Some n) is = (is.0, active_same h k (goods_still h k s) n is.1)

pub same_reports : (h k : History) → IsStill h k → (package_name : List ℕ) (o : Option Name) → (Reports h package_name o ↔ Reports k package_name o)
same_reports h k s package_name o = (report_there h k s package_name o, report_there k h (still_back h k s) package_name o)

pub report_same : (h : History) (package_name : List ℕ) (o : Option Name) → (Reports h package_name o ↔ Reports (without_refused h) package_name o)
report_same h package_name o = same_reports h (without_refused h) (still_without h) package_name o
