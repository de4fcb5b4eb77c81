-- Each answer to a piece that keeps nothing.
use Rattle.std.proofs.Common.{◌≡◌, ◌≢◌, ◌<◌, ◌+◌, ℕ, false, List, length, Option, Some, None, Ok, Err, IsSome, ◌⊎◌, inl, inr, refl, sym, ◌∙◌, ap, subst, arith}
use Rattle.std.specs.Prelude.{IfSome, IsSomeAnd}
use Rattle.feed_names.specs.ReleaseName.{Name}
use Rattle.feed_model.specs.declared.reply.Reply.TheVariants as replies
use Rattle.feed_model.specs.declared.reply.Refusal.TheVariants as refusals
use Rattle.feed_model.specs.History.{Piece, History, Answer, is_noted, is_taken, size_of, kept}
use Rattle.feed_model.specs.Reply.{Case, IsRightWith, IsKept, Differs, Stores, max_piece}
use Rattle.feed_model.specs.Content.{Record, Content, record_of, IsContentWithin, within}
use Rattle.feed_model.specs.Change.{NoneIsLater}
use Rattle.feed_model.specs.Parts.{DiffersIn, AgreesIn, HasNew, Covers, IsSmall, Reaches}
use Rattle.feed_model.specs.Handles.{Handles, HasLaterActive}
use Rattle.feed_model.proofs.Idle.{unchanged}
use Rattle.feed_model.proofs.Bytes.{some_none}
use Rattle.feed_model.proofs.Tests.{of_record, not_held, passed_by, not_passed_by}

no_bad_piece : (bytes : List ℕ) → IsSmall bytes → ¬ ((length bytes ≡ 0) ⊎ (max_piece < length bytes))
no_bad_piece bytes small (inl none) = absurd (omega (arith, small.some))
no_bad_piece bytes small (inr past) = absurd (omega (arith, small.most))

same_total : (h : History) (n : Name) (size : ℕ) (total : Option ℕ) → size_of h n ≡ Some size → IfSome total (λ t. t ≡ size) → ¬ (IsSomeAnd total (λ t. size_of h n ≢ Some t))
same_total h n size None e same other = other
same_total h n size (Some t) e same other = other (e ∙ ap Some (sym same))

other_total : (h : History) (n : Name) (size : ℕ) (total : Option ℕ) → size_of h n ≡ Some size → IsSomeAnd total (λ t. t ≢ size) → IsSomeAnd total (λ t. size_of h n ≢ Some t)
other_total h n size None e other = other
other_total h n size (Some t) e other = λ u. other (let v : Some t ≡ Some size = sym u ∙ e in cc)

pub piece_older : {most : ℕ} (c : Content) (n : Name) (first : ℕ) (total : Option ℕ) (bytes : List ℕ) → IsSmall bytes → HasLaterActive c n
    → Handles (within most c) (Piece n first total bytes) (Ok replies.Older) (within most c)
piece_older c n first total bytes small later = unchanged c (Piece n first total bytes) (Ok replies.Older) refl refl (λ h is. inr (no_bad_piece bytes small, inl (passed_by c h n is later, refl)))

pub piece_unknown : {most : ℕ} (c : Content) (n : Name) (first : ℕ) (total : Option ℕ) (bytes : List ℕ) → IsSmall bytes → NoneIsLater c n → record_of c n ≡ None
    → Handles (within most c) (Piece n first total bytes) (Err refusals.Unknown) (within most c)
piece_unknown c n first total bytes small free none =
    unchanged c (Piece n first total bytes) (Err refusals.Unknown) refl refl (λ h is. inr (no_bad_piece bytes small, inr (not_passed_by c h n is free, inl (not_held c h n is none, refl))))

pub piece_wrong_size : {most : ℕ} (c : Content) (n : Name) (first : ℕ) (total : Option ℕ) (bytes : List ℕ) (r : Record) → IsSmall bytes → NoneIsLater c n → record_of c n ≡ Some r
    → IsSomeAnd total (λ t. t ≢ r.size) → Handles (within most c) (Piece n first total bytes) (Err refusals.WrongSize) (within most c)
piece_wrong_size {most = most} c n first total bytes r small free found other = unchanged c (Piece n first total bytes) (Err refusals.WrongSize) refl refl right
  where
    right : (h : History) → IsContentWithin most c h → IsRightWith most h (Piece n first total bytes) (Err refusals.WrongSize)
    right h is =
        let x = of_record c h n r is found in
        inr (no_bad_piece bytes small, inr (not_passed_by c h n is free, inr ((λ out. out x.held), inl (other_total h n r.size total x.size other, refl))))

pub piece_outside : {most : ℕ} (c : Content) (n : Name) (first : ℕ) (total : Option ℕ) (bytes : List ℕ) (r : Record) → IsSmall bytes → NoneIsLater c n → record_of c n ≡ Some r
    → IfSome total (λ t. t ≡ r.size) → r.size < first + length bytes → Handles (within most c) (Piece n first total bytes) (Err refusals.Outside) (within most c)
piece_outside {most = most} c n first total bytes r small free found sized past = unchanged c (Piece n first total bytes) (Err refusals.Outside) refl refl right
  where
    right : (h : History) → IsContentWithin most c h → IsRightWith most h (Piece n first total bytes) (Err refusals.Outside)
    right h is =
        let x = of_record c h n r is found in
        inr (
          no_bad_piece bytes small,
          inr (
            not_passed_by c h n is free,
            inr (
              (λ out. out x.held),
              inr (
                same_total h n r.size total x.size sized,
                inl (subst (λ (o : Option ℕ). IsSomeAnd o (λ size. size < first + length bytes)) (sym x.size) past, refl),
              ),
            ),
          ),
        )

-- the piece got past the cases that name no byte
reached : {most : ℕ} (c : Content) (h : History) (n : Name) (first : ℕ) (total : Option ℕ) (bytes : List ℕ) (r : Record) (a : Answer) → Reaches c n first total bytes r → IsContentWithin most c h
    → Case (Differs h n first bytes) (a ≡ Err refusals.Conflict) (Case (IsKept h n first bytes) (a ≡ Ok replies.Repeated) (Stores h n first bytes a))
    → IsRightWith most h (Piece n first total bytes) a
reached c h n first total bytes r a reach is rest =
    let x = of_record c h n r is reach.found in
    inr (
      no_bad_piece bytes reach.small,
      inr (
        not_passed_by c h n is reach.free,
        inr (
          (λ out. out x.held),
          inr (
            same_total h n r.size total x.size reach.sized,
            inr (inside (size_of h n) x.size, rest),
          ),
        ),
      ),
    )
  where
    inside : (o : Option ℕ) → o ≡ Some r.size → ¬ (IsSomeAnd o (λ size. size < first + length bytes))
    inside None e past = past
    inside (Some size) e past = let same : size ≡ r.size = cc in absurd (omega (arith, same, past, reach.within))

-- what the record says of the piece's bytes
differs_by : {most : ℕ} (c : Content) (h : History) (n : Name) (r : Record) (first : ℕ) (bytes : List ℕ) → IsContentWithin most c h → record_of c n ≡ Some r → DiffersIn r.parts first bytes
    → Differs h n first bytes
differs_by c h n r first bytes is found d = (d.0, d.1, d.2, sym ((of_record c h n r is found).bytes d.0) ∙ d.3, d.4, d.5)

agrees_by : {most : ℕ} (c : Content) (h : History) (n : Name) (r : Record) (first : ℕ) (bytes : List ℕ) → IsContentWithin most c h → record_of c n ≡ Some r → AgreesIn r.parts first bytes
    → ¬ (Differs h n first bytes)
agrees_by c h n r first bytes is found agrees d = d.5 (agrees d.0 d.1 d.2 ((of_record c h n r is found).bytes d.0 ∙ d.3) d.4)

pub piece_conflict : {most : ℕ} (c : Content) (n : Name) (first : ℕ) (total : Option ℕ) (bytes : List ℕ) (r : Record) → Reaches c n first total bytes r → DiffersIn r.parts first bytes
    → Handles (within most c) (Piece n first total bytes) (Err refusals.Conflict) (within most c)
piece_conflict c n first total bytes r reach d = unchanged c (Piece n first total bytes) (Err refusals.Conflict) refl refl (λ h is.
    reached c h n first total bytes r (Err refusals.Conflict) reach is (inl (differs_by c h n r first bytes is reach.found d, refl)))

repeated_right : {most : ℕ} (c : Content) (h : History) (n : Name) (first : ℕ) (total : Option ℕ) (bytes : List ℕ) (r : Record) → Reaches c n first total bytes r → AgreesIn r.parts first bytes
    → Covers r.parts first bytes → IsContentWithin most c h → IsRightWith most h (Piece n first total bytes) (Ok replies.Repeated)
repeated_right c h n first total bytes r reach agrees covers is =
    reached c h n first total bytes r (Ok replies.Repeated) reach is
    (inr (agrees_by c h n r first bytes is reach.found agrees, inl ((λ place s. subst IsSome ((of_record c h n r is reach.found).bytes place) (covers place s)), refl)))

pub piece_repeated : {most : ℕ} (c : Content) (n : Name) (first : ℕ) (total : Option ℕ) (bytes : List ℕ) (r : Record) → Reaches c n first total bytes r → AgreesIn r.parts first bytes
    → Covers r.parts first bytes → Handles (within most c) (Piece n first total bytes) (Ok replies.Repeated) (within most c)
piece_repeated c n first total bytes r reach agrees covers =
    unchanged c (Piece n first total bytes) (Ok replies.Repeated) refl refl (λ h is. repeated_right c h n first total bytes r reach agrees covers is)

-- a piece with a new byte
not_kept : {most : ℕ} (c : Content) (h : History) (n : Name) (r : Record) (first : ℕ) (bytes : List ℕ) → IsContentWithin most c h → record_of c n ≡ Some r → HasNew r.parts first bytes
    → ¬ (IsKept h n first bytes)
not_kept c h n r first bytes is found new all = some_none (kept h n new.0) (all new.0 new.1) (sym ((of_record c h n r is found).bytes new.0) ∙ new.2)

pub stores_right : {most : ℕ} (c : Content) (h : History) (n : Name) (first : ℕ) (total : Option ℕ) (bytes : List ℕ) (r : Record) (a : Answer) → Reaches c n first total bytes r
    → AgreesIn r.parts first bytes → HasNew r.parts first bytes → IsContentWithin most c h → Stores h n first bytes a → IsRightWith most h (Piece n first total bytes) a
stores_right c h n first total bytes r a reach agrees new is s =
    reached c h n first total bytes r a reach is (inr (agrees_by c h n r first bytes is reach.found agrees, inr (not_kept c h n r first bytes is reach.found new, s)))

pub piece_refused : {most : ℕ} (c : Content) (n : Name) (first : ℕ) (total : Option ℕ) (bytes : List ℕ) (r : Record) (a : Answer) → Reaches c n first total bytes r → AgreesIn r.parts first bytes
    → HasNew r.parts first bytes → (a ≡ Err refusals.Memory) ⊎ (a ≡ Err refusals.Device) → Handles (within most c) (Piece n first total bytes) a (within most c)
piece_refused c n first total bytes r a reach agrees new why =
    unchanged c (Piece n first total bytes) a (noted why) (taken why) (λ h is. stores_right c h n first total bytes r a reach agrees new is (inr why))
  where
    noted : (a ≡ Err refusals.Memory) ⊎ (a ≡ Err refusals.Device) → is_noted a ≡ false
    noted (inl e) = ap is_noted e
    noted (inr e) = ap is_noted e

    taken : (a ≡ Err refusals.Memory) ⊎ (a ≡ Err refusals.Device) → is_taken a ≡ false
    taken (inl e) = ap is_taken e
    taken (inr e) = ap is_taken e
