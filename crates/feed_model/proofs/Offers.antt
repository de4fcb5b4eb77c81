-- Each answer to an offer.
use Rattle.std.proofs.Common.{◌≡◌, ◌≢◌, ◌<◌, ◌≤◌, ℕ, false, length, Some, None, Ok, Err, ◌⊎◌, inl, inr, refl, sym, ◌∙◌, ap, subst, arith}
use Rattle.feed_names.specs.ReleaseName.{Name}
use Rattle.feed_kbart.specs.declared.fault.BadFile.TheVariants.{NoHeader}
use Rattle.feed_model.specs.declared.reply.Reply.TheVariants as replies
use Rattle.feed_model.specs.declared.reply.Refusal.TheVariants as refusals
use Rattle.feed_model.specs.History.{Offered, History, Answer, is_noted, is_taken}
use Rattle.feed_model.specs.Reply.{IsRightWith, Commits, HoldsNumber, max_file}
use Rattle.feed_model.specs.Content.{Record, Content, record_of, IsContentWithin, within}
use Rattle.feed_model.specs.Change.{new_record, insert_record, NoneIsLater}
use Rattle.feed_model.specs.Handles.{Handles, HasLaterActive}
use Rattle.feed_model.proofs.Counting.{counted, number_one}
use Rattle.feed_model.proofs.Idle.{unchanged}
use Rattle.feed_model.proofs.Moves.{add_moves}
use Rattle.feed_model.proofs.Tests.{of_record, not_held, passed_by, not_passed_by}

pub offer_older : {most : ℕ} (c : Content) (n : Name) (size : ℕ) → size ≤ max_file → HasLaterActive c n → Handles (within most c) (Offered n size) (Ok replies.Older) (within most c)
offer_older c n size le later = unchanged c (Offered n size) (Ok replies.Older) refl refl (λ h is. inr ((λ lt. omega arith), inl (passed_by c h n is later, refl)))

pub offer_known : {most : ℕ} (c : Content) (n : Name) (size : ℕ) (r : Record) → size ≤ max_file → NoneIsLater c n → record_of c n ≡ Some r → r.size ≡ size
    → Handles (within most c) (Offered n size) (Ok replies.Known) (within most c)
offer_known {most = most} c n size r le free found same = unchanged c (Offered n size) (Ok replies.Known) refl refl right
  where
    right : (h : History) → IsContentWithin most c h → IsRightWith most h (Offered n size) (Ok replies.Known)
    right h is =
        let x = of_record c h n r is found in
        inr ((λ lt. omega arith), inr (not_passed_by c h n is free, inl (x.held, inl (x.size ∙ ap Some same, refl))))

pub offer_wrong_size : {most : ℕ} (c : Content) (n : Name) (size : ℕ) (r : Record) → size ≤ max_file → NoneIsLater c n → record_of c n ≡ Some r → r.size ≢ size
    → Handles (within most c) (Offered n size) (Err refusals.WrongSize) (within most c)
offer_wrong_size {most = most} c n size r le free found other = unchanged c (Offered n size) (Err refusals.WrongSize) refl refl right
  where
    right : (h : History) → IsContentWithin most c h → IsRightWith most h (Offered n size) (Err refusals.WrongSize)
    right h is =
        let x = of_record c h n r is found in
        inr ((λ lt. omega arith), inr (not_passed_by c h n is free, inl (x.held, inr ((λ e. other (let u : Some r.size ≡ Some size = sym x.size ∙ e in cc)), refl))))

pub offer_full : {most : ℕ} (c : Content) (n : Name) (size : ℕ) → size ≤ max_file → NoneIsLater c n → record_of c n ≡ None → length c ≡ most
    → Handles (within most c) (Offered n size) (Err refusals.Full) (within most c)
offer_full c n size le free none all = unchanged c (Offered n size) (Err refusals.Full) refl refl (λ h is.
    inr ((λ lt. omega arith), inr (not_passed_by c h n is free, inr (not_held c h n is none, inl (subst (HoldsNumber h) all (counted c h is), refl)))))

-- the answer that commits, or a refusal in its place
added_right : {most : ℕ} (c : Content) (h : History) (n : Name) (size : ℕ) (a : Answer) → IsContentWithin most c h → size ≤ max_file → NoneIsLater c n → record_of c n ≡ None → length c < most
    → ((size ≡ 0) × Commits a (replies.Broken NoHeader)) ⊎ ((size ≢ 0) × Commits a replies.Noted) → IsRightWith most h (Offered n size) a
added_right {most = most} c h n size a is le free none room last =
    inr (
      (λ lt. omega arith),
      inr (
        not_passed_by c h n is free,
        inr
            (not_held c h n is none, inr ((λ all. let e : length c ≡ most = number_one h (length c) most (counted c h is) all in omega arith), last)),
      ),
    )

zero_or : (n : ℕ) → (n ≡ 0) ⊎ (n ≢ 0)
zero_or n = grind arith

pub offer_refused : {most : ℕ} (c : Content) (n : Name) (size : ℕ) (a : Answer) → size ≤ max_file → NoneIsLater c n → record_of c n ≡ None → length c < most
    → (a ≡ Err refusals.Memory) ⊎ (a ≡ Err refusals.Device) → Handles (within most c) (Offered n size) a (within most c)
offer_refused c n size a le free none room why =
    unchanged c (Offered n size) a (noted why) (taken why) (λ h is. added_right c h n size a is le free none room (by (zero_or size)))
  where
    noted : (a ≡ Err refusals.Memory) ⊎ (a ≡ Err refusals.Device) → is_noted a ≡ false
    noted (inl e) = ap is_noted e
    noted (inr e) = ap is_noted e

    taken : (a ≡ Err refusals.Memory) ⊎ (a ≡ Err refusals.Device) → is_taken a ≡ false
    taken (inl e) = ap is_taken e
    taken (inr e) = ap is_taken e

    by : (size ≡ 0) ⊎ (size ≢ 0) → ((size ≡ 0) × Commits a (replies.Broken NoHeader)) ⊎ ((size ≢ 0) × Commits a replies.Noted)
    by (inl e) = inl (e, inr why)
    by (inr e) = inr (e, inr why)

pub offer_noted : {most : ℕ} (c : Content) (n : Name) (size : ℕ) → size ≤ max_file → NoneIsLater c n → record_of c n ≡ None → length c < most → size ≢ 0
    → Handles (within most c) (Offered n size) (Ok replies.Noted) (within most (insert_record (new_record n size) c))
offer_noted {most = most} c n size le free none room some = λ h is.
    let right : IsRightWith most h (Offered n size) (Ok replies.Noted) = added_right c h n size (Ok replies.Noted) is le free none room (inr (some, inl refl)) in
    (right, add_moves c h n size (Ok replies.Noted) is none (not_passed_by c h n is free) refl right)

pub offer_noted_empty : {most : ℕ} (c : Content) (n : Name) (size : ℕ) → size ≤ max_file → NoneIsLater c n → record_of c n ≡ None → length c < most → size ≡ 0
    → Handles (within most c) (Offered n size) (Ok (replies.Broken NoHeader)) (within most (insert_record (new_record n size) c))
offer_noted_empty {most = most} c n size le free none room nothing = λ h is.
    let right : IsRightWith most h (Offered n size) (Ok (replies.Broken NoHeader)) = added_right c h n size (Ok (replies.Broken NoHeader)) is le free none room (inl (nothing, inl refl)) in
    (right, add_moves c h n size (Ok (replies.Broken NoHeader)) is none (not_passed_by c h n is free) refl right)
