-- A content of a history is sound.
use Rattle.std.proofs.Common.{◌≡◌, ◌<◌, ℕ, zero, suc, List, [], ◌∷◌, ◌++◌, length, get_or, slice_get}
use Rattle.std.proofs.Common.{Option, Some, None, IsSome, ◌⊎◌, inl, inr, refl, sym, ◌∙◌, ap, subst, arith}
use Rattle.std.specs.List.{AllByRecursion, All, IsDistinct}
use Rattle.std.proofs.lemmas.List.Elements.{All-nil}
use Rattle.feed_names.specs.ReleaseName.{Name}
use Rattle.feed_kbart.specs.declared.fault.BadFile.{BadFile}
use Rattle.feed_model.specs.declared.state.State.{State}
use Rattle.feed_model.specs.declared.state.State.TheVariants.{Staged, Broken, Active}
use Rattle.feed_model.specs.History.{History, IsFile, IsHeld}
use Rattle.feed_model.specs.Reply.{missing_below}
use Rattle.feed_model.specs.Content.{Record, Content, names, byte_in, IsText, IsState, IsReason, IsRecord, IsContentWithin, within}
use Rattle.feed_model.specs.Handles.{HasLaterActive}
use Rattle.feed_model.specs.Sound.{IsStateOf, Explains, IsSoundRecord, IsSound}
use Rattle.feed_model.proofs.Counting.{length_names}
use Rattle.feed_model.proofs.Held.{held_limit}
use Rattle.feed_model.proofs.Limits.{size_limit, kept_inside}
use Rattle.feed_model.proofs.Bytes.{within_by}
use Rattle.feed_model.proofs.Places.{record_of-at}
use Rattle.feed_model.proofs.Tests.{of_record, passed_by}
use Rattle.feed_model.proofs.Keeps.{none_missing}

get-push : (xs : List ℕ) (x i : ℕ) → i < length xs → slice_get (xs ++ x ∷ []) i ≡ slice_get xs i
get-push [] x i lt = absurd (omega arith)
get-push (y ∷ ys) x zero lt = refl
get-push (y ∷ ys) x (suc i) lt = get-push ys x i (omega arith)

get-last : (xs : List ℕ) (x : ℕ) → slice_get (xs ++ x ∷ []) (length xs) ≡ Some x
get-last [] x = refl
get-last (y ∷ ys) x = get-last ys x

length-push : (xs : List ℕ) (x : ℕ) → length (xs ++ x ∷ []) ≡ suc (length xs)
length-push [] x = refl
length-push (y ∷ ys) x = ap suc (length-push ys x)

some_is : (o : Option ℕ) → IsSome o → (x : ℕ) × (o ≡ Some x)
some_is None some = absurd (cc)
some_is (Some x) some = (x, refl)

-- where no place is missing, the bytes are a text
whole_text : (at : ℕ → Option ℕ) (size : ℕ) → ((place : ℕ) → place < size → IsSome (at place))
    → (text : List ℕ) × (length text ≡ size) × ((place : ℕ) → place < size → at place ≡ slice_get text place)
whole_text at zero some = ([], refl, λ place lt. absurd (omega arith))
whole_text at (suc n) some =
    let before = whole_text at n (λ place lt. some place (omega arith)) in
    let last = some_is (at n) (some n (omega arith)) in
    (before.0 ++ last.0 ∷ [], length-push before.0 last.0 ∙ ap suc before.1, λ place lt. by before.0 last.0 before.1 before.2 last.1 place (split place n lt))
  where
    split : (place m : ℕ) → place < suc m → (place < m) ⊎ (place ≡ m)
    split place m lt = grind arith

    by : (text : List ℕ) (x : ℕ) → length text ≡ n → ((place : ℕ) → place < n → at place ≡ slice_get text place) → at n ≡ Some x → (place : ℕ)
        → (place < n) ⊎ (place ≡ n) → at place ≡ slice_get (text ++ x ∷ []) place
    by text x len each here place (inl lt) = each place lt ∙ sym (get-push text x place (omega (arith, len)))
    by text x len each here place (inr e) = ap at e ∙ here ∙ sym (get-last text x) ∙ ap (slice_get (text ++ x ∷ [])) (len ∙ sym e)

-- the file of a release is the text of its record
text_by : (h : History) (n : Name) (r : Record) (text : List ℕ) → IsRecord h n r → IsFile h n text → IsText r.size r.parts text
text_by h n r text x file =
    let size : length text ≡ r.size = (let e : Some r.size ≡ Some (length text) = sym x.size ∙ file.0 in cc) in
    record { count = size; bytes = λ place lt. x.bytes place ∙ file.1 place (omega (arith, size, lt)) }

is_recorded_as : (h : History) (n : Name) (r : Record) → IsRecord h n r → (s : State) → IsState h n s → IsStateOf s r.size r.parts
is_recorded_as h n r x Staged lacks = by (missing_below (byte_in r.parts) r.size) refl
  where
    by : (k : ℕ) → missing_below (byte_in r.parts) r.size ≡ k → 0 < missing_below (byte_in r.parts) r.size
    by (suc k) e = omega (arith, e)
    by zero e =
        let text = whole_text (byte_in r.parts) r.size ((none_missing (byte_in r.parts) r.size).0 e) in
        absurd (lacks (text.0, (x.size ∙ ap Some (sym text.1), λ place lt. sym (x.bytes place) ∙ text.2 place (omega (arith, text.1, lt)))))
is_recorded_as h n r x Broken bad = (bad.0, text_by h n r bad.0 x bad.1, bad.2)
is_recorded_as h n r x Active active = (active.0.0, text_by h n r active.0.0 x active.0.1, active.0.2)

explained : (h : History) (n : Name) (r : Record) → IsRecord h n r → (s : State) (o : Option BadFile) → IsReason h n s o → Explains s r.size r.parts o
explained h n r x Staged o is = is
explained h n r x Active o is = is
explained h n r x Broken o is = (is.0, text_by h n r is.0 x is.1, is.2)

sound_by : {most : ℕ} (c : Content) (h : History) (n : Name) (r : Record) → IsContentWithin most c h → IsRecord h n r → IsSoundRecord r
sound_by {most = most} c h n r is x = record {
  size = size_limit most h is.legal n r.size x.size;
  parts = x.parts;
  inside = within_by 0 r.size r.parts x.parts (λ place s. kept_inside most h is.legal n r.size place x.size (subst IsSome (x.bytes place) s));
  state = is_recorded_as h n r x r.state x.state;
  reason = explained h n r x r.state r.reason x.reason;
}

each_sound : {most : ℕ} (c : Content) (h : History) → IsContentWithin most c h → All IsSoundRecord c
each_sound c h is = λ k d lt. sound_by c h (get_or c k d).name (get_or c k d) is (of_record c h (get_or c k d).name (get_or c k d) is (record_of-at c k d is.distinct lt))

names_held : (h : History) (rs : Content) → ((k : ℕ) (d : Record) → k < length rs → IsHeld h (get_or rs k d).name) → AllByRecursion (IsHeld h) (names rs)
names_held h [] held = tt
names_held h (x ∷ xs) held = (held 0 x (omega arith), names_held h xs (λ k d lt. held (suc k) d (omega arith)))

pub sound_content : {most : ℕ} (c : Content) (h : History) → IsContentWithin most c h → IsSound (within most c)
sound_content {most = most} c h is = record {
  distinct = is.distinct;
  few = omega (
    arith,
    length_names c,
    held_limit most h is.legal (names c) is.distinct
        (names_held h c (λ k d lt. (of_record c h (get_or c k d).name (get_or c k d) is (record_of-at c k d is.distinct lt)).held)),
  );
  each = each_sound c h is;
  current = λ k d lt later. (of_record c h (get_or c k d).name (get_or c k d) is (record_of-at c k d is.distinct lt)).held.1 (passed_by c h (get_or c k d).name is later);
}

-- nothing is kept
pub sound_empty : {most : ℕ} → IsSound (within most [])
unfolding IsDistinct
sound_empty = record { distinct = tt; few = omega arith; each = All-nil IsSoundRecord; current = All-nil (λ r. ¬ (HasLaterActive [] r.name)) }
