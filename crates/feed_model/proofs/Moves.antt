-- A release that is recorded.
use Rattle.std.proofs.Common.{◌≡◌, ◌≢◌, ℕ, zero, suc, true, false, eqb, List, [], ◌∷◌, length, Option, Some}
use Rattle.std.proofs.Common.{None, IsSome, MatchOption, ◌⊎◌, inl, inr, refl, sym, ◌∙◌, ap, subst, arith}
use Rattle.std.proofs.lemmas.Bool.Decides.{nat_tests}
use Rattle.feed_names.specs.ReleaseName.{Name, name_eq}
use Rattle.feed_model.specs.File.{fault_of}
use Rattle.feed_model.specs.History.{Offered, History, Answer, is_noted, size_of, kept, IsFile, IsGood, IsPassed, IsHeld}
use Rattle.feed_model.specs.Reply.{IsRightWith}
use Rattle.feed_model.specs.Content.{Content, record_of, IsState, IsReason, IsRecord, IsContentWithin}
use Rattle.feed_model.specs.Change.{new_record, insert_record}
use Rattle.feed_model.proofs.Names.{name_self, name_apart, name_cases}
use Rattle.feed_model.proofs.Goods.{SameGood, same_back, passed_same}
use Rattle.feed_model.proofs.Legal.{nothing_kept}
use Rattle.feed_model.proofs.Faults.{fault_of-empty, empty_bad}
use Rattle.feed_model.proofs.Lookups.{record_of-insert_record}
use Rattle.feed_model.proofs.Distinct.{distinct-insert_record}
use Rattle.feed_model.proofs.Others.{SameBut, goods_but, each_same}
use Rattle.feed_model.proofs.Tests.{not_held}

pub added_size : (n m : Name) (size : ℕ) (r : Answer) (h : History) → is_noted r ≡ true → m ≢ n → size_of ((Offered n size, r) ∷ h) m ≡ size_of h m
added_size n m size r h noted apart = let off : name_eq n m ≡ false = name_apart n m (λ e. apart (sym e)) in rw (noted, off) refl

added_here : (n : Name) (size : ℕ) (r : Answer) (h : History) → is_noted r ≡ true → size_of ((Offered n size, r) ∷ h) n ≡ Some size
added_here n size r h noted = rw (noted, name_self n) refl

-- a text of no bytes, where nothing is kept
pub only_empty : (n : Name) (h : History) → ((place : ℕ) → kept h n place ≡ None) → (text : List ℕ) → IsFile h n text → text ≡ []
only_empty n h bare [] f = refl
only_empty n h bare (x ∷ xs) f = absurd (let e : None ≡ Some x = sym (bare 0) ∙ f.1 0 (omega arith) in cc)

pub add_moves : {most : ℕ} (c : Content) (h : History) (n : Name) (size : ℕ) (r : Answer) → IsContentWithin most c h → record_of c n ≡ None → (¬ (IsPassed h n)) → is_noted r ≡ true
    → IsRightWith most h (Offered n size) r → IsContentWithin most (insert_record (new_record n size) c) ((Offered n size, r) ∷ h)
add_moves {most = most} c h n size r is free ahead noted right = record {
  legal = (right, is.legal);
  distinct = distinct-insert_record (new_record n size) c free is.distinct;
  each = λ m. by m (name_cases m n);
}
  where
    k : History
    k = (Offered n size, r) ∷ h

    out : ¬ (IsHeld h n)
    out = not_held c h n is free

    unsized : (o : Option ℕ) → size_of h n ≡ o → size_of h n ≡ None
    unsized None e = e
    unsized (Some s) e = absurd (out (subst IsSome (sym e) refl, ahead))

    bare : (place : ℕ) → kept h n place ≡ None
    bare place = nothing_kept most h is.legal n (unsized (size_of h n) refl) place

    but : SameBut n h k
    but = record { size = λ m apart. added_size n m size r h noted apart; bytes = λ m apart place. refl }

    before : IsGood h n → ⊥
    before g = let e : Some (length g.0) ≡ None = sym g.1.0 ∙ unsized (size_of h n) refl in cc

    now : IsGood k n → ⊥
    now g = empty_bad (subst (λ (t : List ℕ). fault_of t ≡ None) (only_empty n k bare g.0 g.1) g.2)

    goods : SameGood h k
    goods = goods_but n h k but before now

    state : (s : ℕ) → s ≡ size → IsState k n (new_record n s).state
    state zero e = ([], (added_here n size r h noted ∙ ap Some (sym e), λ place lt. absurd (omega arith)), empty_bad)
    state (suc s) e =
        let off : eqb (suc s) 0 ≡ false = grind (arith, nat_tests) in rw off
        (λ w. let t = only_empty n k bare w.0 w.1 in let u : Some 0 ≡ Some (suc s) = ap Some (sym (ap length t))
        ∙ (sym w.1.0 ∙ (added_here n size r h noted ∙ ap Some (sym e))) in absurd (cc))

    reason : (s : ℕ) → s ≡ size → IsReason k n (new_record n s).state (new_record n s).reason
    reason zero e = ([], (added_here n size r h noted ∙ ap Some (sym e), λ place lt. absurd (omega arith)), fault_of-empty)
    reason (suc s) e = let off : eqb (suc s) 0 ≡ false = grind (arith, nat_tests) in rw off refl

    mine : IsRecord k n (new_record n size)
    mine = record {
      held = (subst IsSome (sym (added_here n size r h noted)) refl, λ p. ahead (passed_same k h (same_back h k goods) n p));
      size = added_here n size r h noted;
      bytes = λ place. sym (bare place);
      parts = tt;
      state = state size refl;
      reason = reason size refl;
    }

    by : (m : Name) → (m ≡ n) ⊎ (m ≢ n) → MatchOption (record_of (insert_record (new_record n size) c) m) (¬ (IsHeld k m)) (IsRecord k m)
    by m (inl e) = let found : record_of (insert_record (new_record n size) c) n ≡ Some (new_record n size) = record_of-insert_record (new_record n size) c n free ∙ rw (name_self n) refl in
        subst (λ (x : Name). MatchOption (record_of (insert_record (new_record n size) c) x) (¬ (IsHeld k x)) (IsRecord k x)) (sym e) (rw found mine)
    by m (inr apart) = let off : name_eq n m ≡ false = name_apart n m (λ e. apart (sym e)) in
        let found : record_of (insert_record (new_record n size) c) m ≡ record_of c m = record_of-insert_record (new_record n size) c m free ∙ rw off refl in
        rw found (each_same n m h k but goods apart (record_of c m) (is.each m))
