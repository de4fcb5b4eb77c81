-- A piece that makes its release the active one.
use Rattle.std.proofs.Common.{◌≡◌, ◌≢◌, ◌<ℤ◌, ◌≤ℤ◌, ℕ, Bool, true, false, List, ◌∷◌, Option}
use Rattle.std.proofs.Common.{Some, None, MatchOption, ◌⊎◌, inl, inr, refl, sym, ◌∙◌, ap, subst, arith}
use Rattle.std.proofs.lemmas.Int.{ints}
use Rattle.feed_names.specs.ReleaseName.{Name, IsEarlier}
use Rattle.feed_model.specs.declared.state.State.{State}
use Rattle.feed_model.specs.declared.state.State.TheVariants.{Staged, Broken, Active}
use Rattle.feed_model.specs.History.{Piece, History, Answer, is_taken, IsGood, IsActive, IsPassed, IsHeld}
use Rattle.feed_model.specs.Reply.{IsRightWith}
use Rattle.feed_model.specs.Content.{Part, Record, Content, record_of, IsState, IsRecord, IsContentWithin}
use Rattle.feed_model.specs.Change.{grown, changed, is_earlier, without_earlier}
use Rattle.feed_model.proofs.Names.{name_by, name_cases, package_name_cases, day_cases, earlier_is, earlier_not}
use Rattle.feed_model.proofs.Lookups.{record_of-changed, record_of-changed_here, record_of-without_earlier}
use Rattle.feed_model.proofs.Distinct.{distinct-changed, distinct-without_earlier}
use Rattle.feed_model.proofs.Goods.{reason_there}
use Rattle.feed_model.proofs.Others.{SameBut, file_same, file_back, good_other, good_back}
use Rattle.feed_model.proofs.Tests.{of_record, record_good}
use Rattle.feed_model.proofs.Growth.{Keeps, keeps_but, grown_bytes, no_reason}

-- where n isn't passed, no good release of its package is later
pub none_later : {most : ℕ} (c : Content) (h : History) → IsContentWithin most c h → (n m : Name) → (IsPassed h n → ⊥) → m.package_name ≡ n.package_name → IsGood h m → m.day ≤ℤ n.day
none_later c h is n m ahead same g = by (day_cases m.day n.day)
  where
    by : (m.day ≤ℤ n.day) ⊎ (n.day <ℤ m.day) → m.day ≤ℤ n.day
    by (inl le) = le
    by (inr lt) =
        let free : IsPassed h m → ⊥ = λ p. ahead (p.0, p.1, (sym same ∙ p.2.0, (let u : m.day <ℤ p.0.day = p.2.1 in omega (arith, ints)))) in
        let r = record_good c h is m g free in
        absurd (ahead (m, r.3, (sym same, lt)))

pub activate_moves : {most : ℕ} (c : Content) (h : History) (n : Name) (f : ℕ) (t : Option ℕ) (b : List ℕ) (a : Answer) (r : Record) (ps : List Part)
    → Keeps most c h n f b r ps → is_taken a ≡ true → IsRightWith most h (Piece n f t b) a → IsGood ((Piece n f t b, a) ∷ h) n
    → IsContentWithin most (without_earlier n (changed n (grown ps Active) c)) ((Piece n f t b, a) ∷ h)
activate_moves c h n f t b a r ps keeps taken right good = record {
  legal = (right, keeps.content.legal);
  distinct = distinct-without_earlier n (changed n (grown ps Active) c) (distinct-changed n (grown ps Active) (λ x. refl) c keeps.content.distinct);
  each = λ m. by m (is_earlier m n) refl (name_cases m n);
}
  where
    k : History
    k = (Piece n f t b, a) ∷ h

    was : IsRecord h n r
    was = of_record c h n r keeps.content keeps.found

    but : SameBut n h k
    but = keeps_but h n f t b a

    there : (m : Name) → IsGood h m → IsGood k m
    there m g = at (name_cases m n)
      where
        at : (m ≡ n) ⊎ (m ≢ n) → IsGood k m
        at (inl e) = subst (IsGood k) (sym e) good
        at (inr apart) = good_other n m h k but apart g

    latest : IsActive k n
    latest = (good, λ m same g. at m same g (name_cases m n))
      where
        at : (m : Name) → m.package_name ≡ n.package_name → IsGood k m → (m ≡ n) ⊎ (m ≢ n) → m.day ≤ℤ n.day
        at m same g (inl e) = let d : m.day ≡ n.day = ap (λ x. x.day) e in omega (arith, ints)
        at m same g (inr apart) = none_later c h keeps.content n m was.held.1 same (good_back n m h k but apart g)

    -- a release of another package is active as before
    elsewhere : (m : Name) → m.package_name ≢ n.package_name → IsActive h m → IsActive k m
    elsewhere m other act = (there m act.0, λ x same g. act.1 x same (good_back n x h k but (λ e. other (sym same ∙ ap (λ y. y.package_name) e)) g))

    active_there : (m : Name) → (IsEarlier m n → ⊥) → m ≢ n → IsActive h m → IsActive k m
    active_there m kept apart act = at (package_name_cases m n)
      where
        at : (m.package_name ≡ n.package_name) ⊎ (m.package_name ≢ n.package_name) → IsActive k m
        at (inl same) =
            let le : m.day ≤ℤ n.day = latest.1 m same (there m act.0) in
            let day : m.day ≡ n.day = split (day_cases n.day m.day) le in
            absurd (apart (name_by m n same day))
          where
            split : (n.day ≤ℤ m.day) ⊎ (m.day <ℤ n.day) → m.day ≤ℤ n.day → m.day ≡ n.day
            split (inl ge) le = omega (arith, ints)
            split (inr lt) le = absurd (kept (same, lt))
        at (inr other) = elsewhere m other act

    pass_there : (m : Name) → (IsEarlier m n → ⊥) → IsPassed h m → IsPassed k m
    pass_there m kept p = at (package_name_cases p.0 n)
      where
        at : (p.0.package_name ≡ n.package_name) ⊎ (p.0.package_name ≢ n.package_name) → IsPassed k m
        at (inl same) =
            let le : p.0.day ≤ℤ n.day = none_later c h keeps.content n p.0 was.held.1 same p.1.0 in
            let lt : m.day <ℤ p.0.day = p.2.1 in
            absurd (kept (p.2.0 ∙ same, omega (arith, ints)))
        at (inr other) = (p.0, elsewhere p.0 other p.1, p.2)

    pass_back : (m : Name) → (IsEarlier m n → ⊥) → IsPassed k m → IsPassed h m
    pass_back m kept p = at (name_cases p.0 n)
      where
        at : (p.0 ≡ n) ⊎ (p.0 ≢ n) → IsPassed h m
        at (inl e) = absurd (kept (subst (IsEarlier m) e p.2))
        at (inr apart) = (p.0, (good_back n p.0 h k but apart p.1.0, λ x same g. p.1.1 x same (there x g)), p.2)

    stays : (m : Name) → (IsEarlier m n → ⊥) → m ≢ n → (o : Option Record) → MatchOption o (¬ (IsHeld h m)) (IsRecord h m) → MatchOption o (¬ (IsHeld k m)) (IsRecord k m)
    stays m kept apart None out = λ held. out (held.0, λ p. held.1 (pass_there m kept p))
    stays m kept apart (Some x) is = record {
      held = (is.held.0, λ p. is.held.1 (pass_back m kept p));
      size = is.size;
      bytes = λ place. is.bytes place ∙ sym (but.bytes m apart place);
      parts = is.parts;
      state = state x.state is.state;
      reason = reason_there h k m (file_same n m h k but apart) x.state x.reason is.reason;
    }
      where
        state : (st : State) → IsState h m st → IsState k m st
        state Staged w = λ g. w (g.0, file_back n m h k but apart g.0 g.1)
        state Active act = active_there m kept apart act
        state Broken g = (g.0, file_same n m h k but apart g.0 g.1, g.2)

    mine : IsRecord k n (grown ps Active r)
    mine = record {
      held = (was.held.0, λ p. let le : p.0.day ≤ℤ n.day = latest.1 p.0 (sym p.2.0) p.1.0 in let lt : n.day <ℤ p.0.day = p.2.1 in absurd (omega (arith, ints)));
      size = was.size;
      bytes = grown_bytes c h n f t b a r ps keeps taken;
      parts = keeps.parts;
      state = latest;
      reason = no_reason c h n r keeps.content keeps.found keeps.staged;
    }

    by : (m : Name) (e : Bool) → is_earlier m n ≡ e → (m ≡ n) ⊎ (m ≢ n) → MatchOption (record_of (without_earlier n (changed n (grown ps Active) c)) m) (¬ (IsHeld k m)) (IsRecord k m)
    by m true e cases =
        let gone : record_of (without_earlier n (changed n (grown ps Active) c)) m ≡ None = record_of-without_earlier n (changed n (grown ps Active) c) m ∙ rw e refl in
        rw gone (λ held. held.1 (n, latest, earlier_is m n e))
    by m false e (inl same) =
        let found : record_of (without_earlier n (changed n (grown ps Active) c)) m ≡ Some (grown ps Active r) = record_of-without_earlier n (changed n (grown ps Active) c) m ∙ rw e
        (ap (record_of (changed n (grown ps Active) c)) same ∙ record_of-changed_here n (grown ps Active) (λ x. refl) c r keeps.found) in
        rw found (subst (λ (x : Name). IsRecord k x (grown ps Active r)) (sym same) mine)
    by m false e (inr apart) =
        let found : record_of (without_earlier n (changed n (grown ps Active) c)) m ≡ record_of c m = record_of-without_earlier n (changed n (grown ps Active) c) m ∙ rw e
        (record_of-changed n (grown ps Active) (λ x. refl) c m apart) in
        rw found (stays m (earlier_not m n e) apart (record_of c m) (keeps.content.each m))
