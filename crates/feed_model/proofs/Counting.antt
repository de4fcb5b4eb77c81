-- How many releases are held: as many as there are records.
use Rattle.std.proofs.Common.{◌≡◌, ℕ, Bool, true, false, [], ◌∷◌, length, Option, Some, None, MatchOption, refl, sym, ◌∙◌, arith}
use Rattle.std.specs.List.{Contains, list_any}
use Rattle.std.specs.Set.{is_member}
use Rattle.std.proofs.lemmas.Map.Made.{length-from_same_keys}
use Rattle.std.proofs.lemmas.Map.Views.{list_any-from_Contains, Contains-from_any}
use Rattle.feed_names.specs.ReleaseName.{Name, name_eq}
use Rattle.feed_model.specs.History.{History, IsHeld}
use Rattle.feed_model.specs.Reply.{HoldsNumber}
use Rattle.feed_model.specs.Content.{Record, Content, record_of, names, IsRecord, IsContentWithin}
use Rattle.feed_model.proofs.Names.{name_is, name_laws}

same_test : (a b : Bool) → (a ≡ true → b ≡ true) → (b ≡ true → a ≡ true) → a ≡ b
same_test true b f g = sym (f refl)
same_test false true f g = g refl
same_test false false f g = refl

any_found : (c : Content) (n : Name) (r : Record) → record_of c n ≡ Some r → list_any (name_eq n) (names c) ≡ true
any_found [] n r e = absurd (cc)
any_found (x ∷ xs) n r e = by (name_eq x.name n) refl (any_found xs n r)
  where
    by : (b : Bool) → name_eq x.name n ≡ b → (record_of xs n ≡ Some r → list_any (name_eq n) (names xs) ≡ true) → list_any (name_eq n) (x.name ∷ names xs) ≡ true
    by true t again = rw (name_laws.symm n x.name ∙ t) refl
    by false t again = rw (name_laws.symm n x.name ∙ t) (again (rw t at e))

found_any : (c : Content) (n : Name) → list_any (name_eq n) (names c) ≡ true → (r : Record) × (record_of c n ≡ Some r)
found_any [] n e = absurd (let u : false ≡ true = e in cc)
found_any (x ∷ xs) n e = by (name_eq x.name n) refl (found_any xs n)
  where
    by : (b : Bool) → name_eq x.name n ≡ b → (list_any (name_eq n) (names xs) ≡ true → (r : Record) × (record_of xs n ≡ Some r)) → (r : Record) × (record_of (x ∷ xs) n ≡ Some r)
    by true t again = (x, rw t refl)
    by false t again = let g = again (rw (name_laws.symm n x.name ∙ t) at e) in (g.0, rw t g.1)

pub length_names : (c : Content) → length (names c) ≡ length c
length_names [] = refl
length_names (x ∷ xs) = omega (arith, length_names xs)

pub counted : {most : ℕ} (c : Content) (h : History) → IsContentWithin most c h → HoldsNumber h (length c)
counted c h is = (names c, is.distinct, λ n. (there n, back n), length_names c)
  where
    there : (n : Name) → IsHeld h n → Contains (names c) n
    there n held = by (record_of c n) refl (is.each n)
      where
        by : (o : Option Record) → record_of c n ≡ o → MatchOption o (¬ (IsHeld h n)) (IsRecord h n) → Contains (names c) n
        by None e out = absurd (out held)
        by (Some r) e x = Contains-from_any name_is n (names c) (any_found c n r e)

    back : (n : Name) → Contains (names c) n → IsHeld h n
    back n has = let f = found_any c n (list_any-from_Contains name_laws n (names c) has) in let x = is.each n in (let y : IsRecord h n f.0 = rw f.1 at x in y.held)

-- the number is one
pub number_one : (h : History) (j k : ℕ) → HoldsNumber h j → HoldsNumber h k → j ≡ k
number_one h j k a b =
    let same : length a.0 ≡ length b.0 = length-from_same_keys name_laws a.0 b.0 a.1 b.1
    (λ q. same_test (is_member name_eq a.0 q) (is_member name_eq b.0 q) (λ t. list_any-from_Contains name_laws q b.0 ((b.2 q).0 ((a.2 q).1 (Contains-from_any name_is q a.0 t))))
    (λ t. list_any-from_Contains name_laws q a.0 ((a.2 q).0 ((b.2 q).1 (Contains-from_any name_is q b.0 t))))) in
    omega (arith, a.3, b.3)
