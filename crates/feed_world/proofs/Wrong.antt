-- Transcripts that the headline refuses.
use Rattle.std.proofs.Common.{◌≡◌, ◌≢◌, ◌≤◌, ℕ, ℤ, ◌<ℤ◌, ◌≤ℤ◌, zero, suc, min, max, List}
use Rattle.std.proofs.Common.{[], ◌∷◌, Some, None, slice_get, ◌⊎◌, inl, inr, refl, sym, ◌∙◌, ap, subst, arith}
use Rattle.std.proofs.lemmas.Int.{ints}
use Rattle.feed_names.specs.ReleaseName.{Name}
use Rattle.feed_world.specs.declared.line.Why.TheVariants as whys
use Rattle.feed_model.specs.File.{fault_of}
use Rattle.feed_answer.specs.Queries.{query_of}
use Rattle.feed_world.specs.World.{WorldEvent, Publish, Restart, Report, Ask, Published, Restarted, Active, Inactive, Text, Refused, file_says}
use Rattle.feed_model.proofs.Names.{name_self}
use Rattle.feed_world.specs.Headline.{file_of, IsQuiet, IsOneMoment, IsNoOlder, IsHeadline}

-- a node that forgets after a restart
forgets : (n : Name) → IsHeadline (Report 1 n.package_name ∷ Restart 1 ∷ Report 1 n.package_name ∷ []) (Active n ∷ Restarted ∷ Inactive ∷ []) → ⊥
forgets n h = by (h.later 0 2 1 n.package_name n Inactive (omega arith) (record { happened = refl; shown = refl }) (record { happened = refl; shown = refl }))
  where
    by : (Inactive ≡ Refused whys.Down) ⊎ ((m : Name) × (Inactive ≡ Active m) × IsNoOlder n m) → ⊥
    by (inl e) = cc
    by (inr r) = let e = r.1 in cc

not_before : (a b c : ℤ) → a <ℤ b → b ≤ℤ c → a ≡ c → ⊥
not_before a b c lt le same = grind (arith, ints)

-- a node that goes back
goes_back : (m n : Name) → m.day <ℤ n.day → m.package_name ≡ n.package_name → IsHeadline (Report 1 n.package_name ∷ Restart 1 ∷ Report 1 n.package_name ∷ []) (Active n ∷ Restarted ∷ Active m ∷ []) → ⊥
goes_back m n lt same h = by (h.later 0 2 1 n.package_name n (Active m) (omega arith) (record { happened = refl; shown = refl }) (record { happened = refl; shown = refl }))
  where
    by : (Active m ≡ Refused whys.Down) ⊎ ((k : Name) × (Active m ≡ Active k) × IsNoOlder n k) → ⊥
    by (inl e) = cc
    by (inr r) = let e = r.1 in let is : m ≡ r.0 = cc in not_before m.day n.day r.0.day lt r.2.1 (ap (λ (z : Name). z.day) is)

-- a text that is not the file's
lies : (n : Name) (file query text : List ℕ) → Text text ≢ file_says n file (query_of query)
    → IsHeadline (Publish n file ∷ Report 1 n.package_name ∷ Ask 1 n.package_name query ∷ []) (Published ∷ Active n ∷ Text text ∷ []) → ⊥
lies n file query text apart h =
    let together : IsOneMoment (Publish n file ∷ Report 1 n.package_name ∷ Ask 1 n.package_name query ∷ []) 1 1 2 = quiet in
    let w = h.whole 2 (record { node = 1; package_name = n.package_name; query = query }) n (Text text) (record {
      asked = record { happened = refl; shown = refl };
      report = 1;
      reported = record { happened = refl; shown = refl };
      together = together;
      given = λ e. cc;
    }) in
    let at : Some file ≡ Some w.0 = sym (first n file) ∙ w.1 in
    let is : file ≡ w.0 = cc in
    apart (w.2 ∙ ap (λ (f : List ℕ). file_says n f (query_of query)) (sym is))
  where
    first : (n : Name) (file : List ℕ) → file_of (Publish n file ∷ Report 1 n.package_name ∷ []) n ≡ Some file
    first n file = rw (name_self n) refl

    quiet : (m : ℕ) (event : WorldEvent) → min 1 2 ≤ m → m ≤ max 1 2 → slice_get (Publish n file ∷ Report 1 n.package_name ∷ Ask 1 n.package_name query ∷ []) m ≡ Some event → IsQuiet 1 event
    quiet zero event low high is = absurd (omega (arith, low))
    quiet (suc zero) event low high is = let e : Report 1 n.package_name ≡ event = cc in subst (IsQuiet 1) e tt
    quiet (suc (suc zero)) event low high is = let e : Ask 1 n.package_name query ≡ event = cc in subst (IsQuiet 1) e tt
    quiet (suc (suc (suc m))) event low high is = absurd (omega (arith, high))

-- a report of a release that was never published
names_nothing : (package_name : List ℕ) (n : Name) → IsHeadline (Report 1 package_name ∷ []) (Active n ∷ []) → ⊥
names_nothing package_name n h = let r = h.named 0 1 package_name n (record { happened = refl; shown = refl }) in let e = r.published in cc

-- a report of a bad file
names_bad : (n : Name) (file : List ℕ) → fault_of file ≢ None → IsHeadline (Publish n file ∷ Report 1 n.package_name ∷ []) (Published ∷ Active n ∷ []) → ⊥
names_bad n file bad h =
    let r = h.named 1 1 n.package_name n (record { happened = refl; shown = refl }) in
    let at : Some file ≡ Some r.its_file = sym (first n file) ∙ r.published in
    let is : file ≡ r.its_file = cc in
    bad (ap fault_of is ∙ r.good)
  where
    first : (n : Name) (file : List ℕ) → file_of (Publish n file ∷ []) n ≡ Some file
    first n file = rw (name_self n) refl
