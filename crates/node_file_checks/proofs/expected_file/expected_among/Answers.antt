use Rattle.std.proofs.Common.{rules, ◌≡◌, ◌==◌, ◌++◌, ◌∷◌, ◌∙◌, ℕ, List, [], Option, Some, Bor, refl, sym, ap}
use Rattle.std.specs.Fn.{Mut, Called}
use Rattle.std.specs.List.{FoldsTo, slice_split}
use Rattle.std.specs.Iterator.{Drains}
use Rattle.std.proofs.lemmas.Fn.{fold_over}
use Rattle.std.proofs.lemmas.Iterator.{YieldsList}
use Rattle.std.proofs.lemmas.Iterator.Splits.{YieldsList-from_slice_split}
use Rattle.std.proofs.lemmas.List.Sums.{fold-append}
use Rattle.node_file_checks.specs.ExpectedFiles.{any_file, with_fields, with_next}
use Rattle.node_file_checks.specs.declared.expected_file.ExpectedFile.{ExpectedFile}
use Rattle.node_file_checks.proofs.expected_file.expected_among.Goals as goal

next_said : (fields : List (List ℕ)) (field : List ℕ) (said next : Option ExpectedFile) → said ≡ with_fields (Some any_file) fields → next ≡ with_next said field
    → next ≡ with_fields (Some any_file) (fields ++ field ∷ [])
next_said fields field said next so is =
    is ∙ ap (λ t. with_next t field) so ∙ sym (fold-append with_next (Some any_file) fields (field ∷ []))

folded : {S F : Type 0} {steps : S → Option (Bor (List ℕ)) → S → Type 0} {g : Mut F (Option ExpectedFile × (Bor (List ℕ) × Unit {0})) (Option ExpectedFile)} {f : F} {s : S}
    (result : Option ExpectedFile) (fields : List (List ℕ))
    → (xs : List (Bor (List ℕ))) × (f' : F) × Drains steps s xs × FoldsTo {P = F × Option ExpectedFile} (λ p x q. Called g p.0 (p.1, (x, tt)) q.1 q.0) (f, Some any_file) xs (f', result)
    → YieldsList steps (λ x. x.now) s fields
    → ((said next : Option ExpectedFile) (x : Bor (List ℕ)) (f' : F) → Called g f (said, (x, tt)) next f' → (next ≡ with_next said x.now) × (f' ≡ f))
    → result ≡ with_fields (Some any_file) fields
folded {steps = steps} {g = g} {f = f} {s = s} result fields ran yields says =
    fold_over steps (λ x. x.now) g (λ before said. said ≡ with_fields (Some any_file) before) f
    (λ before said x next f' so k. (next_said before x.now said next so (says said next x f' k).0, (says said next x f' k).1))
    s fields (Some any_file) result yields.runs refl ran

pub returns : goal.returns
returns c =
    folded c.fold.result (slice_split (λ b. b == 38) c.args.query.now) c.fold.ensures.ran
    (YieldsList-from_slice_split _ (λ b. b == 38) c.args.query.now (search rules) (search rules) (search rules) (λ x b q k. search rules))
    (λ said next x f' k. search rules)
