use Rattle.std.proofs.Common.{◌≡◌, ◌∙◌, ℕ, List, true, false, arith, sym, inl, inr}
use Rattle.std.specs.Prelude.{IsUtf8}
use Rattle.std.specs.Str.{is_utf8}
use Rattle.std.proofs.lemmas.Bool.{cases_Bool, true≢false}
use Rattle.std.proofs.lemmas.Str.{IsUtf8-from_is_utf8, is_utf8-from_IsUtf8}
use Rattle.feed_text.proofs.Fronts.{front_marks}
use Rattle.feed_text.proofs.text_check.TextCheck.finish.Goals as goal

not_utf8 : (text : List ℕ) → (IsUtf8 text → ⊥) → is_utf8 text ≡ false
not_utf8 text other = elim (cases_Bool (is_utf8 text)) [ inl e ↦ absurd (other (IsUtf8-from_is_utf8 text e)) | inr e ↦ e ]

pub returns-then-not-finish-clause-checked : goal.returns-then-not-finish-clause-checked
returns-then-not-finish-clause-checked c text is =
    (omega (arith, c.requires, is.size), not_utf8 text (λ utf8. absurd (true≢false (sym ((c.finish.ensures text is.utf8).1 utf8) ∙ c.if-not-finish.true))))

pub returns-then-starts_with-clause-checked : goal.returns-then-starts_with-clause-checked
returns-then-starts_with-clause-checked c text is =
    let utf8 = is_utf8-from_IsUtf8 text ((c.finish.ensures text is.utf8).0 c.if-not-finish.false) in
    let marks = front_marks text c.args.self.front c.min.result (omega (arith, c.min.ensures, is.size)) is.front in
    (omega (arith, c.requires, is.size), utf8, sym marks ∙ sym c.starts_with.ensures.value ∙ c.if-starts_with.true)

pub returns-clause-checked : goal.returns-clause-checked
returns-clause-checked c text is =
    let utf8 = is_utf8-from_IsUtf8 text ((c.finish.ensures text is.utf8).0 c.if-not-finish.false) in
    let marks = front_marks text c.args.self.front c.min.result (omega (arith, c.min.ensures, is.size)) is.front in
    (omega (arith, c.requires, is.size), utf8, sym marks ∙ sym c.starts_with.ensures.value ∙ c.if-starts_with.false)
