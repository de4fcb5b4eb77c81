use Rattle.std.proofs.Common.{◌≡◌, ◌∙◌, Bool, None, Some, ap, subst, sym, take}
use Rattle.std.specs.Prelude.{if◌then◌else◌, not}
use Rattle.std.proofs.lemmas.Bool.{false≢true}
use Rattle.feed_text.specs.Utf8.{IsCheckOf}
use Rattle.feed_text.proofs.Utf8Texts.{StandsFor-whole, not_spoiled}
use Rattle.feed_text.proofs.utf8.Utf8Check.finish.Goals as goal

pub returns-then-not-self : goal.returns-then-not-self
returns-then-not-self c text is =
    let kept = take c.self.inside.count c.self.inside.kept in
    let held : c.args.self ≡ Some kept = sym c.self.view_is ∙ ap (λ (b : Bool). if b then None else Some kept) c.if-not-self.true in
    let same = StandsFor-whole kept text (subst (IsCheckOf text) held is) in
    (λ yes. same.1 (c.is_text.ensures.0 yes), λ utf8. c.is_text.ensures.1 (same.0 utf8))

pub returns-else-not-self : goal.returns-else-not-self
returns-else-not-self c text is =
    let kept = take c.self.inside.count c.self.inside.kept in
    let held : c.args.self ≡ None = sym c.self.view_is ∙ ap (λ (b : Bool). if b then None else Some kept) c.if-not-self.false in
    let spoiled = subst (IsCheckOf text) held is in
    (λ yes. absurd (false≢true (sym (ap not c.if-not-self.false) ∙ yes)), λ utf8. absurd (not_spoiled text spoiled utf8))
