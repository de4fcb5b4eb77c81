use Rattle.std.proofs.Common.{◌≡◌, ◌≤◌, ◌-◌, ◌++◌, ◌∙◌, ℕ, List, Bool, None, Some, ap, append_assoc, arith, drop, length, length-take-le, subst, sym, take, take-append-drop, take_all}
use Rattle.std.specs.Prelude.{if◌then◌else◌}
use Rattle.std.proofs.lemmas.List.{take_rest}
use Rattle.feed_text.specs.Utf8.{IsCheckOf, IsSpoiled, StandsFor}
use Rattle.feed_text.proofs.Utf8Texts.{IsSpoiled-append, checked_on, checked_past}
use Rattle.feed_text.proofs.utf8.Utf8Check.feed.Goals as goal

pub returns-then-self : goal.returns-then-self
returns-then-self c text is =
    let kept = take c.self.inside.count c.self.inside.kept in
    let held : c.args.self.now ≡ None = sym c.self.view_is ∙ ap (λ (b : Bool). if b then None else Some kept) c.if-self.true in
    let text_now = text ++ c.args.bytes.now in
    subst (IsCheckOf text_now) (sym held) (IsSpoiled-append text c.args.bytes.now (subst (IsCheckOf text) held is))

pub returns-then-bytes-le-KEPT : goal.returns-then-bytes-le-KEPT
returns-then-bytes-le-KEPT c text is =
    let bytes = c.args.bytes.now in
    let kept = take c.self.inside.count c.self.inside.kept in
    let held : c.args.self.now ≡ Some kept = sym c.self.view_is ∙ ap (λ (b : Bool). if b then None else Some kept) c.if-self.false in
    let front : take c.min.result bytes ≡ bytes = take_all c.min.result bytes (omega (arith, c.min.ensures)) in
    let joined = c.join-joined.ensures ∙ ap (λ l. kept ++ l) front in
    let of = subst (λ (l : List ℕ). IsCheckOf l c.of.result) joined c.of.ensures in
    let new = subst (IsCheckOf (kept ++ bytes)) (sym c.self-then-bytes-le-KEPT.view_is) of in
    checked_on text kept bytes _ (subst (IsCheckOf text) held is) new

pub returns-in-None : goal.returns-in-None
returns-in-None c text is =
    let bytes = c.args.bytes.now in
    let kept = take c.self.inside.count c.self.inside.kept in
    let held : c.args.self.now ≡ Some kept = sym c.self.view_is ∙ ap (λ (b : Bool). if b then None else Some kept) c.if-self.false in
    let front = take c.min.result bytes in
    let back = drop c.min.result bytes in
    let spoiled = IsSpoiled-append (kept ++ front) back (subst IsSpoiled c.join-joined.ensures c.in-None.ensures.spoiled) in
    let all : (kept ++ front) ++ back ≡ kept ++ bytes = append_assoc kept front back ∙ ap (λ l. kept ++ l) (take-append-drop c.min.result bytes) in
    checked_on text kept bytes None (subst (IsCheckOf text) held is) (subst IsSpoiled all spoiled)

pub returns-in-Some : goal.returns-in-Some
returns-in-Some c text is =
    let bytes = c.args.bytes.now in
    let kept = take c.self.inside.count c.self.inside.kept in
    let held : c.args.self.now ≡ Some kept = sym c.self.view_is ∙ ap (λ (b : Bool). if b then None else Some kept) c.if-self.false in
    let front = take c.min.result bytes in
    let back = drop c.min.result bytes in
    let count = c.in-Some.count in
    let size : length front ≡ 3 = length-take-le c.min.result bytes (omega (arith, c.min.ensures)) ∙ omega (arith, c.min.ensures) in
    let few : count ≤ length front = omega (arith, c.in-Some.ensures.few) in
    let stands = subst (λ (l : List ℕ). StandsFor (drop (length l - count) l) l) c.join-joined.ensures c.in-Some.ensures.spoiled in
    let split = take-append-drop c.min.result bytes in
    let of = subst (λ (l : List ℕ). IsCheckOf l c.of-in-Some.result) (take_rest bytes (3 - count)) c.of-in-Some.ensures in
    let check = c.of-in-Some.result in
    let end = subst (λ (n : ℕ). IsCheckOf (drop (n - count) bytes) check) (sym size) of in
    let all = subst (λ (l : List ℕ). IsCheckOf (drop (length front - count) l) check) (sym split) end in
    let past = checked_past text kept front back count check (subst (IsCheckOf text) held is) few stands all in
    subst (IsCheckOf (text ++ bytes)) (sym c.self-in-Some.view_is) (subst (λ (l : List ℕ). IsCheckOf (text ++ l) check) split past)
