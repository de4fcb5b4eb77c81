use Rattle.std.proofs.Common.{◌≡◌, ℕ, List, [], ◌∷◌, ◌-◌, ◌∙◌, drop, length, length-take-le, subst, sym, take_at}
use Rattle.std.proofs.lemmas.List.{take_rest}
use Rattle.feed_text.specs.Utf8.{StandsFor}
use Rattle.feed_text.proofs.utf8.Utf8Check.of.Goals as goal

pub returns-in-Some : goal.returns-in-Some
returns-in-Some c =
    let bytes = c.args.bytes.now in
    let count = c.in-Some.count in
    let kept = c.copy_from_slice.new.self in
    let size : length kept ≡ count = c.copy_from_slice.ensures.len ∙ length-take-le count (0 ∷ 0 ∷ 0 ∷ []) c.in-Some.ensures.few.0 in
    let end : kept ≡ drop (length bytes - count) bytes = c.copy_from_slice.ensures.after ∙ take_rest bytes (length bytes - count) in
    let held = take_at kept (drop count (0 ∷ 0 ∷ 0 ∷ [])) count size ∙ end in
    subst (λ (l : List ℕ). StandsFor l bytes) (sym held) c.in-Some.ensures.spoiled
