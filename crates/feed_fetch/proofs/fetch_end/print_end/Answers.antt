use Rattle.std.proofs.Common.{◌≡◌, ◌∙◌, ap, append_assoc, sym, Bool, true, false, refl, IfSome, IsTrue, ℕ, List, ◌++◌, Option, Some, None}
use Rattle.std.specs.Option.{option_map}
use Rattle.std.specs.Io.KnownBytes.{Appends}
use Rattle.feed_fetch.proofs.fetch_end.print_end.Goals as goal

-- a print that failed before has failed after
unfailed : (before after : Bool) → (IsTrue before → IsTrue after) → after ≡ false → before ≡ false
unfailed true after kept e = sym (kept refl) ∙ e
unfailed false after kept e = refl

-- two texts that are appended one after the other are appended as one
appends_both : (reason : Option (List ℕ)) (old mid new : Option (List ℕ)) (line : List ℕ) → IfSome reason (Appends old mid) → Appends mid new line
    → IfSome (option_map (λ first. first ++ line) reason) (Appends old new)
appends_both None old mid new line first then = tt
appends_both (Some reason) None mid new line first then = tt
appends_both (Some reason) (Some xs) None new line first then = absurd first
appends_both (Some reason) (Some xs) (Some ys) None line first then = absurd then
appends_both (Some reason) (Some xs) (Some ys) (Some zs) line first then = then ∙ ap (λ all. all ++ line) first ∙ append_assoc xs reason line

pub returns-clause-lines : goal.returns-clause-lines
returns-clause-lines g c = λ h has_content whole. (
  c.reason.result,
  c.reason.ensures h has_content,
  appends_both _ _ _ _ _ (c.print_reason.ensures.lines (unfailed _ _ c.print_status.ensures.kept whole)) (c.print_status.ensures.line whole),
)

pub returns-clause-last : goal.returns-clause-last
returns-clause-last g c = λ whole. (c.print_reason.new.lines, c.print_status.ensures.line whole)
