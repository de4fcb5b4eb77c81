use Rattle.std.proofs.Common.{flat_map, ◌≡◌, ◌<◌, ◌+◌, ◌++◌, ◌∷◌, ◌∙◌, ℕ, List, [], Bor, ap, arith, get_or, inl, inr, length, subst, sym, take}
use Rattle.std.proofs.lemmas.List.{append-nil, length-append, take_more}
use Rattle.std.proofs.lemmas.List.Folds.{length-flat_map-take}
use Rattle.std.proofs.lemmas.Grind.{flat_map-append}
use Rattle.std.proofs.lemmas.Result.{err_from_is_err_and}
use Rattle.feed_kbart.specs.ListChecks.{IsCheckOfList}
use Rattle.feed_kbart.proofs.list_check.read_windows.Goals as goal

-- the bytes of one more window
fed_more : (windows : List (Bor (List ℕ))) (i : ℕ) (d : Bor (List ℕ)) → i < length windows
    → flat_map (λ w. w.now) (take i windows) ++ (get_or windows i d).now ≡ flat_map (λ w. w.now) (take (i + 1) windows)
fed_more windows i d within =
    let one = get_or windows i d in
    sym (ap (flat_map (λ w. w.now)) (take_more windows i d within) ∙ flat_map-append (λ w. w.now) (take i windows) (one ∷ [])
    ∙ ap (λ l. flat_map (λ w. w.now) (take i windows) ++ l) (append-nil one.now))

pub loop-window-preserved : goal.loop-window-preserved
loop-window-preserved c =
    let i = c.loop-window.window-index in
    let fed = rw c.in_ok-check.was at (c.step.ensures _ c.loop-window.invariant) in
    subst (λ (l : List ℕ). IsCheckOfList l c.in_ok-check.check) (fed_more c.args.windows.now i (record { ref_ptr = (0, 0); now = [] }) (omega arith)) fed

pub returns-in_err-check : goal.returns-in_err-check
returns-in_err-check c =
    let i = c.loop-window.window-index in
    let windows = c.args.windows.now in
    let p = err_from_is_err_and c.from_residual.result c.from_residual.ensures.1 in
    let why = rw c.in_err-check.was at (c.step.ensures _ c.loop-window.invariant) in
    let d : Bor (List ℕ) = record { ref_ptr = (0, 0); now = [] } in
    let front = flat_map (λ w. w.now) (take i windows) in
    let long = length-flat_map-take (λ w. w.now) windows i d (omega arith) in
    elim why [
      | inl memory ↦ rw (p.1, p.2, memory) tt
      | inr over ↦ rw (p.1, p.2, over.0) (omega (arith, over.1, long, length-append front (get_or windows i d).now))
    ]
