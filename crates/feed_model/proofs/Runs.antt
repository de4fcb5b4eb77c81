-- A run continues by one step.
use Rattle.std.proofs.Common.{◌≡◌, ◌<◌, ◌+◌, ◌++◌, ℕ, List, [], ◌∷◌, length, map, take, get_or, refl, sym, ◌∙◌, ap, subst, arith}
use Rattle.std.proofs.lemmas.List.{take_more, length-append}
use Rattle.feed_model.specs.History.{Event, Answer, History}
use Rattle.feed_model.specs.Reply.{history_after}
use Rattle.feed_model.specs.Content.{Recorded, IsContent}
use Rattle.feed_model.specs.Handles.{Handles, Runs}

pub history_after-push : (h : History) (events : List Event) (answers : List Answer) (event : Event) (answer : Answer) → length events ≡ length answers
    → history_after h (events ++ event ∷ []) (answers ++ answer ∷ []) ≡ (event, answer) ∷ history_after h events answers
history_after-push h [] [] event answer same = refl
history_after-push h [] (b ∷ bs) event answer same = absurd (omega arith)
history_after-push h (x ∷ xs) [] event answer same = absurd (omega arith)
history_after-push h (x ∷ xs) (b ∷ bs) event answer same = history_after-push ((x, b) ∷ h) xs bs event answer (omega arith)

-- one step more
pub run_push : (c m c' : Recorded) (events : List Event) (answers : List Answer) (event : Event) (answer : Answer) → Runs c events answers m → Handles m event answer c'
    → Runs c (events ++ event ∷ []) (answers ++ answer ∷ []) c'
run_push c m c' events answers event answer runs step = record {
  each = omega (arith, length-append events (event ∷ []), length-append answers (answer ∷ []), runs.each);
  content = λ h is. subst (IsContent c') (sym (history_after-push h events answers event answer runs.each)) (step (history_after h events answers) (runs.content h is)).1;
}

map-push : {X : Type 0} (told : X → Event) (xs : List X) (x : X) → map told (xs ++ x ∷ []) ≡ map told xs ++ told x ∷ []
map-push told [] x = refl
map-push told (y ∷ ys) x = ap (λ zs. told y ∷ zs) (map-push told ys x)

-- the same in a loop over elements that stand for the events
pub run_more : {X : Type 0} (told : X → Event) (c m c' : Recorded) (xs : List X) (i : ℕ) (x : X) (answers more : List Answer) (answer : Answer)
    → i < length xs → x ≡ get_or xs i x → more ≡ answers ++ answer ∷ [] → Runs c (map told (take i xs)) answers m → Handles m (told x) answer c'
    → Runs c (map told (take (i + 1) xs)) more c'
run_more told c m c' xs i x answers more answer lt at is runs step =
    let next : map told (take (i + 1) xs) ≡ map told (take i xs) ++ told x ∷ [] = ap (map told) (take_more xs i x lt) ∙ map-push told (take i xs) (get_or xs i x) ∙ ap
    (λ (y : _). map told (take i xs) ++ told y ∷ []) (sym at) in
    rw (is, next) (run_push c m c' (map told (take i xs)) answers (told x) answer runs step)
