-- A stable sort by the first places puts parts in order as one after another does.
use Rattle.std.proofs.Common.{if◌then◌else◌, ◌≡◌, ◌<◌, ◌≤◌, ◌++◌, ◌&&◌, ◌⊎◌, inl, inr, Bool, true}
use Rattle.std.proofs.Common.{false, not, eqb, cond, nat_lt, ltb-true, ltb-false, eq-eqb, ne_eqb, ℕ, suc, List, [], ◌∷◌}
use Rattle.std.proofs.Common.{append-nil, append_assoc, All, filter, refl, sym, ◌∙◌, ap, arith}
use Rattle.std.specs.List.Sorted.{IsNonDecreasingBy, IsStableByKey}
use Rattle.std.specs.Ordering.{is_lt, nat_cmp}
use Rattle.std.proofs.lemmas.Bool.{cases_eq, cases_lt}
use Rattle.std.proofs.lemmas.Bool.Decides.{nat_tests}
use Rattle.std.proofs.lemmas.List.Elements.{All-head, filter-append}
use Rattle.feed_model.specs.Content.{Part}
use Rattle.feed_model.specs.Change.{insert_part, merged}
use Rattle.feed_parts.specs.declared.part.Part as code_part
use Rattle.feed_parts.specs.Shown.{shown_part, shown_parts}

-- no part begins before the one in front of it
abbrev UpFrom : ℕ → List Part → Type 0
UpFrom at [] = Unit {0}
UpFrom at (p ∷ ps) = (at ≤ p.first) × UpFrom p.first ps

-- the parts that begin at a place
abbrev beginning : ℕ → List Part → List Part
beginning at ps = filter (λ p. eqb p.first at) ps

beginning_here : (at : ℕ) (p : Part) (ps : List Part) → p.first ≡ at → beginning at (p ∷ ps) ≡ p ∷ beginning at ps
beginning_here at p ps e = ap (λ b. cond b (p ∷ beginning at ps) (beginning at ps)) (eq-eqb p.first at e)

beginning_elsewhere : (at : ℕ) (p : Part) (ps : List Part) → (p.first ≡ at → ⊥) → beginning at (p ∷ ps) ≡ beginning at ps
beginning_elsewhere at p ps e = ap (λ b. cond b (p ∷ beginning at ps) (beginning at ps)) (ne_eqb p.first at e)

none_beginning : (at from : ℕ) (ps : List Part) → UpFrom from ps → at < from → beginning at ps ≡ []
none_beginning at from [] w lt = refl
none_beginning at from (p ∷ ps) w lt = beginning_elsewhere at p ps (λ e. omega (arith, w.0, e)) ∙ none_beginning at p.first ps w.1 (omega (arith, w.0))

insert_up : (at : ℕ) (q : Part) (ps : List Part) → UpFrom at ps → at ≤ q.first → UpFrom at (insert_part q ps)
insert_up at q [] w le = (le, tt)
insert_up at q (p ∷ ps) w le = by (nat_lt q.first p.first) refl (insert_up p.first q ps w.1)
  where
    by : (b : Bool) → nat_lt q.first p.first ≡ b → (p.first ≤ q.first → UpFrom p.first (insert_part q ps)) → UpFrom at (if b then q ∷ p ∷ ps else p ∷ insert_part q ps)
    by true t again = (le, ((let lt = ltb-true q.first p.first t in omega arith), w.1))
    by false t again = (w.0, again (ltb-false q.first p.first t))

merged_up : (ps qs : List Part) → UpFrom 0 ps → UpFrom 0 (merged ps qs)
merged_up ps [] w = w
merged_up ps (q ∷ qs) w = merged_up (insert_part q ps) qs (insert_up 0 q ps w (omega arith))

-- a new part comes after those that begin at the same place
beginning_insert : (at from : ℕ) (q : Part) (ps : List Part) → UpFrom from ps → beginning at (insert_part q ps) ≡ beginning at ps ++ beginning at (q ∷ [])
beginning_insert at from q [] w = refl
beginning_insert at from q (p ∷ ps) w = by (nat_lt q.first p.first) refl (beginning_insert at p.first q ps w.1)
  where
    front : q.first < p.first → (q.first ≡ at) ⊎ (q.first ≡ at → ⊥) → beginning at (q ∷ p ∷ ps) ≡ beginning at (p ∷ ps) ++ beginning at (q ∷ [])
    front lt (inl e) =
        let none : beginning at (p ∷ ps) ≡ [] = none_beginning at p.first (p ∷ ps) (omega arith, w.1) (omega (arith, e)) in
        beginning_here at q (p ∷ ps) e ∙ ap (λ xs. q ∷ xs) none ∙ sym (beginning_here at q [] e) ∙ ap (λ xs. xs ++ beginning at (q ∷ [])) (sym none)
    front lt (inr ne) =
        beginning_elsewhere at q (p ∷ ps) ne ∙ sym (append-nil (beginning at (p ∷ ps))) ∙ ap (λ xs. beginning at (p ∷ ps) ++ xs) (sym (beginning_elsewhere at q [] ne))

    behind : (b : Bool) (xs ys zs : List Part) → xs ≡ ys ++ zs → cond b (p ∷ xs) xs ≡ cond b (p ∷ ys) ys ++ zs
    behind true xs ys zs e = ap (λ us. p ∷ us) e
    behind false xs ys zs e = e

    by : (b : Bool) → nat_lt q.first p.first ≡ b → beginning at (insert_part q ps) ≡ beginning at ps ++ beginning at (q ∷ [])
        → beginning at (if b then q ∷ p ∷ ps else p ∷ insert_part q ps) ≡ beginning at (p ∷ ps) ++ beginning at (q ∷ [])
    by true t again = front (ltb-true q.first p.first t) (cases_eq q.first at)
    by false t again = behind (eqb p.first at) (beginning at (insert_part q ps)) (beginning at ps) (beginning at (q ∷ [])) again

beginning_merged : (at : ℕ) (ps qs : List Part) → UpFrom 0 ps → beginning at (merged ps qs) ≡ beginning at ps ++ beginning at qs
beginning_merged at ps [] w = sym (append-nil (beginning at ps))
beginning_merged at ps (q ∷ qs) w =
    beginning_merged at (insert_part q ps) qs (insert_up 0 q ps w (omega arith))
    ∙ ap (λ xs. xs ++ beginning at qs) (beginning_insert at 0 q ps w)
    ∙ append_assoc (beginning at ps) (beginning at (q ∷ [])) (beginning at qs)
    ∙ ap (λ xs. beginning at ps ++ xs) (sym (filter-append (λ p. eqb p.first at) (q ∷ []) qs))

-- Lists that rise, and have the same parts at each place, are one.
same_up : (a b : ℕ) (xs ys : List Part) → UpFrom a xs → UpFrom b ys → ((at : ℕ) → beginning at xs ≡ beginning at ys) → xs ≡ ys
same_up a b [] [] v w same = refl
same_up a b [] (y ∷ ys) v w same = absurd (let e : [] ≡ y ∷ beginning y.first ys = same y.first ∙ beginning_here y.first y ys refl in cc)
same_up a b (x ∷ xs) [] v w same = absurd (let e : x ∷ beginning x.first xs ≡ [] = sym (beginning_here x.first x xs refl) ∙ same x.first in cc)
same_up a b (x ∷ xs) (y ∷ ys) v w same = by (cases_lt x.first y.first) (cases_lt y.first x.first) (same_up x.first y.first xs ys v.1 w.1)
  where
    heads : x.first ≡ y.first → x ∷ beginning x.first xs ≡ y ∷ beginning x.first ys
    heads e = sym (beginning_here x.first x xs refl) ∙ same x.first ∙ beginning_here x.first y ys (sym e)

    tails : x.first ≡ y.first → (at : ℕ) → beginning at xs ≡ beginning at ys
    tails e at = pick (cases_eq x.first at)
      where
        pick : (x.first ≡ at) ⊎ (x.first ≡ at → ⊥) → beginning at xs ≡ beginning at ys
        pick (inl here) =
            let both : x ∷ beginning at xs ≡ y ∷ beginning at ys = sym (beginning_here at x xs here) ∙ same at ∙ beginning_here at y ys (sym e ∙ here) in
            cc
        pick (inr ne) = sym (beginning_elsewhere at x xs ne) ∙ same at ∙ beginning_elsewhere at y ys (λ there. ne (e ∙ there))

    by : (x.first < y.first) ⊎ (y.first ≤ x.first) → (y.first < x.first) ⊎ (x.first ≤ y.first) → (((at : ℕ) → beginning at xs ≡ beginning at ys) → xs ≡ ys)
        → x ∷ xs ≡ y ∷ ys
    by (inl lt) other again =
        absurd (let e : x ∷ beginning x.first xs ≡ [] = sym (beginning_here x.first x xs refl) ∙ same x.first ∙ none_beginning x.first y.first (y ∷ ys) (omega arith, w.1) lt in cc)
    by (inr ge) (inl lt) again =
        absurd (let e : [] ≡ y ∷ beginning y.first ys = sym (none_beginning y.first x.first (x ∷ xs) (omega arith, v.1) lt) ∙ same y.first ∙ beginning_here y.first y ys refl in cc)
    by (inr ge) (inr le) again =
        let e : x.first ≡ y.first = omega arith in
        let head = heads e in
        let rest = again (tails e) in
        cc

-- what the code sorts by
tie_is : (a at : ℕ) → not (is_lt (nat_cmp at a)) && not (is_lt (nat_cmp a at)) ≡ eqb a at
tie_is a at = grind (arith, nat_tests)

shown_ties : (at : ℕ) (test : code_part.Part → Bool) → ((p : code_part.Part) → test p ≡ eqb p.first at) → (ps : List code_part.Part)
    → shown_parts (filter test ps) ≡ beginning at (shown_parts ps)
shown_ties at test is [] = refl
shown_ties at test is (p ∷ ps) = by (test p) refl (shown_ties at test is ps)
  where
    by : (b : Bool) → test p ≡ b → shown_parts (filter test ps) ≡ beginning at (shown_parts ps)
        → shown_parts (cond b (p ∷ filter test ps) (filter test ps)) ≡ beginning at (shown_parts (p ∷ ps))
    by true e again = ap (λ xs. shown_part p ∷ xs) again ∙ ap (λ b. cond b (shown_part p ∷ beginning at (shown_parts ps)) (beginning at (shown_parts ps))) (sym e ∙ is p)
    by false e again = again ∙ ap (λ b. cond b (shown_part p ∷ beginning at (shown_parts ps)) (beginning at (shown_parts ps))) (sym e ∙ is p)

ties_same : (at : ℕ) (x : code_part.Part) (xs ys : List code_part.Part) → IsStableByKey (λ p. p.first) nat_cmp xs ys → beginning at (shown_parts ys) ≡ beginning at (shown_parts xs)
ties_same at x xs ys stable =
    let probe : code_part.Part = record { first = at; bytes = x.bytes } in
    let test : code_part.Part → Bool = λ p. not (is_lt (nat_cmp at p.first)) && not (is_lt (nat_cmp p.first at)) in
    sym (shown_ties at test (λ p. tie_is p.first at) ys) ∙ ap shown_parts (stable probe) ∙ shown_ties at test (λ p. tie_is p.first at) xs

all_ties : (at : ℕ) (xs ys : List code_part.Part) → IsStableByKey (λ p. p.first) nat_cmp xs ys → beginning at (shown_parts ys) ≡ beginning at (shown_parts xs)
all_ties at [] [] stable = refl
all_ties at [] (y ∷ ys) stable = ties_same at y [] (y ∷ ys) stable
all_ties at (x ∷ xs) ys stable = ties_same at x (x ∷ xs) ys stable

sorted_up : (at : ℕ) (ps : List code_part.Part) → IsNonDecreasingBy (λ p. p.first) ps → All (λ p. at ≤ p.first) ps → UpFrom at (shown_parts ps)
sorted_up at [] w low = tt
sorted_up at (p ∷ ps) w low =
    (All-head (λ q. at ≤ q.first) p ps low, sorted_up p.first ps (λ i j d le lt. w (suc i) (suc j) d (omega arith) (omega arith)) (λ k d lt. w 0 (suc k) d (omega arith) (omega arith)))

-- the parts are sorted now, and those that begin at the same place keep their order
pub sorted_stably : (xs ys : List code_part.Part) → IsNonDecreasingBy (λ p. p.first) ys → IsStableByKey (λ p. p.first) nat_cmp xs ys → shown_parts ys ≡ merged [] (shown_parts xs)
sorted_stably xs ys sorted stable = same_up 0 0 (shown_parts ys) (merged [] (shown_parts xs)) (sorted_up 0 ys sorted (λ k d lt. omega arith)) (merged_up [] (shown_parts xs) tt)
    (λ at. all_ties at xs ys stable ∙ sym (beginning_merged at [] (shown_parts xs) tt))
