-- The part that begins first is the first of the merged ones.
use Rattle.std.proofs.Common.{if◌then◌else◌, ◌≡◌, ◌<◌, ◌≤◌, ℕ, List, [], ◌∷◌, All, refl, ◌∙◌, ap, arith}
use Rattle.std.proofs.lemmas.Bool.{le-ltb, lt-ltb}
use Rattle.std.proofs.lemmas.List.Elements.{All-nil, All-head, All-tail, All-cons}
use Rattle.feed_model.specs.Content.{Part, end_of, ArePartsFrom}
use Rattle.feed_model.specs.Change.{insert_part, merged}
use Rattle.feed_parts.proofs.Places.{starts_earlier}

insert_ahead : (q p : Part) (ps : List Part) → q.first < p.first → insert_part q (p ∷ ps) ≡ q ∷ p ∷ ps
insert_ahead q p ps lt = ap (λ b. if b then q ∷ p ∷ ps else p ∷ insert_part q ps) (lt-ltb q.first p.first lt)

insert_behind : (q p : Part) (ps : List Part) → p.first ≤ q.first → insert_part q (p ∷ ps) ≡ p ∷ insert_part q ps
insert_behind q p ps le = ap (λ b. if b then q ∷ p ∷ ps else p ∷ insert_part q ps) (le-ltb q.first p.first le)

starts_behind : (at : ℕ) (ps : List Part) → ArePartsFrom at ps → All (λ p. at ≤ p.first) ps
starts_behind at [] w = All-nil (λ p. at ≤ p.first)
starts_behind at (p ∷ ps) w = All-cons (λ q. at ≤ q.first) p ps w.0 (starts_behind at ps (starts_earlier (end_of p) at ps (omega (arith, w.0)) w.3))

ahead_of_all : (p : Part) (ps qs : List Part) → All (λ q. p.first ≤ q.first) qs → merged (p ∷ ps) qs ≡ p ∷ merged ps qs
ahead_of_all p ps [] all = refl
ahead_of_all p ps (q ∷ qs) all =
    ap (λ xs. merged xs qs) (insert_behind q p ps (All-head (λ r. p.first ≤ r.first) q qs all))
    ∙ ahead_of_all p (insert_part q ps) qs (All-tail (λ r. p.first ≤ r.first) q qs all)

-- a part of the first list
pub kept_leads : (at : ℕ) (p q : Part) (ps qs : List Part) → ArePartsFrom at (q ∷ qs) → p.first ≤ q.first → merged (p ∷ ps) (q ∷ qs) ≡ p ∷ merged ps (q ∷ qs)
kept_leads at p q ps qs w le = ahead_of_all p ps (q ∷ qs) (starts_behind p.first (q ∷ qs) (le, w.1, w.2, w.3))

-- a part of the second list
new_leads : (at : ℕ) (q : Part) (ps qs : List Part) → ArePartsFrom at (q ∷ qs) → insert_part q ps ≡ q ∷ ps → merged ps (q ∷ qs) ≡ q ∷ merged ps qs
new_leads at q ps qs w first = ap (λ xs. merged xs qs) first ∙ ahead_of_all q ps qs (starts_behind q.first qs (starts_earlier (end_of q) q.first qs (omega arith) w.3))

pub new_leads_kept : (at : ℕ) (p q : Part) (ps qs : List Part) → ArePartsFrom at (q ∷ qs) → q.first < p.first → merged (p ∷ ps) (q ∷ qs) ≡ q ∷ merged (p ∷ ps) qs
new_leads_kept at p q ps qs w lt = new_leads at q (p ∷ ps) qs w (insert_ahead q p ps lt)

pub new_leads_none : (at : ℕ) (q : Part) (qs : List Part) → ArePartsFrom at (q ∷ qs) → merged [] (q ∷ qs) ≡ q ∷ merged [] qs
new_leads_none at q qs w = new_leads at q [] qs w refl
