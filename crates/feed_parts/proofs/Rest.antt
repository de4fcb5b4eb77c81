-- The parts of the code, as the definitions see them.
use Rattle.std.proofs.Common.{◌≡◌, ◌<◌, ◌≤◌, ◌+◌, ◌-◌, ◌^◌, min, ℕ, List, [], ◌∷◌, length, get_or, drop, vec_len, All, sym, ap, subst, arith}
use Rattle.std.proofs.lemmas.List.{drop_more, drop_all, length-map, get_or-map}
use Rattle.feed_model.specs.Content.{Part, end_of}
use Rattle.feed_parts.specs.declared.part.Part as code_part
use Rattle.feed_parts.specs.Shown.{shown_part, shown_parts}

-- what a loop has not come to yet
pub next : (ps : List code_part.Part) (i : ℕ) (p : code_part.Part) → i < length ps → p ≡ get_or ps i p → shown_parts (drop i ps) ≡ shown_part p ∷ shown_parts (drop (i + 1) ps)
next ps i p lt is = ap shown_parts (subst (λ q. drop i ps ≡ q ∷ drop (i + 1) ps) (sym is) (drop_more ps i p lt))

pub finished : (ps : List code_part.Part) (i : ℕ) → length ps ≤ i → shown_parts (drop i ps) ≡ []
finished ps i le = ap shown_parts (drop_all i ps le)

-- the end of a part inside a file
pub end_is : (p : code_part.Part) (end size : ℕ) → end ≡ min (p.first + vec_len p.bytes) (2 ^ 64 - 1) → end_of (shown_part p) ≤ size → size < 2 ^ 64 → end ≡ end_of (shown_part p)
end_is p end size is inside small = omega (arith, p.bytes.ok.0)

-- what holds of each part, seen from the code
pub all_code : (P : Part → Type 0) (ps : List code_part.Part) → All P (shown_parts ps) → All (λ p. P (shown_part p)) ps
all_code P ps all k d lt = subst P (get_or-map shown_part ps k d (shown_part d) lt) (all k (shown_part d) (omega (arith, length-map ps shown_part)))

pub item : (P : Part → Type 0) (ps : List code_part.Part) (i : ℕ) (p : code_part.Part) → i < length ps → p ≡ get_or ps i p → All P (shown_parts ps) → P (shown_part p)
item P ps i p lt is all = subst (λ q. P (shown_part q)) (sym is) (all_code P ps all i p lt)
