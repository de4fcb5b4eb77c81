-- The shares of releases: each has an equal one at least, and all together are bounded.
use Rattle.std.proofs.Common.{◌≡◌, ◌≤◌, ◌<◌, ◌+◌, ◌*◌, ◌/◌, max, min, ℕ, zero, suc, Bool, true, false, cond, List, [], ◌∷◌, refl, sym, ap, ◌∙◌, subst, arith}
use Rattle.std.specs.Prelude.{All, count_by, if◌then◌else◌, nat_le, nat_lt, sum, sum_by}
use Rattle.std.proofs.Math.Nat.{div-le_self, div-mul-le_self, mul-le-mul_left, mul-suc}
use Rattle.std.proofs.lemmas.Bool.Decides.{nat_tests}
use Rattle.std.proofs.lemmas.List.Elements.{All-cons, All-nil}
use Rattle.std.proofs.lemmas.List.Sums.{sum_by-cons}
use Rattle.node_hits.specs.Laws.{AreShares, EachHasShare}
use Rattle.node_hits.specs.Shares.{equal_share, having_rows, left_by, row_limit, row_share, shares_of, widened}

-- ---- sums

-- the smaller ones of a share and so many rows are no more than a share for each release that has rows
shares_bound : (share : ℕ) (counts : List ℕ) → sum_by (λ rows. min share rows) counts ≤ share * having_rows counts
shares_bound share [] = omega arith
shares_bound share (rows ∷ counts) =
    go (nat_lt 0 rows) refl (sum_by-cons (λ n. min share n) rows counts) (sum_by-cons (λ n. cond (nat_lt 0 n) 1 0) rows counts) (shares_bound share counts)
  where
    go : (b : Bool) → nat_lt 0 rows ≡ b → sum_by (λ n. min share n) (rows ∷ counts) ≡ min share rows + sum_by (λ n. min share n) counts
        → having_rows (rows ∷ counts) ≡ cond (nat_lt 0 rows) 1 0 + having_rows counts
        → sum_by (λ n. min share n) counts ≤ share * having_rows counts
        → sum_by (λ n. min share n) (rows ∷ counts) ≤ share * having_rows (rows ∷ counts)
    go true is first counted rest =
        let one : having_rows (rows ∷ counts) ≡ suc (having_rows counts) = counted ∙ ap (λ b. cond b 1 0 + having_rows counts) is ∙ omega arith in
        let times = mul-suc share (having_rows counts) in
        subst (λ n. sum_by (λ n. min share n) (rows ∷ counts) ≤ share * n) (sym one) (omega (arith, first, times, rest))
    go false is first counted rest =
        let none : rows ≡ 0 = (let test = is in grind (arith, nat_tests, test)) in
        let same : having_rows (rows ∷ counts) ≡ having_rows counts = counted ∙ ap (λ b. cond b 1 0 + having_rows counts) is ∙ omega arith in
        subst (λ n. sum_by (λ n. min share n) (rows ∷ counts) ≤ share * n) (sym same) (omega (arith, first, none, rest))

-- a wider share adds no more than its addition for each release that has more rows
widened_bound : (share more : ℕ) (counts : List ℕ)
    → sum_by (λ rows. min (share + more) rows) counts ≤ sum_by (λ rows. min share rows) counts + more * count_by (λ rows. nat_lt share rows) counts
widened_bound share more [] = omega arith
widened_bound share more (rows ∷ counts) =
    go (nat_lt share rows) refl (sum_by-cons (λ n. min (share + more) n) rows counts) (sum_by-cons (λ n. min share n) rows counts)
    (sum_by-cons (λ n. cond (nat_lt share n) 1 0) rows counts) (widened_bound share more counts)
  where
    above : List ℕ → ℕ
    above counts = count_by (λ n. nat_lt share n) counts

    go : (b : Bool) → nat_lt share rows ≡ b
        → sum_by (λ n. min (share + more) n) (rows ∷ counts) ≡ min (share + more) rows + sum_by (λ n. min (share + more) n) counts
        → sum_by (λ n. min share n) (rows ∷ counts) ≡ min share rows + sum_by (λ n. min share n) counts
        → above (rows ∷ counts) ≡ cond (nat_lt share rows) 1 0 + above counts
        → sum_by (λ n. min (share + more) n) counts ≤ sum_by (λ n. min share n) counts + more * above counts
        → sum_by (λ n. min (share + more) n) (rows ∷ counts) ≤ sum_by (λ n. min share n) (rows ∷ counts) + more * above (rows ∷ counts)
    go true is wide narrow counted rest =
        let one : above (rows ∷ counts) ≡ suc (above counts) = counted ∙ ap (λ b. cond b 1 0 + above counts) is ∙ omega arith in
        let times = mul-suc more (above counts) in
        subst (λ n. sum_by (λ n. min (share + more) n) (rows ∷ counts) ≤ sum_by (λ n. min share n) (rows ∷ counts) + more * n) (sym one)
        (omega (arith, wide, narrow, times, rest))
    go false is wide narrow counted rest =
        let few : rows ≤ share = (let test = is in grind (arith, nat_tests, test)) in
        let same : above (rows ∷ counts) ≡ above counts = counted ∙ ap (λ b. cond b 1 0 + above counts) is ∙ omega arith in
        subst (λ n. sum_by (λ n. min (share + more) n) (rows ∷ counts) ≤ sum_by (λ n. min share n) (rows ∷ counts) + more * n) (sym same)
        (omega (arith, wide, narrow, few, rest))

-- no sum of the smaller ones is more than the sum
smaller_bound : (share : ℕ) (counts : List ℕ) → sum_by (λ rows. min share rows) counts ≤ sum counts
smaller_bound share [] = omega arith
smaller_bound share (rows ∷ counts) =
    let first = sum_by-cons (λ n. min share n) rows counts in
    let all = sum_by-cons (λ n. n) rows counts in
    let rest = smaller_bound share counts in
    omega (arith, first, all, rest)

each_below : (limit : ℕ) (counts : List ℕ) → sum counts ≤ limit → All (λ rows. rows ≤ limit) counts
each_below limit [] few = All-nil (λ n. n ≤ limit)
each_below limit (rows ∷ counts) few =
    let all = sum_by-cons (λ n. n) rows counts in
    All-cons (λ n. n ≤ limit) rows counts (omega (arith, all, few)) (each_below limit counts (omega (arith, all, few)))

-- ---- the shares

pub equal_fits : (releases : ℕ) → equal_share releases * releases ≤ max 5000 releases
equal_fits releases = go (5000 / max 1 releases) (div-mul-le_self 5000 (max 1 releases))
  where
    go : (q : ℕ) → q * max 1 releases ≤ 5000 → max 1 q * releases ≤ max 5000 releases
    go zero le = omega arith
    go (suc q) le =
        let most = mul-le-mul_left (suc q) (let le : releases ≤ max 1 releases = omega arith in le) in
        let same : max 1 (suc q) ≡ suc q = omega arith in
        subst (λ n. n * releases ≤ max 5000 releases) (sym same) (omega (arith, most, le))

-- an addition for each release that has more rows is no more than what is left
additions_fit : (left releases : ℕ) → left / max 1 releases * releases ≤ left
additions_fit left releases =
    let most = mul-le-mul_left (left / max 1 releases) (let le : releases ≤ max 1 releases = omega arith in le) in
    let fits = div-mul-le_self left (max 1 releases) in
    omega (arith, most, fits)

widened_fits : (counts : List ℕ) → sum_by (λ rows. min (widened (equal_share (having_rows counts)) counts) rows) counts ≤ max 5000 (having_rows counts)
widened_fits counts =
    let share : ℕ = equal_share (having_rows counts) in
    let above : ℕ = count_by (λ rows. nat_lt share rows) counts in
    let more : ℕ = left_by share counts / max 1 above in
    let narrow = shares_bound share counts in
    let equal = equal_fits (having_rows counts) in
    let wide = widened_bound share more counts in
    let added = additions_fit (left_by share counts) above in
    omega (arith, narrow, equal, wide, added)

equal_small : (releases : ℕ) → equal_share releases ≤ 5000
equal_small releases = let small = div-le_self 5000 (max 1 releases) in omega (arith, small)

pub each_has_share : EachHasShare
each_has_share counts = go (nat_le (sum counts) row_limit) refl
  where
    share_by : Bool → ℕ
    share_by b = if b then row_limit else widened (equal_share (having_rows counts)) counts

    go : (b : Bool) → nat_le (sum counts) row_limit ≡ b → AreShares counts (shares_of counts)
    go true is =
        let same : row_share counts ≡ 5000 = ap share_by is in
        let small = equal_small (having_rows counts) in
        let smaller = smaller_bound (row_share counts) counts in
        let fits : sum counts ≤ 5000 = (let test = is in grind (arith, nat_tests, test)) in
        record {
          equal = omega (arith, same, small);
          texts = refl;
          bounded = omega (arith, smaller, fits);
          all = λ few. subst (λ n. All (λ rows. rows ≤ n) counts) (sym same) (each_below 5000 counts few);
        }
    go false is =
        let same : row_share counts ≡ widened (equal_share (having_rows counts)) counts = ap share_by is in
        let many : 5000 < sum counts = (let test = is in grind (arith, nat_tests, test)) in
        record {
          equal = omega (arith, same);
          texts = refl;
          bounded = subst (λ n. sum_by (λ rows. min n rows) counts ≤ max 5000 (having_rows counts)) (sym same) (widened_fits counts);
          all = λ few. absurd (omega (arith, many, few));
        }
