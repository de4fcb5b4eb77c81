-- A walk row by row, and release by release.
use Rattle.std.proofs.Common.{◌≡◌, ◌-◌, ℕ, zero, suc, Bool, true, List, [], ◌∷◌, ◌++◌, refl, sym, ap, ◌∙◌, arith, drop, length, map}
use Rattle.std.specs.Prelude.{fold, is_some}
use Rattle.std.proofs.lemmas.List.{drop-map, length-map}
use Rattle.std.proofs.lemmas.List.Sums.{fold-append}
use Rattle.feed_releases.specs.Actives.{ActiveValue}
use Rattle.node_titles.specs.Titles.{EntryValue, entry_of}
use Rattle.node_titles.specs.Walks.{WalkValue, rows_among, rows_in, walk_at, walk_from, with_row}

-- a walk that has ended stays as it is
pub ended_stays : (test : EntryValue → Bool) (walk : WalkValue) (rows : List EntryValue) → is_some walk.next ≡ true
    → fold (with_row test) walk rows ≡ walk
ended_stays test walk [] is = refl
ended_stays test walk (row ∷ rows) is =
    let same : with_row test walk row ≡ walk = rw is refl in
    ap (λ w. fold (with_row test) w rows) same ∙ ended_stays test walk rows is

-- the rows of releases behind the first ones
abbrev pub rows_behind : ℕ → List ActiveValue → List EntryValue
rows_behind skip [] = []
rows_behind skip (active ∷ actives) =
    map (entry_of active.name) (drop skip active.holdings.rows) ++ rows_behind (skip - length active.holdings.rows) actives

drop_append : {A : Type 0} (n : ℕ) (xs ys : List A) → drop n (xs ++ ys) ≡ drop n xs ++ drop (n - length xs) ys
drop_append zero [] ys = refl
drop_append zero (x ∷ xs) ys = let none : 0 ≡ 0 - length (x ∷ xs) = omega arith in ap (λ k. (x ∷ xs) ++ drop k ys) none
drop_append (suc n) [] ys = let all : suc n ≡ suc n - 0 = omega arith in ap (λ k. drop k ys) all
drop_append (suc n) (x ∷ xs) ys =
    let less : n - length xs ≡ suc n - length (x ∷ xs) = omega arith in
    drop_append n xs ys ∙ ap (λ k. drop n xs ++ drop k ys) less

pub behind_is : (skip : ℕ) (actives : List ActiveValue) → rows_behind skip actives ≡ drop skip (rows_among actives)
behind_is zero [] = refl
behind_is (suc skip) [] = refl
behind_is skip (active ∷ actives) =
    let rows = active.holdings.rows in
    let long : skip - length rows ≡ skip - length (rows_in active) = ap (λ n. skip - n) (sym (length-map rows (entry_of active.name))) in
    ap (λ l. l ++ rows_behind (skip - length rows) actives) (sym (drop-map (entry_of active.name) skip rows))
    ∙ ap (λ l. drop skip (rows_in active) ++ l) (behind_is (skip - length rows) actives)
    ∙ ap (λ n. drop skip (rows_in active) ++ drop n (rows_among actives)) long
    ∙ sym (drop_append skip (rows_in active) (rows_among actives))

-- before the first release
pub before_all : (test : EntryValue → Bool) (start : ℕ) (actives : List ActiveValue)
    → fold (with_row test) (walk_at start) (rows_behind start actives) ≡ walk_from test start (rows_among actives)
before_all test start actives = ap (λ l. fold (with_row test) (walk_at start) l) (behind_is start actives)

-- behind one more release
pub behind_one : (test : EntryValue → Bool) (skip : ℕ) (active : ActiveValue) (actives : List ActiveValue) (walk : WalkValue)
    → fold (with_row test) (fold (with_row test) walk (map (entry_of active.name) (drop skip active.holdings.rows)))
    (rows_behind (skip - length active.holdings.rows) actives)
    ≡ fold (with_row test) walk (rows_behind skip (active ∷ actives))
behind_one test skip active actives walk =
    sym (fold-append (with_row test) walk (map (entry_of active.name) (drop skip active.holdings.rows)) (rows_behind (skip - length active.holdings.rows) actives))
