-- The cells of a row whose fields arrive in pieces.
use Rattle.std.proofs.Common.{◌≡◌, ◌<◌, ◌+◌, ◌∙◌, ℕ, zero, suc, List, [], ◌∷◌, ◌++◌, length, map, take}
use Rattle.std.proofs.Common.{refl, sym, ap, arith, Option, Some, None, Vec, get_or, slice_index_or}
use Rattle.std.proofs.lemmas.List.{map-append, take_more}
use Rattle.std.specs.declared.alloc.Global.{Global}
use Rattle.csv.specs.Records.{field_at}
use Rattle.feed_kbart.specs.Columns.{cell}

-- a row with one field, which is empty, has no cells
pub cell-none : (column : Option ℕ) → cell column ([] ∷ []) ≡ []
unfolding field_at
cell-none None = refl
cell-none (Some zero) = refl
cell-none (Some (suc k)) = refl

-- a list whose elements are those of another, each mapped
pub mapped : {A B : Type 0} (f : A → B) (xs : List A) (ys : List B) → length ys ≡ length xs
    → ((i : ℕ) (d : A) (e : B) → i < length xs → slice_index_or ys i e ≡ f (slice_index_or xs i d)) → ys ≡ map f xs
mapped f [] [] size same = refl
mapped f [] (y ∷ ys) size same = absurd (omega (arith, size))
mapped f (x ∷ xs) [] size same = absurd (omega (arith, size))
mapped f (x ∷ xs) (y ∷ ys) size same =
    let others = mapped f xs ys (omega (arith, size)) (λ i d e few. same (suc i) d e (omega (arith, few))) in
    ap (λ z. z ∷ ys) (same 0 x y (omega arith)) ∙ ap (λ zs. f x ∷ zs) others

-- cells that are equal at each place are equal
pub cells-same : (cells : List (Vec ℕ Global)) (columns : List (Option ℕ)) (fields : List (List ℕ)) → length cells ≡ length columns
    → ((slot : ℕ) (c : Option ℕ) (d : Vec ℕ Global) → slot < length cells → (slice_index_or cells slot d).items ≡ cell (slice_index_or columns slot c) fields)
    → map (λ v. v.items) cells ≡ map (λ column. cell column fields) columns
cells-same [] [] fields size same = refl
cells-same [] (column ∷ columns) fields size same = absurd (omega (arith, size))
cells-same (v ∷ cells) [] fields size same = absurd (omega (arith, size))
cells-same (v ∷ cells) (column ∷ columns) fields size same =
    let others = cells-same cells columns fields (omega (arith, size)) (λ slot c d few. same (suc slot) c d (omega (arith, few))) in
    ap (λ (l : List ℕ). l ∷ map (λ w. w.items) cells) (same 0 column v (omega arith)) ∙ ap (λ (l : List (List ℕ)). cell column fields ∷ l) others

-- the next cell is a field
pub cell-pushed : (cells : List (Vec ℕ Global)) (i : ℕ) (d : Vec ℕ Global) (fields next : List (List ℕ)) (partial text : List ℕ) → i < length cells
    → partial ≡ [] → text ≡ (get_or cells i d).items → fields ≡ map (λ v. v.items) (take i cells) → next ≡ fields ++ (partial ++ text) ∷ []
    → next ≡ map (λ v. v.items) (take (i + 1) cells)
cell-pushed cells i d fields next partial text within none own all pushed =
    let added : next ≡ map (λ v. v.items) (take i cells) ++ (get_or cells i d).items ∷ [] = rw (none, own, all) at pushed in
    added ∙ sym (ap (map (λ (v : Vec ℕ Global). v.items)) (take_more cells i d within) ∙ map-append (λ (v : Vec ℕ Global). v.items) (take i cells) (get_or cells i d ∷ []))
