-- The cells that are read from a block are those that were stored.
use Rattle.std.proofs.Common.{◌≡◌, ◌↔◌, ◌<◌, ◌+◌, ◌-◌, ◌∙◌, ℕ, suc, true, false, ltb, eqb, List, [], ◌∷◌, ◌++◌, length, drop, get_or}
use Rattle.std.proofs.Common.{refl, sym, ap, arith, append_assoc}
use Rattle.std.specs.Int.{to_le_bytes, w32}
use Rattle.std.specs.List.{All, flat_map}
use Rattle.std.proofs.Math.Seq.{drop-append_seam, take-append_seam}
use Rattle.std.proofs.lemmas.Bool.Decides.{nat_tests}
use Rattle.std.proofs.lemmas.List.{get_or_default}
use Rattle.std.proofs.lemmas.Nat.{from_le_bytes-to_le_bytes_4}
use Rattle.feed_kbart.specs.Rows.{row_of}
use Rattle.feed_kbart.specs.Stored.{IsShort, cells_of, cut, kept_cells, row_at, row_with_cells, split_long, split_text, text_bytes, texts_in}
use Rattle.feed_kbart.specs.declared.header.Columns.{Columns}
use Rattle.feed_kbart.proofs.Keeping.{row_of_kept}

not_mark : (n : ℕ) → ltb n 255 ≡ true → eqb n 255 ≡ false
not_mark n e = grind (arith, nat_tests)

cut_seam : (text bytes : List ℕ) → cut (length text) (text ++ bytes) ≡ (text, bytes)
cut_seam text bytes = rw (take-append_seam text bytes, drop-append_seam text bytes) refl

long_stored : (text bytes : List ℕ) → IsShort text → split_long (to_le_bytes w32 (length text) ++ (text ++ bytes)) ≡ (text, bytes)
long_stored text bytes short = ap (λ n. cut n (text ++ bytes)) (from_le_bytes-to_le_bytes_4 (length text) short) ∙ cut_seam text bytes

-- a stored text is read back
text_stored : (text bytes : List ℕ) → IsShort text → split_text (text_bytes text ++ bytes) ≡ (text, bytes)
text_stored text bytes short = elim (ltb (length text) 255) as (λ b. ltb (length text) 255 ≡ b → split_text (text_bytes text ++ bytes) ≡ (text, bytes)) [
  | true ↦ λ e. rw (e, not_mark (length text) e) (cut_seam text bytes)
  | false ↦ λ e. rw e (long_stored text bytes short)
] refl

-- and so are stored texts
pub texts_stored : (texts : List (List ℕ)) (bytes : List ℕ) → All IsShort texts → texts_in (length texts) (flat_map text_bytes texts ++ bytes) ≡ texts
unfolding texts_in
texts_stored [] bytes short = refl
texts_stored (text ∷ texts) bytes short =
    let first = text_stored text (flat_map text_bytes texts ++ bytes) (short 0 text (omega arith)) in
    let rest = texts_stored texts bytes (λ k d within. short (suc k) d (omega (arith, within))) in
    rw (append_assoc (text_bytes text) (flat_map text_bytes texts) bytes, first, rest) refl

-- the row that is stored after other bytes
pub row_stored : (before more : List ℕ) (columns : Columns) (number : ℕ) (fields : List (List ℕ)) → All IsShort (kept_cells (cells_of columns fields))
    → row_at number (drop (length before) ((before ++ flat_map text_bytes (kept_cells (cells_of columns fields))) ++ more)) ≡ row_of columns number fields
row_stored before more columns number fields short =
    let cells = kept_cells (cells_of columns fields) in
    ap (λ bytes. row_at number (drop (length before) bytes)) (append_assoc before (flat_map text_bytes cells) more)
    ∙ ap (row_at number) (drop-append_seam before (flat_map text_bytes cells ++ more))
    ∙ ap (row_with_cells number) (texts_stored cells more short)
    ∙ row_of_kept columns fields number

-- blocks have the same texts exactly if their first texts are the same, and those after them
texts_split : (n : ℕ) (bytes : List ℕ) → texts_in (suc n) bytes ≡ (split_text bytes).0 ∷ texts_in n (split_text bytes).1
unfolding texts_in
texts_split n bytes = refl

module _ (n : ℕ) (left right : List ℕ) where
  joined : (split_text left).0 ≡ (split_text right).0 → texts_in n (split_text left).1 ≡ texts_in n (split_text right).1 → texts_in (suc n) left ≡ texts_in (suc n) right
  joined first rest = texts_split n left ∙ (λ i. first i ∷ rest i) ∙ sym (texts_split n right)

  parted : texts_in (suc n) left ≡ texts_in (suc n) right → (split_text left).0 ∷ texts_in n (split_text left).1 ≡ (split_text right).0 ∷ texts_in n (split_text right).1
  parted same = sym (texts_split n left) ∙ same ∙ texts_split n right

-- texts are compared one by one until two of them differ
module _ (count k : ℕ) (left right : List ℕ) (W : Type 0) (within : k < count) (so_far : (texts_in (count - k) left ≡ texts_in (count - k) right) ↔ W) where
  more : count - k ≡ suc (count - (k + 1))
  more = omega (arith, within)

  these : (texts_in (suc (count - (k + 1))) left ≡ texts_in (suc (count - (k + 1))) right) ↔ W
  these = rw more at so_far

  pub same_next : (split_text left).0 ≡ (split_text right).0
      → (texts_in (count - (k + 1)) (split_text left).1 ≡ texts_in (count - (k + 1)) (split_text right).1) ↔ W
  same_next first = (
    λ rest. these.0 (joined (count - (k + 1)) left right first rest),
    λ whole. ap (drop 1) (parted (count - (k + 1)) left right (these.1 whole)),
  )

  pub differ_here : ((split_text left).0 ≡ (split_text right).0 → ⊥) → W → ⊥
  differ_here other whole = other (ap (λ texts. get_or texts 0 []) (parted (count - (k + 1)) left right (these.1 whole)))

-- blocks without texts have the same
pub none_left : (left right : List ℕ) → texts_in 0 left ≡ texts_in 0 right
unfolding texts_in
none_left left right = refl

-- what holds of the first places, and of the next
pub holds_next : {X : Type 0} (P : X → Type 0) (xs : List X) (i : ℕ) (x : X) → x ≡ get_or xs i x → i < length xs
    → ((k : ℕ) (d : X) → k < i → P (get_or xs k d)) → P x → (k : ℕ) (d : X) → k < i + 1 → P (get_or xs k d)
holds_next P xs i x is within all one k d h = elim (eqb k i) as (λ b. eqb k i ≡ b → P (get_or xs k d)) [
  | true ↦ λ e.
      let same : k ≡ i = grind (arith, nat_tests) in
      rw (same, get_or_default xs i d x within, ← is) one
  | false ↦ λ e. all k d (grind (arith, nat_tests))
] refl
