-- A text is its pieces, one after another.
use Rattle.std.proofs.Common.{◌≡◌, ◌≢◌, ◌↔◌, ◌+◌, ◌<◌, ◌≤◌, ℕ, zero, suc, min, List, [], ◌∷◌, ◌++◌, length, get_or, take, drop}
use Rattle.std.proofs.Common.{refl, sym, ap, ap₂, ◌∙◌, arith, inl, inr, drop-cons, length-drop, length-append, take-append-drop}
use Rattle.std.specs.List.{concat, flat_map}
use Rattle.std.proofs.lemmas.Bool.{cases_lt}
use Rattle.std.proofs.lemmas.List.{append-nil, append_assoc, append_cancel_left, drop_all, drop_at, nil_from_length, take_all, take_at}
use Rattle.std.proofs.lemmas.List.Concat.{flat_map-append}
use Rattle.sha2.specs.Sha256.{sha256}
use Rattle.node_response.specs.Pieces.{pieces, pieces_of}

-- the pieces are the same for each number that is large enough
enough : (m n : ℕ) (text : List ℕ) → length text ≤ m → length text ≤ n → pieces m text ≡ pieces n text
enough zero zero text few less = refl
enough zero (suc n) [] few less = refl
enough zero (suc n) (x ∷ xs) few less = absurd (omega arith)
enough (suc m) zero [] few less = refl
enough (suc m) zero (x ∷ xs) few less = absurd (omega arith)
enough (suc m) (suc n) [] few less = refl
enough (suc m) (suc n) (x ∷ xs) few less =
    let rest = length-drop 4096 (x ∷ xs) in
    ap (λ (parts : List (List ℕ)). take 4096 (x ∷ xs) ∷ parts) (enough m n (drop 4096 (x ∷ xs)) (omega arith) (omega arith))

-- the first bytes of a text, as many as a piece has
cut : (text chunk rest : List ℕ) → text ≡ chunk ++ rest → length chunk ≡ min 4096 (length text) → (take 4096 text ≡ chunk) × (drop 4096 text ≡ rest)
cut text chunk rest parts size =
    let sum = ap length parts ∙ length-append chunk rest in
    elim (cases_lt (length text) 4096) [
      | inl short ↦
          let none : rest ≡ [] = nil_from_length rest (omega arith) in
          let all : text ≡ chunk = parts ∙ ap (λ t. chunk ++ t) none ∙ append-nil chunk in
          (take_all 4096 text (omega arith) ∙ all, drop_all 4096 text (omega arith) ∙ sym none)
      | inr long ↦ (ap (take 4096) parts ∙ take_at chunk rest 4096 (omega arith), ap (drop 4096) parts ∙ drop_at chunk rest 4096 (omega arith))
    ]

-- the first piece, and those behind it
pub first_piece : (text chunk rest : List ℕ) → text ≡ chunk ++ rest → length chunk ≡ min 4096 (length text) → 0 < length text → pieces_of text ≡ chunk ∷ pieces_of rest
first_piece [] chunk rest parts size some = absurd (omega arith)
first_piece (x ∷ xs) chunk rest parts size some =
    let sum = ap length parts ∙ length-append chunk rest in
    let both = cut (x ∷ xs) chunk rest parts size in
    ap₂ (λ (c : List ℕ) (others : List (List ℕ)). c ∷ others) both.0
    (ap (pieces (length xs)) both.1 ∙ enough (length xs) (length rest) rest (omega arith) (omega arith))

joined : (n : ℕ) (text : List ℕ) → length text ≤ n → concat (pieces n text) ≡ text
joined zero [] few = refl
joined zero (x ∷ xs) few = absurd (omega arith)
joined (suc n) [] few = refl
joined (suc n) (x ∷ xs) few =
    let rest = length-drop 4096 (x ∷ xs) in
    ap (λ t. take 4096 (x ∷ xs) ++ t) (joined n (drop 4096 (x ∷ xs)) (omega arith)) ∙ take-append-drop 4096 (x ∷ xs)

-- all pieces, one after another, are the text
pieces_joined : (text : List ℕ) → concat (pieces_of text) ≡ text
pieces_joined text = joined (length text) text (omega arith)

-- one more piece of a text
pub one_more : (old new : List (List ℕ)) (piece chunk all rest text : List ℕ) → new ≡ old ++ piece ∷ [] → piece ≡ chunk → old ++ pieces_of all ≡ pieces_of text
    → all ≡ chunk ++ rest → length chunk ≡ min 4096 (length all) → 0 < length all → new ++ pieces_of rest ≡ pieces_of text
one_more old new piece chunk all rest text more same is parts size some =
    ap (λ items. items ++ pieces_of rest) more ∙ append_assoc old (piece ∷ []) (pieces_of rest) ∙ ap (λ c. old ++ c ∷ pieces_of rest) same
    ∙ ap (λ items. old ++ items) (sym (first_piece all chunk rest parts size some)) ∙ is

-- the digests of the pieces, with that of one more
pub one_digest : (old new : List (List ℕ)) (piece : List ℕ) → new ≡ old ++ piece ∷ [] → flat_map sha256 old ++ sha256 piece ≡ flat_map sha256 new
one_digest old new piece more =
    ap (λ t. flat_map sha256 old ++ t) (sym (append-nil (sha256 piece))) ∙ sym (flat_map-append sha256 old (piece ∷ [])) ∙ ap (flat_map sha256) (sym more)

-- where no bytes are left, the pieces are all of them
pub all_pieces : (items : List (List ℕ)) (rest text : List ℕ) → items ++ pieces_of rest ≡ pieces_of text → length rest ≡ 0 → items ≡ pieces_of text
all_pieces items rest text is none =
    sym (append-nil items) ∙ ap (λ t. items ++ pieces_of t) (sym (nil_from_length rest none)) ∙ is

pub text_of_pieces : (items : List (List ℕ)) (text : List ℕ) → items ≡ pieces_of text → concat items ≡ text
text_of_pieces items text is = ap concat is ∙ pieces_joined text

next : (items : List (List ℕ)) (i : ℕ) (d : List ℕ) → i < length items → concat (drop i items) ≡ get_or items i d ++ concat (drop (i + 1) items)
next items i d lt =
    let on : suc i ≡ i + 1 = omega arith in
    ap concat (drop-cons items i d lt) ∙ ap (λ (k : ℕ). get_or items i d ++ concat (drop k items)) on

-- a text is this one, as far as it is compared: the bytes behind a piece that both have are the same too
pub after_piece : (Same : Type 0) (items : List (List ℕ)) (i : ℕ) (d rest after piece : List ℕ) → Same ↔ (concat (drop i items) ≡ rest) → i < length items → piece ≡ get_or items i d
    → take (length piece) rest ≡ piece → after ≡ drop (length piece) rest → Same ↔ (concat (drop (i + 1) items) ≡ after)
after_piece Same items i d rest after piece is lt here front back =
    let on : piece ++ concat (drop (i + 1) items) ≡ concat (drop i items) = ap (λ t. t ++ concat (drop (i + 1) items)) here ∙ sym (next items i d lt) in
    let parts : piece ++ after ≡ rest = ap₂ (λ a b. a ++ b) (sym front) back ∙ take-append-drop (length piece) rest in (
      λ same. append_cancel_left piece _ _ (on ∙ is.0 same ∙ sym parts),
      λ e. is.1 (sym on ∙ ap (λ t. piece ++ t) e ∙ parts),
    )

-- and where it does not begin with the next piece, it is another one
pub other_piece : (Same : Type 0) (items : List (List ℕ)) (i : ℕ) (d rest piece : List ℕ) → Same ↔ (concat (drop i items) ≡ rest) → i < length items → piece ≡ get_or items i d
    → take (length piece) rest ≢ piece → ¬ Same
other_piece Same items i d rest piece is lt here other same =
    let begins : rest ≡ piece ++ concat (drop (i + 1) items) = sym (is.0 same) ∙ next items i d lt ∙ ap (λ t. t ++ concat (drop (i + 1) items)) (sym here) in
    other (ap (take (length piece)) begins ∙ take_at piece (concat (drop (i + 1) items)) (length piece) refl)
