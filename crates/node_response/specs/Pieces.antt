-- The digest of a long text, by its pieces.
use Rattle.std.specs.Prelude.{ℕ, zero, suc, List, [], ◌∷◌, length, take, drop}
use Rattle.std.specs.List.{flat_map}
use Rattle.sha2.specs.Sha256.{sha256}

-- the first n pieces of a text: each has 4,096 bytes, but the last of the text may have fewer
abbrev pub pieces : (n : ℕ) → List ℕ → List (List ℕ)
pieces zero text = []
pieces (suc n) [] = []
pieces (suc n) (byte ∷ text) = take 4096 (byte ∷ text) ∷ pieces n (drop 4096 (byte ∷ text))

-- all pieces of a text
abbrev pub pieces_of : List ℕ → List (List ℕ)
pieces_of text = pieces (length text) text

-- the digest of the digests of pieces
abbrev pub digest_of_pieces : List (List ℕ) → List ℕ
digest_of_pieces parts = sha256 (flat_map sha256 parts)

-- the digest of a text
abbrev pub pieces_digest : List ℕ → List ℕ
pieces_digest text = digest_of_pieces (pieces_of text)
