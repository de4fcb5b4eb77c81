-- The last part of a text is the last part of what follows its first one.
use Rattle.std.proofs.Common.{◌≡◌, ◌<◌, ◌==◌, ℕ, List, [], ◌∷◌, length, Bool, true, false, cond, refl, ap, sym, ◌∙◌, arith}
use Rattle.std.specs.List.{onto_first}
use Rattle.feed_bytes.specs.Parts.{IsFirstPart, parts_at}
use Rattle.node_monitoring.specs.Forwarded.{last_of, last_part}

onto_some : (x : ℕ) (parts : List (List ℕ)) → 0 < length (onto_first x parts)
onto_some x [] = omega arith
onto_some x (part ∷ parts) = omega arith

one_of : (c : Bool) (x : ℕ) (parts : List (List ℕ)) → 0 < length (cond c ([] ∷ parts) (onto_first x parts))
one_of true x parts = omega arith
one_of false x parts = onto_some x parts

some_part : (text : List ℕ) → 0 < length (parts_at 44 text)
some_part [] = omega arith
some_part (b ∷ text) = one_of (b == 44) b (parts_at 44 text)

later : (part : List ℕ) (parts : List (List ℕ)) → 0 < length parts → last_of (part ∷ parts) ≡ last_of parts
later part [] some = absurd (omega arith)
later part (next ∷ parts) some = refl

pub passed : (text part rest : List ℕ) → IsFirstPart 44 text part rest → last_part rest ≡ last_part text
passed text part rest first = sym (ap last_of first.parts ∙ later part (parts_at 44 rest) (some_part rest))

pub alone : (text : List ℕ) → parts_at 44 text ≡ text ∷ [] → last_part text ≡ text
alone text one = ap last_of one
