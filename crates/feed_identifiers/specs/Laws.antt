-- Laws of identifiers.
use Rattle.std.specs.Prelude.{◌≡◌, ℕ, List, [], ◌∷◌, ◌++◌, length, take, codes, Option, Some}
use Rattle.feed_identifiers.specs.Identifier.{IsIdentifier, key_of}
use Rattle.feed_identifiers.specs.Isbn as isbn
use Rattle.feed_identifiers.specs.declared.identifier.Identifier.{Identifier}

-- the printed form of whatever parses parses as itself
abbrev pub PrintedFormParses : (List ℕ → Option (List ℕ)) → Type 0
PrintedFormParses read = (text printed : List ℕ) → read text ≡ Some printed → read printed ≡ Some printed

-- two identifiers with one key are the same
abbrev pub OneIdentifierForKey : Type 0
OneIdentifierForKey = (one other : Identifier) → IsIdentifier one → IsIdentifier other → key_of one ≡ key_of other → one ≡ other

-- a ten-character ISBN equals the one of thirteen digits with 978, the same nine digits, and their check digit
abbrev pub TenAreThirteen : Type 0
TenAreThirteen =
    (characters printed : List ℕ) → length characters ≡ 10 → isbn.isbn_of_characters characters ≡ Some printed
    → (digit : ℕ) × (isbn.isbn_of_characters (codes "978" ++ take 9 characters ++ digit ∷ []) ≡ Some printed)
