-- Identifiers of serials and books: an ISSN or an ISBN.
use Rattle.std.specs.Prelude.{ℕ, ◌+◌, Bool, false, List, Option, Some, None}
use Rattle.std.specs.Str.{bytes_eq}
use Rattle.feed_identifiers.specs.Isbn as isbn
use Rattle.feed_identifiers.specs.Issn as issn
use Rattle.feed_identifiers.specs.declared.identifier.Identifier.{Identifier}
use Rattle.feed_identifiers.specs.declared.identifier.Identifier.TheVariants.{Issn, Isbn}

-- the printed form
abbrev pub text_of : Identifier → List ℕ
text_of (Issn text) = text
text_of (Isbn text) = text

-- the text is that of an ISSN or of an ISBN
abbrev pub IsIdentifier : Identifier → Type 0
IsIdentifier (Issn text) = issn.IsIssn text
IsIdentifier (Isbn text) = isbn.IsIsbn text

-- the number in an index; that of an ISBN is above those of ISSNs, which have seven digits
abbrev pub key_of : Identifier → ℕ
key_of (Issn text) = issn.number_of text
key_of (Isbn text) = 10000000 + isbn.number_of text

-- the ISSN, and the ISBN, if it is one
abbrev pub issn_in : Identifier → Option (List ℕ)
issn_in (Issn text) = Some text
issn_in (Isbn text) = None

abbrev pub isbn_in : Identifier → Option (List ℕ)
isbn_in (Issn text) = None
isbn_in (Isbn text) = Some text

-- two identifiers are the same
abbrev pub identifier_eq : Identifier → Identifier → Bool
identifier_eq (Issn one) (Issn other) = bytes_eq one other
identifier_eq (Isbn one) (Isbn other) = bytes_eq one other
identifier_eq (Issn one) (Isbn other) = false
identifier_eq (Isbn one) (Issn other) = false
