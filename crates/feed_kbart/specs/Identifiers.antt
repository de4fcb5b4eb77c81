-- The identifiers of a row, and their numbers in the index.
use Rattle.std.specs.Prelude.{◌≡◌, ◌&&◌, ℕ, Bool, List, Option, IfSome, is_none, option_map}
use Rattle.std.specs.Option.{option_and_then}
use Rattle.feed_identifiers.specs.Identifier.{IsIdentifier, isbn_in, issn_in, key_of}
use Rattle.feed_identifiers.specs.Isbn.{isbn_of}
use Rattle.feed_identifiers.specs.Issn.{issn_of}
use Rattle.feed_identifiers.specs.declared.identifier.Identifier.{Identifier}
use Rattle.feed_identifiers.specs.declared.identifier.Identifier.TheVariants.{Issn, Isbn}
use Rattle.feed_kbart.specs.declared.identifiers.Identifiers.{Identifiers}
use Rattle.feed_kbart.specs.declared.identifiers.Kind.{Kind}
use Rattle.feed_kbart.specs.declared.identifiers.Kind.TheVariants.{Serial, Book}

-- the kind of title that identifiers belong to
abbrev pub kind : Identifiers → Kind
kind own = own.kind

-- the ISSN in print; a book has none
abbrev pub print_issn : Identifiers → Option (List ℕ)
print_issn own = option_and_then issn_in own.print

-- the ISSN online; a book has none
abbrev pub online_issn : Identifiers → Option (List ℕ)
online_issn own = option_and_then issn_in own.online

-- the ISBN in print; a serial has none
abbrev pub print_isbn : Identifiers → Option (List ℕ)
print_isbn own = option_and_then isbn_in own.print

-- the ISBN online; a serial has none
abbrev pub online_isbn : Identifiers → Option (List ℕ)
online_isbn own = option_and_then isbn_in own.online

-- parses an identifier of a title of this kind
abbrev pub identifier_of : Kind → List ℕ → Option Identifier
identifier_of Serial text = option_map Issn (issn_of text)
identifier_of Book text = option_map Isbn (isbn_of text)

-- parses both identifiers of such a title
abbrev pub identifiers_of : Kind → List ℕ → List ℕ → Identifiers
identifiers_of of print online = record { kind = of; print = identifier_of of print; online = identifier_of of online }

-- neither is valid
abbrev pub are_none : Identifiers → Bool
are_none own = is_none own.print && is_none own.online

-- the kind of title that has such an identifier
abbrev pub kind_with : Identifier → Kind
kind_with (Issn text) = Serial
kind_with (Isbn text) = Book

-- each is of the kind of the title
pub record AreOfKind (own : Identifiers) : Type 0 where
  pub print : IfSome own.print (λ one. kind_with one ≡ own.kind)
  pub online : IfSome own.online (λ one. kind_with one ≡ own.kind)

-- those present are in printed form
abbrev pub AreIdentifiers : Identifiers → Type 0
AreIdentifiers own = IfSome own.print IsIdentifier × IfSome own.online IsIdentifier

-- their numbers in the index
abbrev pub numbers : Identifiers → Option ℕ × Option ℕ
numbers own = (option_map key_of own.print, option_map key_of own.online)
