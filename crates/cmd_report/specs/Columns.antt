-- The columns of two rows, one by one, as a list is read.
use Rattle.std.specs.Prelude.{Bool, true, false, nat_eq}
use Rattle.std.specs.Option.{option_eq}
use Rattle.std.specs.Ordering.{int_eq}
use Rattle.std.specs.Str.{bytes_eq}
use Rattle.feed_identifiers.specs.Identifier.{identifier_eq}
use Rattle.feed_kbart.specs.Identifiers.{kind}
use Rattle.feed_kbart.specs.RowValue.{RowValue}
use Rattle.feed_kbart.specs.declared.identifiers.Identifiers.{Identifiers}
use Rattle.feed_kbart.specs.declared.identifiers.Kind.{Kind}
use Rattle.feed_kbart.specs.declared.identifiers.Kind.TheVariants as of
use Rattle.feed_kbart.specs.declared.label.Label.{Label}
use Rattle.feed_kbart.specs.declared.label.Label.TheVariants.{PublicationTitle, PrintIdentifier, OnlineIdentifier, DateFirstIssueOnline, NumFirstVolOnline}
use Rattle.feed_kbart.specs.declared.label.Label.TheVariants.{DateLastIssueOnline, NumLastVolOnline, TitleUrl, TitleId, EmbargoInfo, CoverageDepth}
use Rattle.feed_kbart.specs.declared.label.Label.TheVariants.{PublicationType, AccessType}

-- whether a kind is that of books
abbrev pub is_book_kind : Kind → Bool
is_book_kind of.Serial = false
is_book_kind of.Book = true

-- whether identifiers are a book's
abbrev pub is_book : Identifiers → Bool
is_book identifiers = is_book_kind (kind identifiers)

-- whether both are true or both are false
abbrev pub is_same_answer : Bool → Bool → Bool
is_same_answer true true = true
is_same_answer true false = false
is_same_answer false true = false
is_same_answer false false = true

-- whether two rows have the same value in a column
abbrev pub is_same : Label → RowValue → RowValue → Bool
is_same PublicationTitle one other = bytes_eq one.title other.title
is_same PrintIdentifier one other = option_eq identifier_eq one.identifiers.print other.identifiers.print
is_same OnlineIdentifier one other = option_eq identifier_eq one.identifiers.online other.identifiers.online
is_same DateFirstIssueOnline one other = option_eq int_eq one.first_day other.first_day
is_same NumFirstVolOnline one other = option_eq nat_eq one.first_volume other.first_volume
is_same DateLastIssueOnline one other = option_eq int_eq one.last_day other.last_day
is_same NumLastVolOnline one other = option_eq nat_eq one.last_volume other.last_volume
is_same TitleUrl one other = bytes_eq one.url other.url
is_same TitleId one other = bytes_eq one.title_id other.title_id
is_same EmbargoInfo one other = bytes_eq one.embargo other.embargo
is_same CoverageDepth one other = bytes_eq one.depth other.depth
is_same PublicationType one other = is_same_answer (is_book one.identifiers) (is_book other.identifiers)
is_same AccessType one other = bytes_eq one.access other.access
