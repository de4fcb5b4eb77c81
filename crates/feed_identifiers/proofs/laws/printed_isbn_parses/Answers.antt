use Rattle.std.specs.List.{filter}
use Rattle.feed_bytes.specs.Trim.{trimmed, is_no_hyphen}
use Rattle.feed_identifiers.proofs.PrintedIsbn.{isbn_again, made_by}
use Rattle.feed_identifiers.proofs.laws.printed_isbn_parses.Goals as goal

pub returns : goal.returns
returns c text printed read = isbn_again printed (made_by (filter is_no_hyphen (trimmed text)) printed read)
