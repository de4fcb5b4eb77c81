use Rattle.feed_bytes.specs.Trim.{trimmed}
use Rattle.feed_identifiers.proofs.PrintedIssn.{issn_again, issn_made}
use Rattle.feed_identifiers.proofs.laws.printed_issn_parses.Goals as goal

pub returns : goal.returns
returns c text printed read = issn_again printed (issn_made (trimmed text) printed read)
