use Rattle.std.proofs.Common.{◌∙◌, ap}
use Rattle.std.specs.Option.{option_and_then}
use Rattle.feed_identifiers.specs.Identifier.{isbn_in, issn_in}
use Rattle.feed_answer.specs.Pairs.{book_format, days_of_pair, has_format, is_other_format, is_other_version, isbn_of_pair, issn_of_pair, journal_format, volume_of_pair}
use Rattle.feed_answer.proofs.Parts.{any_more, first_more, set_more}
use Rattle.feed_answer.proofs.query.QueryParts.add.Goals as goal

pub returns : goal.returns
returns c seen are =
    let pair = c.args.pair.now in
    let own = c.identifier-identifier.ensures in
    record {
      version = any_more seen pair is_other_version _ _ are.version c.is_other_version.ensures;
      format = any_more seen pair is_other_format _ _ are.format c.is_other_format.ensures;
      journal = any_more seen pair (has_format journal_format) _ _ are.journal c.has_format.ensures;
      book = any_more seen pair (has_format book_format) _ _ are.book c.has_format-2.ensures;
      issns = set_more seen pair issn_of_pair _ _ c.issn_in.result are.issns (c.issn_in.ensures ∙ ap (option_and_then issn_in) own) c.in_ok-add_some.ensures;
      isbns = set_more seen pair isbn_of_pair _ _ c.isbn_in.result are.isbns (c.isbn_in.ensures ∙ ap (option_and_then isbn_in) own) c.in_ok-add_some-2.ensures;
      days = first_more seen pair days_of_pair _ c.days.result _ are.days c.days.ensures c.or-self.ensures;
      volume = first_more seen pair volume_of_pair _ c.volume.result _ are.volume c.volume.ensures c.or-self-2.ensures;
    }
