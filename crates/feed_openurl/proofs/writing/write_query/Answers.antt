use Rattle.std.proofs.Common.{option_copied, sym}
use Rattle.feed_openurl.proofs.Sizes.{written_steps}
use Rattle.feed_openurl.proofs.writing.write_query.Goals as goal

pub returns : goal.returns
returns c =
    let version = rw c.in_ok-push_pair.was at c.push_pair.ensures in
    let issns = rw c.in_ok-push_issns.was at c.push_issns.ensures in
    let isbns = rw c.in_ok-push_isbns.was at c.push_isbns.ensures in
    let date = rw c.in_ok-push_date.was at c.push_date.ensures in
    let volume = rw c.in_ok-push_volume.was at c.push_volume.ensures in
    rw (volume, date, isbns, issns, version, c.new-out.ensures.items)
    (sym (written_steps c.args.issns.now c.args.isbns.now (option_copied c.args.date) (option_copied c.args.volume)))
