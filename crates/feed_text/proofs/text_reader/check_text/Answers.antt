use Rattle.feed_text.proofs.Readings.{read_nothing}
use Rattle.feed_text.proofs.text_reader.check_text.Goals as goal

pub returns : goal.returns
returns g c =
    let given = g.R.Read.remaining c.args.reader in
    c.check_rest.ensures.checked given (rw c.new.ensures.reader (read_nothing given c.new-2.result c.new-2.ensures))
