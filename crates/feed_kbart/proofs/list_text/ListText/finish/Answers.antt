use Rattle.feed_text.specs.Records.{records_of}
use Rattle.feed_kbart.proofs.Pieces.{text_ended}
use Rattle.feed_kbart.proofs.list_text.ListText.finish.Goals as goal

pub returns : goal.returns
returns g c text small is =
    c.finish.ensures (records_of text)
    (text_ended g.K.KeepRows.keeps text c.args.self c.read_window.new.list small (rw (c.in_ok-read_window.was, c.deref.ensures.value) at c.read_window.ensures) is)
