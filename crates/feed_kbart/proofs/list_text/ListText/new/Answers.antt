use Rattle.feed_kbart.proofs.Pieces.{text_none}
use Rattle.feed_kbart.proofs.list_text.ListText.new.Goals as goal

pub returns : goal.returns
returns g c = text_none g.K.KeepRows.keeps _ c.new.ensures.items c.new-2.ensures
