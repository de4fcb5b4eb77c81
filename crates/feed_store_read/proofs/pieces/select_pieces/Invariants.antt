use Rattle.std.proofs.Common.{◌≡◌}
use Rattle.feed_model.specs.Content.{names}
use Rattle.feed_keep.specs.Shown.{shown}
use Rattle.feed_store_read.specs.Texts.{pieces_text}
use Rattle.feed_store_read.proofs.Streams.{IsUnderWay}
use Rattle.feed_store_read.specs.Pieces.{ShowPieces}
use Rattle.feed_store_read.proofs.pieces.select_pieces.Given as goal

abbrev pub invariant-rows : goal.invariant-rows
invariant-rows g l =
    let start = shown l.fn.found.records.items in record {
      way : IsUnderWay g.S.Store pieces_text (λ rows. ShowPieces rows l.ids.items start (shown l.found.records.items)) l.fn.conn l.initial.rows l.rows;
      ids : l.found.ids ≡ l.fn.found.ids;
      names : names (shown l.found.records.items) ≡ names start;
    }
