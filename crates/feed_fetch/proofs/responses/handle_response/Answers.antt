use Rattle.std.proofs.Common.{IfErr, Ok, sym, subst, ◌∙◌}
use Rattle.feed_http.specs.declared.fetching.got.Got.{Got}
use Rattle.feed_releases.specs.Feeds.{recorded}
use Rattle.feed_fetch.specs.declared.machine.Phase.TheVariants.{Offered}
use Rattle.feed_fetch.specs.Answers.{IsStoppedAt}
use Rattle.feed_fetch.specs.Owed.{IsSubmitted}
use Rattle.feed_fetch.proofs.Extensions.{piece_as_given}
use Rattle.feed_fetch.proofs.Owed.{one_piece}
use Rattle.feed_fetch.proofs.responses.handle_response.Goals as goal

pub returns-in-Piece-clause-piece : goal.returns-in-Piece-clause-piece
returns-in-Piece-clause-piece g c first total bytes e =
    piece_as_given (recorded c.args.feed.now) (recorded c.handle_piece.new.feed) c.args.name.now c.in-Piece.first first c.in-Piece.total total c.in-Piece.bytes bytes
    c.as_slice.result.now c.handle_piece.result
    (sym c.in-Piece.is ∙ e) c.as_slice.ensures c.handle_piece.ensures.right

pub returns-in-Piece-clause-owed : goal.returns-in-Piece-clause-owed
returns-in-Piece-clause-owed g c =
    let before = recorded c.args.feed.now in
    let after = recorded c.handle_piece.new.feed in
    subst (λ (given : Got). IsSubmitted c.args.name.now Offered (Ok given) (λ k. IfErr c.handle_piece.result (λ stop. IsStoppedAt c.args.name.now stop k)) before after) (sym c.in-Piece.is)
    (one_piece before after c.args.name.now c.in-Piece.first c.in-Piece.total c.in-Piece.bytes c.handle_piece.result
    (returns-in-Piece-clause-piece g c c.in-Piece.first c.in-Piece.total c.in-Piece.bytes c.in-Piece.is))
