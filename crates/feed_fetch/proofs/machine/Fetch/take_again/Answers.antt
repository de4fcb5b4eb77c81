use Rattle.std.proofs.Common.{rules, ◌≡◌, Ok, Result, refl, sym, subst}
use Rattle.std.specs.Prelude.{IfErr}
use Rattle.feed_http.specs.declared.fetching.got.Got.{Got}
use Rattle.feed_http.specs.declared.fetching.got.Got.TheVariants.{Piece}
use Rattle.feed_releases.specs.Feeds.{recorded}
use Rattle.feed_fetch.specs.declared.stop.RequestFault.{RequestFault}
use Rattle.feed_fetch.specs.declared.stop.Stop.{Stop}
use Rattle.feed_fetch.specs.declared.machine.Phase.{Phase}
use Rattle.feed_fetch.specs.declared.machine.Phase.TheVariants.{Offered}
use Rattle.feed_fetch.specs.Answers.{IsStoppedAt}
use Rattle.feed_fetch.specs.Owed.{IsSubmitted}
use Rattle.feed_fetch.specs.Steps.{without_news}
use Rattle.feed_fetch.proofs.Extensions.{piece_as_given}
use Rattle.feed_fetch.proofs.Owed.{again_submitted, one_piece}
use Rattle.feed_fetch.proofs.machine.Fetch.take_again.Goals as goal

pub returns-in-Offered-Ok-Piece-clause-owed : goal.returns-in-Offered-Ok-Piece-clause-owed
returns-in-Offered-Ok-Piece-clause-owed g c =
    let i = c.in-Offered-Ok-Piece in
    let n = c.args.name.now in
    let given = Piece i.first i.total i.bytes in
    let before = recorded c.args.feed.now in
    let after = recorded c.handle_piece-taken.new.feed in
    let phase : c.args.self.now.phase ≡ Offered = search rules in
    let reply : c.args.reply.now ≡ Ok given = search rules in
    let right = piece_as_given before after n i.first i.first i.total i.total i.bytes i.bytes c.as_slice.result.now c.handle_piece-taken.result refl c.as_slice.ensures
    c.handle_piece-taken.ensures.right in
    let taken = again_submitted n Offered (Ok given) before after c.handle_piece-taken.result
    (one_piece before after n i.first i.total i.bytes c.handle_piece-taken.result right) in
    subst (λ (r : Result (Unit {0}) Stop). IsSubmitted n c.args.self.now.phase c.args.reply.now (λ k. IfErr r (λ stop. IsStoppedAt n stop k)) before after) (sym c.without_news-outcome.ensures)
    (subst (λ (p : Phase). IsSubmitted n p c.args.reply.now (λ k. IfErr (without_news c.handle_piece-taken.result) (λ stop. IsStoppedAt n stop k)) before after) (sym phase)
    (subst (λ (r : Result Got RequestFault). IsSubmitted n Offered r (λ k. IfErr (without_news c.handle_piece-taken.result) (λ stop. IsStoppedAt n stop k)) before after) (sym reply) taken))
