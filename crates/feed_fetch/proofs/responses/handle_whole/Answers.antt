use Rattle.std.proofs.Common.{rules, ◌≡◌, ◌<◌, ◌⊎◌, ◌∙◌, length, true, false, Result, Err, Bool, sym, subst, arith, IfErr}
use Rattle.std.specs.Prelude.{None, Ok}
use Rattle.feed_http.specs.declared.fetching.got.Got.TheVariants.{Whole}
use Rattle.feed_releases.specs.Feeds.{recorded}
use Rattle.feed_fetch.specs.declared.machine.Phase.TheVariants.{Offered}
use Rattle.feed_fetch.specs.declared.stop.Stop.{Stop}
use Rattle.feed_fetch.specs.declared.stop.Stop.TheVariants.{Print}
use Rattle.feed_fetch.specs.Answers.{HasCause, IsStoppedAt, response_or_stop}
use Rattle.feed_fetch.specs.Owed.{IsSubmitted, is_followed}
use Rattle.feed_fetch.proofs.Owed.{all_pieces, answered_so, last_piece, news_caused, news_printed, next_piece}
use Rattle.feed_fetch.proofs.responses.handle_whole.Goals as goal

pub returns-then-not-is_followed-clause-owed : goal.returns-then-not-is_followed-clause-owed
returns-then-not-is_followed-clause-owed g c =
    let n = c.args.name.now in
    let before = recorded c.args.feed.now in
    let after = recorded c.handle-answer.new.self in
    let lt : c.pieces.first < length c.args.bytes.now = search rules in
    let last : is_followed c.handle-answer.result ≡ false = search rules in
    let so : (c.report_answer.result ≡ response_or_stop c.handle-answer.result) ⊎ (c.report_answer.result ≡ Err Print) = answered_so c.report_answer.ensures.line in
    subst (λ (r : Result Bool Stop). IsSubmitted n Offered (Ok (Whole c.args.bytes.now)) (λ k. IfErr r (λ stop. IsStoppedAt n stop k)) before after) (sym c.add_news-taken.ensures)
    (last_piece before (recorded c.pieces.feed) after n c.args.bytes.now c.pieces.first c.min.result c.handle-answer.result c.pieces.taken c.report_answer.result lt c.min.ensures last
    c.pieces.invariant.printed so c.pieces.invariant.passed c.handle-answer.ensures.right)

pub pieces-preserved : goal.pieces-preserved
pieces-preserved g c =
    let lt : c.pieces.first < length c.args.bytes.now = search rules in
    let followed : is_followed c.handle-answer.result ≡ true = search rules in
    let so : (c.report_answer.result ≡ response_or_stop c.handle-answer.result) ⊎ (c.report_answer.result ≡ Err Print) = answered_so c.report_answer.ensures.line in
    record {
      within = let count = c.min.ensures in omega (arith, count, lt);
      passed = next_piece (recorded c.args.feed.now) (recorded c.pieces.feed) (recorded c.handle-answer.new.self) c.args.name.now c.args.bytes.now
          c.pieces.first c.min.result c.handle-answer.result lt c.min.ensures followed c.pieces.invariant.passed c.handle-answer.ensures.right;
      room = c.handle-answer.ensures.room ∙ c.pieces.invariant.room;
      printed = subst (λ (r : Result Bool Stop). IfErr r (λ stop. stop ≡ Print)) (sym c.add_news-taken.ensures)
          (news_printed c.handle-answer.result c.pieces.taken c.report_answer.result followed c.pieces.invariant.printed so);
      caused = subst (λ (r : Result Bool Stop). IfErr r (λ stop. HasCause (g.O.Observe.has_failed c.report_answer.new.out) None stop)) (sym c.add_news-taken.ensures)
          (news_caused (g.O.Observe.has_failed c.pieces.out) (g.O.Observe.has_failed c.report_answer.new.out) c.pieces.taken c.report_answer.result c.report_answer.ensures.kept
          c.pieces.invariant.caused c.report_answer.ensures.caused);
    }

pub returns-clause-owed : goal.returns-clause-owed
returns-clause-owed g c =
    all_pieces (recorded c.args.feed.now) (recorded c.pieces.feed) c.args.name.now c.args.bytes.now c.pieces.first c.pieces.taken (search rules)
    c.pieces.invariant.printed c.pieces.invariant.passed
