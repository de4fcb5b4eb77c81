use Rattle.std.proofs.Common.{IfErr, ◌+◌, ℕ, Ok, Err, sym, subst, arith}
use Rattle.feed_releases.specs.Feeds.{recorded}
use Rattle.feed_fetch.specs.declared.machine.Phase.{Phase}
use Rattle.feed_fetch.specs.declared.machine.Phase.TheVariants.{Offered}
use Rattle.feed_fetch.specs.declared.stop.Stop.TheVariants.{NoProgress}
use Rattle.feed_fetch.specs.Answers.{IsStoppedAt}
use Rattle.feed_fetch.specs.Effects.{IsFetchEvent}
use Rattle.feed_fetch.proofs.Extensions.{extends_more, extends_any, extends_none}
use Rattle.feed_fetch.proofs.Owed.{submitted_extends}
use Rattle.feed_fetch.proofs.Runs.{IsRun, taken_of, run_start, run_more, run_stops, run_ends, run_counts, run_extends, done_fetched}
use Rattle.feed_fetch.proofs.fetch_loop.fetch_file.Goals as goal

pub rounds-init : goal.rounds-init
rounds-init g c = record {
  running = λ e. let new = c.requires.new in cc;
  extends = extends_none (IsFetchEvent g.D.Dial.responses c.args.host.now c.args.name.now) (λ k. Unit {0}) (recorded c.args.feed.now) (λ h. tt);
  fills = λ file serves fit. run_start c.args.name.now file c.args.fetch.piece c.args.fetch.phase (recorded c.args.feed.now) c.requires.new;
}

pub returns-in_default-clause-gets : goal.returns-in_default-clause-gets
returns-in_default-clause-gets g c file serves fit =
    run_ends c.args.name.now file c.rounds.fetch.piece c.rounds.counter c.rounds.fetch.phase (recorded c.args.feed.now)
    (recorded c.rounds.feed) c.rounds.fetch.least
    c.in_default.ensures (c.rounds.invariant.fills file serves fit)

pub returns-in_default-clause-done : goal.returns-in_default-clause-done
returns-in_default-clause-done g c h is =
    done_fetched h c.args.name.now c.rounds.fetch.piece c.rounds.fetch.phase c.rounds.fetch.least c.rounds.invariant.running (c.in_default.ensures h is)

pub returns-in-Err-clause-extends : goal.returns-in-Err-clause-extends
returns-in-Err-clause-extends g c =
    extends_more (IsFetchEvent g.D.Dial.responses c.args.host.now c.args.name.now) (λ k. Unit {0}) (IsStoppedAt c.args.name.now c.in-Err.stop) (recorded c.args.feed.now)
    (recorded c.rounds.feed)
    (recorded c.take.new.feed)
    c.rounds.invariant.extends
    (run_extends g.D.Dial.responses c.args.host.now c.args.name.now c.rounds.fetch.piece c.rounds.fetch.phase c.in-Ask.request c.send-reply.result (IsStoppedAt c.args.name.now c.in-Err.stop)
    (recorded c.rounds.feed) (recorded c.take.new.feed) c.in-Ask.ensures c.send-reply.ensures.reply
    (submitted_extends (IsStoppedAt c.args.name.now c.in-Err.stop) c.args.name.now c.rounds.fetch.phase c.send-reply.result (recorded c.rounds.feed)
    (recorded c.take.new.feed) c.in-Err.ensures.owed))

pub returns-in-Err-clause-gets : goal.returns-in-Err-clause-gets
returns-in-Err-clause-gets g c file serves fit =
    run_stops g.D.Dial.responses c.args.host.now c.args.name.now file c.rounds.fetch.piece c.rounds.counter c.rounds.fetch.phase c.in-Ask.request c.send-reply.result c.in-Err.stop
    (recorded c.args.feed.now) (recorded c.rounds.feed) (recorded c.take.new.feed)
    (record { serves = serves; hosted = c.requires.host; fit = fit; least = c.rounds.fetch.least; most = c.rounds.fetch.most }) c.in-Ask.ensures c.send-reply.ensures.reply
    (taken_of c.args.name.now file c.rounds.fetch.piece c.rounds.fetch.phase c.send-reply.result (Err c.in-Err.stop) (recorded c.rounds.feed)
    (recorded c.take.new.feed) fit c.in-Err.ensures.opens c.in-Err.ensures.fills)
    (c.rounds.invariant.fills file serves fit)

pub returns-clause-gets : goal.returns-clause-gets
returns-clause-gets g c file serves fit =
    run_counts c.args.name.now file c.rounds.fetch.piece c.rounds.counter c.rounds.fetch.phase (recorded c.args.feed.now) (recorded c.rounds.feed)
    (Err NoProgress) fit
    c.rounds.fetch.least (omega arith) (c.rounds.invariant.fills file serves fit)

pub rounds-preserved : goal.rounds-preserved
rounds-preserved g c = record {
  running = λ e. let offered = c.in_default-take.ensures.phase in cc;
  extends = extends_any (IsFetchEvent g.D.Dial.responses c.args.host.now c.args.name.now) (λ k. IfErr c.take.result (λ stop. IsStoppedAt c.args.name.now stop k))
      (recorded c.args.feed.now)
      (recorded c.take.new.feed)
      (extends_more (IsFetchEvent g.D.Dial.responses c.args.host.now c.args.name.now) (λ k. Unit {0}) (λ k. IfErr c.take.result (λ stop. IsStoppedAt c.args.name.now stop k))
      (recorded c.args.feed.now)
      (recorded c.rounds.feed) (recorded c.take.new.feed) c.rounds.invariant.extends
      (run_extends g.D.Dial.responses c.args.host.now c.args.name.now c.rounds.fetch.piece c.rounds.fetch.phase c.in-Ask.request c.send-reply.result (λ k. IfErr c.take.result
      (λ stop. IsStoppedAt c.args.name.now stop k))
      (recorded c.rounds.feed) (recorded c.take.new.feed) c.in-Ask.ensures c.send-reply.ensures.reply
      (submitted_extends (λ k. IfErr c.take.result (λ stop. IsStoppedAt c.args.name.now stop k)) c.args.name.now c.rounds.fetch.phase c.send-reply.result (recorded c.rounds.feed)
      (recorded c.take.new.feed) c.take.ensures.owed)));
  fills = λ file serves fit.
      subst (λ (p : Phase). IsRun c.args.name.now file c.take.new.self.piece p (c.rounds.counter + 1) (recorded c.args.feed.now) (recorded c.take.new.feed))
      (sym c.in_default-take.ensures.phase)
      (subst (λ (piece : ℕ). IsRun c.args.name.now file piece Offered (c.rounds.counter + 1) (recorded c.args.feed.now) (recorded c.take.new.feed))
      (sym c.in_default-take.ensures.piece)
      (run_more g.D.Dial.responses c.args.host.now c.args.name.now file c.rounds.fetch.piece c.rounds.counter c.rounds.fetch.phase c.in-Ask.request c.send-reply.result
      (recorded c.args.feed.now)
      (recorded c.rounds.feed) (recorded c.take.new.feed)
      (record { serves = serves; hosted = c.requires.host; fit = fit; least = c.rounds.fetch.least; most = c.rounds.fetch.most }) c.in-Ask.ensures c.send-reply.ensures.reply
      (taken_of c.args.name.now file c.rounds.fetch.piece c.rounds.fetch.phase c.send-reply.result (Ok tt) (recorded c.rounds.feed) (recorded c.take.new.feed) fit
      c.in_default-take.ensures.opens c.in_default-take.ensures.fills)
      (c.rounds.invariant.fills file serves fit)));
}
