use Rattle.std.proofs.Common.{Ok, ap}
use Rattle.sqlite.specs.Held.{state}
use Rattle.sqlite.specs.Values.{bound}
use Rattle.feed_store_write.proofs.Inside.{kept_inside, ran_inside}
use Rattle.feed_store_write.proofs.statements.run.Goals as goal

pub returns-clause-ran : goal.returns-clause-ran
returns-clause-ran g c clean =
    ran_inside c.args.sql.now (bound c.args.params.now) (state g.S.Store c.args.tx.now.conn.now) (state g.S.Store c.execute.new.self.conn.now) (Ok c.in_ok-execute.field-0)
    (λ off. absurd (let e = (c.in_ok-execute.ensures.ended off).0 in cc)) (λ live. c.in_ok-execute.ensures.runs clean live)

pub returns-clause-inside : goal.returns-clause-inside
returns-clause-inside g c = record {
  same_reference = c.execute.ensures.same_reference;
  kept = λ clean. kept_inside c.args.sql.now (bound c.args.params.now) (state g.S.Store c.args.tx.now.conn.now) (state g.S.Store c.execute.new.self.conn.now) c.execute.result
      (λ off. ap (state g.S.Store) (c.execute.ensures.ended off).1) (λ live. c.execute.ensures.runs clean live);
  survives = c.execute.ensures.survives;
}

pub returns-in_err-execute-clause-inside : goal.returns-in_err-execute-clause-inside
returns-in_err-execute-clause-inside g c = record {
  same_reference = c.execute.ensures.same_reference;
  kept = λ clean. kept_inside c.args.sql.now (bound c.args.params.now) (state g.S.Store c.args.tx.now.conn.now) (state g.S.Store c.execute.new.self.conn.now) c.execute.result
      (λ off. ap (state g.S.Store) (c.execute.ensures.ended off).1) (λ live. c.execute.ensures.runs clean live);
  survives = c.execute.ensures.survives;
}
