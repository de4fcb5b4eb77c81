use Rattle.std.proofs.Common.{inl, inr, subst}
use Rattle.std.proofs.lemmas.Result.{IfOk-weaker}
use Rattle.sqlite.specs.Held.{state}
use Rattle.feed_store_model.specs.Others.{HasLayout1Tables, HasLayout2Tables, IsFree}
use Rattle.feed_store.proofs.Placed.{first_here, foreign_by, if_err_then, new_here, second_here}
use Rattle.feed_store.proofs.adopt.prepare_beside_others.Goals as goal

pub returns-then-is_free-clause-prepared : goal.returns-then-is_free-clause-prepared
returns-then-is_free-clause-prepared g c =
    let free = subst IsFree c.schema.ensures.value (c.is_free.ensures.0 c.if-is_free.true) in
    IfOk-weaker c.make_tables.result _ _ (λ _ ran live. new_here g.S.Store c.args.conn.now c.make_tables.new.conn free (ran live.0)) c.make_tables.ensures.ran

pub returns-then-is_free-clause-foreign : goal.returns-then-is_free-clause-foreign
returns-then-is_free-clause-foreign g c = if_err_then c.make_tables.result _ _ (λ fault never is live. absurd (never is)) c.make_tables.ensures.cause

pub returns-then-has_layout_2_tables-clause-prepared : goal.returns-then-has_layout_2_tables-clause-prepared
returns-then-has_layout_2_tables-clause-prepared g c =
    let has = subst HasLayout2Tables c.schema-2.ensures.value (c.has_layout_2_tables.ensures.0 c.if-has_layout_2_tables.true) in
    IfOk-weaker c.check_number.result _ _ (λ _ found live. second_here g.S.Store c.args.conn.now c.check_number.new.conn has (found live.0) (c.check_number.ensures.same live))
    c.check_number.ensures.found

pub returns-then-has_layout_2_tables-clause-foreign : goal.returns-then-has_layout_2_tables-clause-foreign
returns-then-has_layout_2_tables-clause-foreign g c =
    let has = subst HasLayout2Tables c.schema-2.ensures.value (c.has_layout_2_tables.ensures.0 c.if-has_layout_2_tables.true) in
    if_err_then c.check_number.result _ _ (λ fault other is live. inr (inr (has, (other is live.0).0))) c.check_number.ensures.other

pub returns-then-has_layout_1_tables-clause-prepared : goal.returns-then-has_layout_1_tables-clause-prepared
returns-then-has_layout_1_tables-clause-prepared g c =
    let has = subst HasLayout1Tables c.schema-3.ensures.value (c.has_layout_1_tables.ensures.0 c.if-has_layout_1_tables.true) in
    IfOk-weaker c.upgrade_layout.result _ _ (λ _ up live. first_here g.S.Store c.args.conn.now c.upgrade_layout.new.conn has (up live)) c.upgrade_layout.ensures.upgraded

pub returns-then-has_layout_1_tables-clause-foreign : goal.returns-then-has_layout_1_tables-clause-foreign
returns-then-has_layout_1_tables-clause-foreign g c =
    let has = subst HasLayout1Tables c.schema-3.ensures.value (c.has_layout_1_tables.ensures.0 c.if-has_layout_1_tables.true) in
    if_err_then c.upgrade_layout.result _ _ (λ fault other is live. inr (inl (has, (other is live).0))) c.upgrade_layout.ensures.other

pub returns-clause-foreign : goal.returns-clause-foreign
returns-clause-foreign g c = λ is live.
    let db = (state g.S.Store c.args.conn.now).now in
    foreign_by db c.is_free.result c.has_layout_2_tables.result c.has_layout_1_tables.result c.if-is_free.false c.if-has_layout_2_tables.false c.if-has_layout_1_tables.false
    (λ h. c.is_free.ensures.1 (rw c.schema.ensures.value h)) (λ h. c.has_layout_2_tables.ensures.1 (rw c.schema-2.ensures.value h))
    (λ h. c.has_layout_1_tables.ensures.1 (rw c.schema-3.ensures.value h))
