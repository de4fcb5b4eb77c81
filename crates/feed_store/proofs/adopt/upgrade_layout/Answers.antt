use Rattle.std.proofs.Common.{[], refl, ◌∙◌}
use Rattle.sqlite.specs.Held.{state}
use Rattle.feed_keep.specs.Shown.{shown}
use Rattle.feed_store.proofs.Placed.{converted, passed_on}
use Rattle.feed_store.proofs.Reasoned.{moved}
use Rattle.feed_store.proofs.adopt.upgrade_layout.Goals as goal

pub returns-clause-first : goal.returns-clause-first
returns-clause-first g c live schema =
    let early = c.read_with_reasons.ensures.live (c.upgrade.ensures.live live) in
    (c.in_ok-check_number.ensures.reported early.0 [] [] schema).1.0 refl

pub returns-clause-moved : goal.returns-clause-moved
returns-clause-moved g c live earlier =
    let late = c.upgrade.ensures.live live in
    let early = c.read_with_reasons.ensures.live late in
    let new = state g.S.Store c.upgrade.new.conn in
    moved (state g.S.Store c.args.conn.now).now (state g.S.Store c.check_number.new.conn).now (state g.S.Store c.read_with_reasons.new.conn).now new.now (shown c.in_ok-records.records.items)
    (c.check_number.ensures.same early) (c.read_with_reasons.ensures.same late) earlier c.in_ok-records.ensures.stored
    (c.in_ok-records.ensures.read late) (rw c.deref.ensures.value at c.in_ok-upgrade.ensures.whole live)

pub returns-clause-upgraded : goal.returns-clause-upgraded
returns-clause-upgraded g c live =
    let late = c.upgrade.ensures.live live in
    let early = c.read_with_reasons.ensures.live late in
    let same = c.read_with_reasons.ensures.same late ∙ c.check_number.ensures.same early in
    (c.in_ok-check_number.ensures.found early.0, shown c.in_ok-records.records.items, (c.read_with_reasons.new.conn, same, rw c.deref.ensures.value at c.in_ok-upgrade.ensures.ran live.0))

pub returns-in_err-check_number-clause-other : goal.returns-in_err-check_number-clause-other
returns-in_err-check_number-clause-other g c =
    passed_on c.from_residual.result c.in_err-check_number.field-0.0 _ c.from_residual.ensures.1 (λ is live.
    let bad = c.in_err-check_number.ensures.other is live.0 in (bad.0, λ schema version. let e = (bad.1 [] [] schema).1.1 version in cc))

pub returns-in_err-check_number-clause-neither : goal.returns-in_err-check_number-clause-neither
returns-in_err-check_number-clause-neither g c live =
    passed_on c.from_residual.result c.in_err-check_number.field-0.0 _ c.from_residual.ensures.1 (c.check_number.ensures.same live)

pub returns-in_err-records-clause-neither : goal.returns-in_err-records-clause-neither
returns-in_err-records-clause-neither g c live =
    passed_on c.from_residual-in_err-records.result c.in_err-records.field-0.0 _ c.from_residual-in_err-records.ensures.1
    (c.read_with_reasons.ensures.same live ∙ c.check_number.ensures.same (c.read_with_reasons.ensures.live live))

pub returns-in_err-records-clause-other : goal.returns-in_err-records-clause-other
returns-in_err-records-clause-other g c =
    passed_on c.from_residual-in_err-records.result c.in_err-records.field-0.0 _ c.from_residual-in_err-records.ensures.1 (λ is live. absurd (c.in_err-records.ensures.cause is))

pub returns-in_err-upgrade-clause-neither : goal.returns-in_err-upgrade-clause-neither
returns-in_err-upgrade-clause-neither g c live =
    let late = c.upgrade.ensures.live live in
    converted c.from_residual-in_err-upgrade.result _ _ c.from_residual-in_err-upgrade.ensures.1
    (λ e is. c.in_err-upgrade.ensures.neither live ∙ c.read_with_reasons.ensures.same late ∙ c.check_number.ensures.same (c.read_with_reasons.ensures.live late))

pub returns-in_err-upgrade-clause-other : goal.returns-in_err-upgrade-clause-other
returns-in_err-upgrade-clause-other g c =
    converted c.from_residual-in_err-upgrade.result _ _ c.from_residual-in_err-upgrade.ensures.1 (λ e is ours live. absurd (is.1 ours))
