use Rattle.sqlite.specs.Held.{state}
use Rattle.feed_keep.specs.Shown.{shown}
use Rattle.feed_store_model.proofs.Ours.{tabled_ours}
use Rattle.feed_store_read.proofs.Explaining.{told_before, told_listed, told_order, told_records}
use Rattle.feed_store_read.proofs.reading.read_records.Goals as goal
use Rattle.feed_store_read.proofs.reading.read_records.Goals.{After-read_reasons}

pub returns-in-None-clause-listed : goal.returns-in-None-clause-listed
returns-in-None-clause-listed g c live ours are = (rw c.in-None.is at (c.in_ok-records.ensures.listed live (tabled_ours _ ours))) are.rows

pub returns-in-Some-clause-order : goal.returns-in-Some-clause-order
returns-in-Some-clause-order g c =
    told_order (shown c.in-Some.records.items) c.read_reasons.result (rw c.in-Some.is at c.in_ok-records.ensures.order) c.read_reasons.ensures.names c.read_reasons.ensures.parts

pub returns-in-Some-clause-records : goal.returns-in-Some-clause-records
returns-in-Some-clause-records g c live ours =
    let db = (state g.S.Store c.args.conn.now).now in
    let early = c.read_reasons.ensures.leaves.live live in
    let has = tabled_ours db ours in
    told_records db c.read_reasons.result (told_before db _ (shown c.in-Some.records.items) c.read_reasons.result (c.read_without_reasons.ensures.leaves.same early) ours
    (rw c.in-Some.is at (c.in_ok-records.ensures.listed early has)) (rw c.in-Some.is at (c.in_ok-records.ensures.records early has)) (c.read_reasons.ensures.explained live))

pub returns-in-Some-clause-listed : goal.returns-in-Some-clause-listed
returns-in-Some-clause-listed g c live ours =
    let db = (state g.S.Store c.args.conn.now).now in
    let early = c.read_reasons.ensures.leaves.live live in
    let has = tabled_ours db ours in
    told_listed db c.read_reasons.result (told_before db _ (shown c.in-Some.records.items) c.read_reasons.result (c.read_without_reasons.ensures.leaves.same early) ours
    (rw c.in-Some.is at (c.in_ok-records.ensures.listed early has)) (rw c.in-Some.is at (c.in_ok-records.ensures.records early has)) (c.read_reasons.ensures.explained live))
