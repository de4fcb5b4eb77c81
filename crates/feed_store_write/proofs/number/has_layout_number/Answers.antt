use Rattle.std.proofs.Common.{◌≡◌, IsTrue, sym, ◌∙◌, arith, rules}
use Rattle.sqlite.specs.Held.{state}
use Rattle.feed_store_write.proofs.LayoutNumber.{number_told}
use Rattle.feed_store_write.proofs.Selects.{Stays, failed_stays, number_found, number_selected, number_stays}
use Rattle.feed_store_write.proofs.number.has_layout_number.Goals as goal

pub returns-clause-reported : goal.returns-clause-reported
returns-clause-reported g c clean more keys has =
    let old = state g.S.Store c.args.conn.now in
    let new = state g.S.Store c.query_all.new.self in
    let told = number_told c.args.number more keys old new c.in_ok-rows.rows.items (c.in_ok-rows.ensures.ok clean) has in
    let same = c.as_slice.ensures.value in
    (told.0, ((λ h. told.1.0 (sym same ∙ c.is_only_number.ensures.0 h)), (λ e. c.is_only_number.ensures.1 (same ∙ told.1.1 e))))

pub returns-clause-live : goal.returns-clause-live
returns-clause-live g c live =
    let old = state g.S.Store c.args.conn.now in
    let new = state g.S.Store c.query_all.new.self in
    let it : Stays old new = number_stays old new c.in_ok-rows.rows.items (c.in_ok-rows.ensures.ok live.0) in
    (omega (arith, c.query_all.ensures.survives.clean, live.0), it.was_open live.1)

pub returns-clause-same : goal.returns-clause-same
returns-clause-same g c live =
    let old = state g.S.Store c.args.conn.now in
    let new = state g.S.Store c.query_all.new.self in
    let it : Stays old new = number_stays old new c.in_ok-rows.rows.items (c.in_ok-rows.ensures.ok live.0) in
    it.same live.1

pub returns-in_err-rows-clause-live : goal.returns-in_err-rows-clause-live
returns-in_err-rows-clause-live g c live =
    let old = state g.S.Store c.args.conn.now in
    let new = state g.S.Store c.query_all.new.self in
    let settled : IsTrue old.is_open → old.now ≡ old.committed = c.is_autocommit.ensures.settled (search rules) in
    let it : Stays old new = failed_stays old new settled _ _ (c.in_err-rows.ensures.err live.0) in
    (omega (arith, c.query_all.ensures.survives.clean, live.0), it.was_open live.1)

pub returns-in_err-rows-clause-same : goal.returns-in_err-rows-clause-same
returns-in_err-rows-clause-same g c live =
    let old = state g.S.Store c.args.conn.now in
    let new = state g.S.Store c.query_all.new.self in
    let settled : IsTrue old.is_open → old.now ≡ old.committed = c.is_autocommit.ensures.settled (search rules) in
    let it : Stays old new = failed_stays old new settled _ _ (c.in_err-rows.ensures.err live.0) in
    it.same live.1

pub returns-clause-shown : goal.returns-clause-shown
returns-clause-shown g c clean =
    let old = state g.S.Store c.args.conn.now in
    let new = state g.S.Store c.query_all.new.self in
    let rows = c.in_ok-rows.rows.items in
    let same = c.as_slice.ensures.value in
    number_found c.args.number old.now rows c.is_only_number.result (number_selected old new rows (c.in_ok-rows.ensures.ok clean))
    (λ h. sym same ∙ c.is_only_number.ensures.0 h) (λ e. c.is_only_number.ensures.1 (same ∙ e))
