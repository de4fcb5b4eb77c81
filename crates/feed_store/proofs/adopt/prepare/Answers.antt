use Rattle.std.proofs.Common.{[], ◌∷◌, subst, sym, ◌∙◌}
use Rattle.sqlite.specs.Held.{state}
use Rattle.sqlite.specs.Change.{automatics}
use Rattle.feed_store_model.specs.Layout.{reason}
use Rattle.feed_store_model.specs.Others.{HasLayout1Tables, HasLayout2Tables}
use Rattle.feed_store.proofs.Found.{found_layout_1, found_layout_2, not_by, refused_1, refused_2, refused_beside}
use Rattle.feed_store.proofs.Placed.{blank_here, first_here, layout_1_placed, layout_2_placed, passed_on, second_here}
use Rattle.feed_store.proofs.adopt.prepare.Goals as goal

pub returns-then-is_layout_2-clause-adopted : goal.returns-then-is_layout_2-clause-adopted
returns-then-is_layout_2-clause-adopted g c =
    let old = state g.S.Store c.args.conn.now in
    let new = state g.S.Store c.check_number.new.conn in
    found_layout_2 old new (λ is. (c.schema-2.ensures.live is).0) c.check_number.ensures.live
    (sym c.schema-2.ensures.value ∙ c.is_layout_2.ensures.0 c.if-is_layout_2.true) c.check_number.ensures.same c.in_ok-check_number.ensures.reported

pub returns-then-is_layout_1-clause-adopted : goal.returns-then-is_layout_1-clause-adopted
returns-then-is_layout_1-clause-adopted g c =
    let old = state g.S.Store c.args.conn.now in
    let new = state g.S.Store c.upgrade_layout.new.conn in
    let up = c.in_ok-upgrade_layout.ensures in
    found_layout_1 old new (λ is. (c.schema-3.ensures.live is).0) up.live (sym c.schema-3.ensures.value ∙ c.is_layout_1.ensures.0 c.if-is_layout_1.true) up.first up.moved

pub returns-then-has_no_table-clause-prepared : goal.returns-then-has_no_table-clause-prepared
returns-then-has_no_table-clause-prepared g c live =
    blank_here g.S.Store c.args.conn.now c.make_tables.new.conn (sym c.schema.ensures.value ∙ c.has_no_table.ensures.0 c.if-has_no_table.true) (c.in_ok-make_tables.ensures.ran live.0)

pub returns-then-is_layout_2-clause-prepared : goal.returns-then-is_layout_2-clause-prepared
returns-then-is_layout_2-clause-prepared g c live =
    let schema = sym c.schema-2.ensures.value ∙ c.is_layout_2.ensures.0 c.if-is_layout_2.true in
    second_here g.S.Store c.args.conn.now c.check_number.new.conn (subst HasLayout2Tables (sym schema) layout_2_placed) (c.in_ok-check_number.ensures.found live.0)
    (c.check_number.ensures.same live)

pub returns-then-is_layout_1-clause-prepared : goal.returns-then-is_layout_1-clause-prepared
returns-then-is_layout_1-clause-prepared g c live =
    let schema = sym c.schema-3.ensures.value ∙ c.is_layout_1.ensures.0 c.if-is_layout_1.true in
    let up = c.in_ok-upgrade_layout.ensures in
    first_here g.S.Store c.args.conn.now c.upgrade_layout.new.conn (subst HasLayout1Tables (sym schema) layout_1_placed) (up.upgraded live)

pub returns-in_err-make_tables-clause-cause : goal.returns-in_err-make_tables-clause-cause
returns-in_err-make_tables-clause-cause g c =
    passed_on c.from_residual.result c.in_err-make_tables.field-0.0 _ c.from_residual.ensures.1 (λ is live. absurd (c.in_err-make_tables.ensures.cause is))

pub returns-in_err-check_number-clause-cause : goal.returns-in_err-check_number-clause-cause
returns-in_err-check_number-clause-cause g c =
    passed_on c.from_residual-in_err-check_number.result c.in_err-check_number.field-0.0 _ c.from_residual-in_err-check_number.ensures.1 (λ is live.
    let schema = sym c.schema-2.ensures.value ∙ c.is_layout_2.ensures.0 c.if-is_layout_2.true in
    let other = c.in_err-check_number.ensures.other is live.0 in
    refused_2 (state g.S.Store c.args.conn.now).now schema other.0 (λ version. let e = (other.1 (reason ∷ []) (automatics reason 0 6 reason.uniques) schema).1.1 version in cc))

pub returns-in_err-upgrade_layout-clause-cause : goal.returns-in_err-upgrade_layout-clause-cause
returns-in_err-upgrade_layout-clause-cause g c =
    passed_on c.from_residual-in_err-upgrade_layout.result c.in_err-upgrade_layout.field-0.0 _ c.from_residual-in_err-upgrade_layout.ensures.1 (λ is live.
    let schema = sym c.schema-3.ensures.value ∙ c.is_layout_1.ensures.0 c.if-is_layout_1.true in
    let other = c.in_err-upgrade_layout.ensures.other is live in
    refused_1 (state g.S.Store c.args.conn.now).now schema other.0 (other.1 schema))

pub returns-in_err-prepare_beside_others-clause-cause : goal.returns-in_err-prepare_beside_others-clause-cause
returns-in_err-prepare_beside_others-clause-cause g c =
    passed_on c.from_residual-in_err-prepare_beside_others.result c.in_err-prepare_beside_others.field-0.0 _ c.from_residual-in_err-prepare_beside_others.ensures.1 (λ is live.
    refused_beside (state g.S.Store c.args.conn.now).now (c.in_err-prepare_beside_others.ensures.foreign is live)
    (not_by c.has_no_table.result c.if-has_no_table.false (λ e. c.has_no_table.ensures.1 (c.schema.ensures.value ∙ e)))
    (not_by c.is_layout_1.result c.if-is_layout_1.false (λ e. c.is_layout_1.ensures.1 (c.schema-3.ensures.value ∙ e)))
    (not_by c.is_layout_2.result c.if-is_layout_2.false (λ e. c.is_layout_2.ensures.1 (c.schema-2.ensures.value ∙ e))))

pub returns-in_err-make_tables-clause-neither : goal.returns-in_err-make_tables-clause-neither
returns-in_err-make_tables-clause-neither g c live = passed_on c.from_residual.result c.in_err-make_tables.field-0.0 _ c.from_residual.ensures.1 (c.in_err-make_tables.ensures.neither live)

pub returns-in_err-check_number-clause-neither : goal.returns-in_err-check_number-clause-neither
returns-in_err-check_number-clause-neither g c live =
    passed_on c.from_residual-in_err-check_number.result c.in_err-check_number.field-0.0 _ c.from_residual-in_err-check_number.ensures.1 (c.check_number.ensures.same live)

pub returns-in_err-upgrade_layout-clause-neither : goal.returns-in_err-upgrade_layout-clause-neither
returns-in_err-upgrade_layout-clause-neither g c live =
    passed_on c.from_residual-in_err-upgrade_layout.result c.in_err-upgrade_layout.field-0.0 _ c.from_residual-in_err-upgrade_layout.ensures.1 (c.in_err-upgrade_layout.ensures.neither live)

pub returns-in_err-prepare_beside_others-clause-neither : goal.returns-in_err-prepare_beside_others-clause-neither
returns-in_err-prepare_beside_others-clause-neither g c live =
    passed_on c.from_residual-in_err-prepare_beside_others.result c.in_err-prepare_beside_others.field-0.0 _ c.from_residual-in_err-prepare_beside_others.ensures.1
    (c.in_err-prepare_beside_others.ensures.neither live)
