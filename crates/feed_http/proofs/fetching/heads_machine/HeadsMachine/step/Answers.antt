use Rattle.std.proofs.Common.{arith, sym, ◌∙◌}
use Rattle.feed_http.proofs.HeadsPassing.{interim_passed, head_found, head_bytes, head_refused}
use Rattle.feed_http.proofs.fetching.heads_machine.HeadsMachine.step.Goals as goal

pub returns-then-is_interim-clause-within : goal.returns-then-is_interim-clause-within
returns-then-is_interim-clause-within c =
    head_bytes c.args.bytes.now c.min-front.result c.parse_response.new.headers c.in-Ok-Complete.spans (rw c.in-Ok-Complete.field-0-is at c.in-Ok-Complete.ensures.within) (rw
    c.in-Ok-Complete.field-0-is at c.in-Ok-Complete.ensures.complete)

pub returns-then-is_interim-clause-step : goal.returns-then-is_interim-clause-step
returns-then-is_interim-clause-step c text at =
    interim_passed c.args.self.now.passed c.min-front.result c.saturating_sub-room.result text c.args.bytes.now c.parse_response.new.headers c.in-Ok-Complete.spans at
    c.saturating_sub-room.ensures (let m = c.min-front.ensures in omega (arith, m)) (let k = c.parse_response.auto.headers in omega (arith, k, c.requires))
    (rw c.in-Ok-Complete.field-0-is at c.in-Ok-Complete.ensures.within) (rw c.in-Ok-Complete.field-0-is at c.in-Ok-Complete.ensures.complete)
    (sym c.is_interim.ensures ∙ c.if-is_interim.true)

pub returns-else-is_interim-clause-within : goal.returns-else-is_interim-clause-within
returns-else-is_interim-clause-within c =
    let within = rw c.in-Ok-Complete.field-0-is at c.in-Ok-Complete.ensures.within in
    let of = rw c.in-Ok-Complete.field-0-is at c.in-Ok-Complete.ensures.complete in
    let bytes = head_bytes c.args.bytes.now c.min-front.result c.parse_response.new.headers c.in-Ok-Complete.spans within of in
    ((let m = c.min-front.ensures in omega (arith, m)), bytes.0, bytes.1, within, of)

pub returns-else-is_interim-clause-step : goal.returns-else-is_interim-clause-step
returns-else-is_interim-clause-step c text at = (
  at,
  head_found c.args.self.now.passed c.min-front.result c.saturating_sub-room.result text c.args.bytes.now c.parse_response.new.headers c.in-Ok-Complete.spans at
      c.saturating_sub-room.ensures (let m = c.min-front.ensures in omega (arith, m)) (let k = c.parse_response.auto.headers in omega (arith, k, c.requires))
      (rw c.in-Ok-Complete.field-0-is at c.in-Ok-Complete.ensures.within) (rw c.in-Ok-Complete.field-0-is at c.in-Ok-Complete.ensures.complete)
      (sym c.is_interim.ensures ∙ c.if-is_interim.false),
)

pub returns-in-Err-clause-step : goal.returns-in-Err-clause-step
returns-in-Err-clause-step c text at more =
    head_refused c.args.self.now.passed c.min-front.result c.saturating_sub-room.result text c.args.bytes.now at c.saturating_sub-room.ensures c.min-front.ensures
    (rw c.requires at c.in-Err.ensures.no_room) more
