use Rattle.std.proofs.Common.{◌≡◌, ◌<◌, ◌-◌, ◌∙◌, ℕ, List, Ok, Err, arith, sym, ap, length, take, drop}
use Rattle.std.proofs.lemmas.List.{length-take, length-drop, take_all}
use Rattle.httparse.specs.declared.Status.TheVariants.{Partial}
use Rattle.feed_http_heads.proofs.ResponseReading.{some_bytes}
use Rattle.node_file_checks.proofs.ResponseHeads.{in_front, is_head, no_head, same_behind}
use Rattle.node_file_checks.proofs.file_type.has_other_type.Goals as goal

pub loop-spans-init : goal.loop-spans-init
loop-spans-init c = let front = c.front_of-text.ensures in
    (omega (arith, ap length front, length-take 8192 c.args.reply.now), rw front (in_front c.args.reply.now))

pub returns-then-not-is_interim : goal.returns-then-not-is_interim
returns-then-not-is_interim c =
    is_head c.args.reply.now c.loop-spans.text.now c.parse_response.new.headers c.in-Ok-Complete.spans c.is_of_other_file.result c.loop-spans.invariant.1
    (rw c.loop-spans.array_long at (rw c.in-Ok-Complete.field-0-is at c.in-Ok-Complete.ensures.found))
    (rw c.in-Ok-Complete.field-0-is at c.in-Ok-Complete.ensures.within) (rw c.in-Ok-Complete.field-0-is at c.in-Ok-Complete.ensures.complete)
    (sym c.is_interim.ensures ∙ c.if-not-is_interim.true) c.loop-spans.invariant.0
    (let kept = c.parse_response.auto.headers in let long = c.loop-spans.array_long in omega (arith, kept, long)) c.is_of_other_file.ensures

-- the bytes behind a head
rest_is : (text : List ℕ) (len : ℕ) → take (length text - len) (drop len text) ≡ drop len text
rest_is text len = take_all (length text - len) (drop len text) (omega (arith, length-drop len text))

pub loop-spans-smaller : goal.loop-spans-smaller
loop-spans-smaller c =
    let of = rw c.in-Ok-Complete.field-0-is at c.in-Ok-Complete.ensures.complete in
    let within = rw c.in-Ok-Complete.field-0-is at c.in-Ok-Complete.ensures.within in
    let fewer : length (drop c.in-Ok-Complete.spans.len c.loop-spans.text.now) < length c.loop-spans.text.now =
    omega (arith, length-drop c.in-Ok-Complete.spans.len c.loop-spans.text.now, of.1.len, some_bytes of.0, within.section.len_fits) in
    rw (rest_is c.loop-spans.text.now c.in-Ok-Complete.spans.len) fewer

pub loop-spans-preserved : goal.loop-spans-preserved
loop-spans-preserved c =
    let text : List ℕ = c.loop-spans.text.now in
    let len : ℕ = c.in-Ok-Complete.spans.len in
    rw (rest_is text len) (
      omega (arith, length-drop len text, c.loop-spans.invariant.0),
      same_behind c.args.reply.now text c.parse_response.new.headers c.in-Ok-Complete.spans c.loop-spans.invariant.1
          (rw c.loop-spans.array_long at (rw c.in-Ok-Complete.field-0-is at c.in-Ok-Complete.ensures.found))
          (rw c.in-Ok-Complete.field-0-is at c.in-Ok-Complete.ensures.within) (rw c.in-Ok-Complete.field-0-is at c.in-Ok-Complete.ensures.complete)
          (sym c.is_interim.ensures ∙ c.if-not-is_interim.false) c.loop-spans.invariant.0
          (let kept = c.parse_response.auto.headers in let long = c.loop-spans.array_long in omega (arith, kept, long)),
    )

pub returns-in-Ok-Partial : goal.returns-in-Ok-Partial
returns-in-Ok-Partial c = no_head c.args.reply.now c.loop-spans.text.now c.parse_response.new.headers (Ok Partial) c.loop-spans.invariant.1
    (rw c.loop-spans.array_long at (rw c.in-Ok-Partial.field-0-is at c.in-Ok-Partial.ensures.found)) (λ P k. k)

pub returns-in-Err : goal.returns-in-Err
returns-in-Err c = no_head c.args.reply.now c.loop-spans.text.now c.parse_response.new.headers (Err c.in-Err.field-0) c.loop-spans.invariant.1
    (rw c.loop-spans.array_long at c.in-Err.ensures.found) (λ P k. k)
