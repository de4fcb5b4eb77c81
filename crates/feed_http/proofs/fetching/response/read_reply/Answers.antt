use Rattle.std.proofs.Common.{[], ◌≡◌, ◌≤◌, ◌++◌, length, Bool, take, drop, arith, subst, ◌∙◌}
use Rattle.std.specs.Prelude.{◌-◌}
use Rattle.std.proofs.lemmas.List.{length-take-le}
use borrow.Rule.Slice.PartMut.{same_len_mid}
use Rattle.feed_http_heads.proofs.BufferFilling.{put_mid_fits}
use Rattle.feed_http.specs.ArrivingResponses.{IsResponseTaken}
use Rattle.feed_http.proofs.ResponseReading.{failed_read, done_read, ended_read, read_behind}
use Rattle.feed_http.proofs.fetching.response.read_reply.Goals as goal

pub returns-in_err-taken-clause-reply : goal.returns-in_err-taken-clause-reply
returns-in_err-taken-clause-reply g c = let i = c.reads.invariant in
    failed_read c.args.method (g.R.Read.remaining c.args.reader.now) (g.R.Read.remaining c.reads.reader) i.3.0 (take c.reads.filled c.reads.buffer) c.in_err-taken.field-0.0
    c.from_residual.result i.3.2 (rw i.2 at (c.in_err-taken.ensures.faults i.3.0 [] i.3.1)) c.from_residual.ensures.1

pub returns-in-Some-clause-reply : goal.returns-in-Some-clause-reply
returns-in-Some-clause-reply g c = let i = c.reads.invariant in
    let bytes = take c.reads.filled c.reads.buffer in
    let count = c.in_ok-taken.taken.count in
    let taken = subst (λ (b : Bool). IsResponseTaken c.take.new.self (i.3.0 ++ take count bytes) c.take.new.body.items (drop count bytes) b) c.if-taken.true
    (c.in_ok-taken.ensures.taken i.3.0 [] i.3.1) in
    done_read c.args.method c.take.new.self.method (g.R.Read.remaining c.args.reader.now) (g.R.Read.remaining c.reads.reader) i.3.0 bytes count c.in-Some.got
    (c.take.ensures.method ∙ i.2) i.3.2 (taken.2 c.in-Some.got c.in-Some.ensures.some)

pub returns-in-Err-Short-clause-reply : goal.returns-in-Err-Short-clause-reply
returns-in-Err-Short-clause-reply g c = let i = c.reads.invariant in
    let bytes = take c.reads.filled c.reads.buffer in
    let count = c.in_ok-taken.taken.count in
    let taken = subst (λ (b : Bool). IsResponseTaken c.take.new.self (i.3.0 ++ take count bytes) c.take.new.body.items (drop count bytes) b) c.if-taken.false
    (c.in_ok-taken.ensures.taken i.3.0 [] i.3.1) in
    ended_read c.args.method c.take.new.self.method (g.R.Read.remaining c.args.reader.now) (g.R.Read.remaining c.reads.reader) i.3.0 bytes count c.end.result
    (c.take.ensures.method ∙ i.2) i.3.2 (rw c.in-Err-Short.field-0-is at c.in-Err-Short.ensures.faults) (taken.1 c.end.result c.end.ensures)

pub reads-preserved : goal.reads-preserved
reads-preserved g c = let i = c.reads.invariant in
    let bytes = take c.reads.filled c.reads.buffer in
    let count = c.in_ok-taken.taken.count in
    let kept = c.reads.filled - count in
    let taken = subst (λ (b : Bool). IsResponseTaken c.take.new.self (i.3.0 ++ take count bytes) c.take.new.body.items (drop count bytes) b) c.if-taken.false
    (c.in_ok-taken.ensures.taken i.3.0 [] i.3.1) in
    let copied = c.copy_within.new.self in
    let space = c.read_some.new.space in
    let some = c.in-Ok.ensures.some in
    let long : length copied ≡ 8192 = c.copy_within.ensures.len ∙ i.1 in
    let room : kept ≤ length copied = omega (arith, long, i.0, i.1) in (
      put_mid_fits kept _ c.in-Ok.count copied space room some.1,
      same_len_mid kept _ copied space c.read_some.auto.space ∙ long,
      c.take.ensures.method ∙ i.2,
      (
        i.3.0 ++ take count bytes,
        taken.0,
        read_behind (g.R.Read.remaining c.args.reader.now) (g.R.Read.remaining c.reads.reader) (g.R.Read.remaining c.read_some.new.reader) i.3.0 c.reads.buffer copied space count
            c.reads.filled _ c.in-Ok.count (let w = c.in_ok-taken.ensures.within in let l = length-take-le c.reads.filled c.reads.buffer i.0 in omega (arith, w, l))
            i.0 room some.1 c.copy_within.ensures.after i.3.2 c.in-Ok.ensures.taken,
      ),
    )
