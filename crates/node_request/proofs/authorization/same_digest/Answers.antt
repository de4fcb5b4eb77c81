use Rattle.std.proofs.Common.{◌<◌, length, take, rules, sym, ap, ◌∙◌, nat_eq, slice_index_or}
use Rattle.std.specs.Prelude.{◌&&◌}
use Rattle.std.specs.Str.{bytes_eq}
use Rattle.std.proofs.Math.Numerals.{add-one}
use Rattle.node_request.proofs.Prefixes.{next_agree}
use Rattle.node_request.proofs.authorization.same_digest.Goals as goal

pub loop-place-preserved : goal.loop-place-preserved
loop-place-preserved c =
    let one = c.args.one.now in
    let other = c.args.other.now in
    let place = c.loop-place.place in
    let within : place < length one = search rules in
    let also : place < length other = search rules in
    ap (λ b. b && nat_eq (slice_index_or one place 0) (slice_index_or other place 0)) c.loop-place.invariant
    ∙ sym (next_agree one other place within also)
    ∙ ap (λ n. bytes_eq (take n one) (take n other)) (sym (add-one place))
