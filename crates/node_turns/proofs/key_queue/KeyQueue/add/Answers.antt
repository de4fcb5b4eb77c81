use Rattle.std.proofs.Common.{◌≡◌, false, get_or, length, deque_len, sym, subst, arith}
use Rattle.std.specs.Prelude.{vec_len}
use Rattle.node_turns.proofs.Flags.{room_for}
use Rattle.node_turns.proofs.key_queue.KeyQueue.add.Goals as goal

pub push_back_reserved-requires : goal.push_back_reserved-requires
push_back_reserved-requires c =
    let keys : deque_len c.args.self.now.keys ≡ length c.args.self.now.keys.items = (cc) in
    let flags : vec_len c.args.self.now.flags ≡ length c.args.self.now.flags.items = (cc) in
    let off : get_or c.args.self.now.flags.items c.args.key false ≡ false =
    sym (subst (λ d. d ≡ get_or c.args.self.now.flags.items c.args.key d) c.if-index.false c.index.ensures) in
    omega (arith, room_for c.args.self.now.keys.items c.args.self.now.flags.items c.args.key (omega (arith, c.requires, flags)) off c.args.self.now.as_many, c.args.self.now.roomy, keys, flags)
