use Rattle.std.proofs.Common.{sym, ◌∙◌, le-ltb, arith}
use Rattle.node_turns.proofs.Flags.{absent_past}
use Rattle.node_turns.proofs.key_queue.KeyQueue.has.Goals as goal

pub returns-else-key-len : goal.returns-else-key-len
returns-else-key-len c =
    le-ltb c.args.key c.len.result c.if-key-len.false
    ∙ sym (absent_past c.args.self.now.keys.items c.args.self.now.flags.items c.args.key c.args.self.now.flagged (omega (arith, c.if-key-len.false, c.len.ensures)))
