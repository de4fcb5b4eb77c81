use Rattle.std.proofs.Common.{[], refl, ◌∙◌, sym}
use Rattle.std.proofs.lemmas.List.{append-nil}
use Rattle.node_machine.specs.Exchanges.{Ended, received_of}
use Rattle.node_machine.proofs.Exchanging.{takes, fails, ends_well, ends_badly}
use Rattle.node_machine.proofs.exchange.Arrival.end.Goals as goal

pub returns-then-taken : goal.returns-then-taken
returns-then-taken c events given h = let e = c.in-Ok.ensures in
    c.follow.ensures _ given (takes events given c.args.self h (Ended c.args.end) [] c.deref.result.now refl (sym (append-nil (received_of events)))
    (c.deref.ensures.value ∙ sym (append-nil c.args.self.kept.items)) _ c.in-Ok.taken.count c.in-Ok.taken.is_over e.method refl (sym c.deref.ensures.value) e.stated (e.taken h.passed given h.at))

pub returns-in-Ok-end : goal.returns-in-Ok-end
returns-in-Ok-end c events given h = let e = c.in-Ok.ensures in
    ends_well _ given (record { machine = c.take.new.self; kept = c.args.self.kept; body = c.take.new.body; given = c.args.self.given }) c.in-Ok.taken.count c.in-Ok.taken.is_over
    (takes events given c.args.self h (Ended c.args.end) [] c.deref.result.now refl (sym (append-nil (received_of events)))
    (c.deref.ensures.value ∙ sym (append-nil c.args.self.kept.items)) _ c.in-Ok.taken.count c.in-Ok.taken.is_over e.method refl (sym c.deref.ensures.value) e.stated (e.taken h.passed given h.at))
    c.args.end c.in-Ok-end.got c.if-taken.false (events, refl) c.in-Ok-end.ensures

pub returns-in-Ok : goal.returns-in-Ok
returns-in-Ok c events given h = let e = c.in-Ok.ensures in
    ends_badly _ given (record { machine = c.take.new.self; kept = c.args.self.kept; body = c.take.new.body; given = c.args.self.given }) c.in-Ok.taken.count c.in-Ok.taken.is_over
    (takes events given c.args.self h (Ended c.args.end) [] c.deref.result.now refl (sym (append-nil (received_of events)))
    (c.deref.ensures.value ∙ sym (append-nil c.args.self.kept.items)) _ c.in-Ok.taken.count c.in-Ok.taken.is_over e.method refl (sym c.deref.ensures.value) e.stated (e.taken h.passed given h.at))
    c.args.end c.in-Err-end.fault c.if-taken.false (events, refl) c.in-Err-end.ensures

pub returns : goal.returns
returns c events given h = let e = c.in-Err.ensures in
    fails events given c.args.self h (Ended c.args.end) [] c.deref.result.now refl (sym (append-nil (received_of events)))
    (c.deref.ensures.value ∙ sym (append-nil c.args.self.kept.items)) c.in-Err.fault e.shown (λ more. e.faults h.passed given h.at more)
