use Rattle.std.proofs.Common.{sym, ap, ◌∙◌, map-id}
use Rattle.std.specs.List.{filter_map}
use Rattle.std.proofs.lemmas.Iterator.{YieldsList-from_chars}
use Rattle.std.proofs.lemmas.Iterator.Consumers.{YieldsList-end}
use Rattle.feed_openurl.specs.Plain.{plain_byte}
use Rattle.feed_openurl.proofs.Plains.{byte_passed, byte_pushed}
use Rattle.feed_openurl.proofs.plain.plain_text.Goals as goal

pub returns : goal.returns
returns c =
    let end = YieldsList-end (YieldsList-from_chars c.args.text.now c.utf8.text cc) c.loop-c.yielded _ c.loop-c.yielded_by _ _ c.in-None.is c.next.ensures.steps in
    c.loop-c.invariant ∙ ap (filter_map plain_byte) (sym (map-id c.loop-c.yielded) ∙ end.0)

pub loop-c-preserved-in-Continue-1 : goal.loop-c-preserved-in-Continue-1
loop-c-preserved-in-Continue-1 c =
    let read = c.plain_byte.ensures in
    let is = c.in-Some-plain_byte.is in
    let same = c.from.ensures in
    c.in_ok-push.ensures.items ∙ byte_pushed c.loop-c.bytes.items c.loop-c.yielded c.in-Some.c c.in-Some-plain_byte.byte c.loop-c.invariant cc

pub loop-c-preserved : goal.loop-c-preserved
loop-c-preserved c =
    let read = c.plain_byte.ensures in
    let is = c.in_default.is in
    let same = c.from.ensures in
    byte_passed c.loop-c.bytes.items c.loop-c.yielded c.in-Some.c c.loop-c.invariant cc
