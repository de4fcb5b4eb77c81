use Rattle.std.proofs.Common.{[], sym, subst, arith}
use Rattle.feed_model.specs.Content.{Content, IsContentWithin}
use Rattle.feed_fetch.proofs.Opening.{IsContent-nothing, IsOpenTo-nothing}
use Rattle.feed_fetch.proofs.memory_fetch.fetch_from_memory.Goals as goal

pub returns-clause-first : goal.returns-clause-first
returns-clause-first g c file there fit empty =
    let most = c.args.feed.now.most in
    c.fetch_from.ensures.gets file there fit [] (subst (λ (content : Content). IsContentWithin most content []) (sym empty) (IsContent-nothing most))
    (IsOpenTo-nothing most c.args.order.now.name.now file (omega (arith, c.most-most.ensures.least)))
