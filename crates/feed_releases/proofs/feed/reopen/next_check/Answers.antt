use Rattle.std.proofs.Common.{refl, sym, ◌∙◌}
use Rattle.std.specs.Vec.Iter.{into_iter_items}
use Rattle.feed_releases.proofs.Reopened.{next_not, none_is}
use Rattle.feed_releases.proofs.feed.reopen.next_check.Goals as goal

pub returns-clause-err : goal.returns-clause-err
returns-clause-err c = (
  refl,
  rw (none_is c.args.current (sym c.is_some.ensures ∙ c.if-is_some.false)) (next_not (into_iter_items c.args.rest.now) (into_iter_items c.next.new.self) c.in-Some.record c.in-Some.ensures.items
      c.in-None.ensures.none),
)
