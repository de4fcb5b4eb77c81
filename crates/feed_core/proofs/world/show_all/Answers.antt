use Rattle.std.proofs.Common.{List, [], ◌∷◌, length, map, refl, sym, ◌∙◌, ap, subst, arith}
use Rattle.std.specs.Prelude.{vec_len}
use Rattle.feed_world.specs.World.{start}
use Rattle.feed_world.specs.Shown.{shown_event, shown_line}
use Rattle.std.proofs.lemmas.List.{length-append, take_all}
use Rattle.feed_core.specs.Counts.{EachNode}
use Rattle.feed_core.proofs.Shows.{has_more}
use Rattle.feed_core.proofs.Counts.{IsAccountOver, account_more, each_as, each_same, reported_same}
use Rattle.feed_core.proofs.world.show_all.Goals as goal

pub loop-event-init : goal.loop-event-init
loop-event-init g c = record {
  shown = λ chosen all. (start (vec_len c.args.nodes), refl, c.new-shelf.ensures, c.requires chosen);
  account = rw c.in_ok-lines.ensures.items (each_same _ 1 c.args.nodes.items (λ i x le. (reported_same (g.N.Node.failed x) (λ t. t), refl)));
  lines = rw c.in_ok-lines.ensures.items refl;
  count = sym c.args.nodes.ok.0;
}

pub loop-event-preserved : goal.loop-event-preserved
loop-event-preserved g c = record {
  shown = λ chosen. has_more chosen g.N.Node shown_event shown_line
      (vec_len c.args.nodes) c.args.events.now c.loop-event.lines.items c.push.new.self.items c.loop-event.event-index c.event-item.result c.in_ok-line.line
      (record { files = c.loop-event.shelf.files.entries; nodes = c.loop-event.nodes.items }) (record { files = c.show.new.shelf.files.entries; nodes = c.show.new.nodes.items }) c.event-item.is
      c.loop-event-test.true c.loop-event.invariant.lines c.in_ok-push.ensures.items (c.loop-event.invariant.shown chosen)
      (c.in_ok-line.ensures.step chosen);
  account = account_more g.N.Node.failed g.N.Node.loads shown_event shown_line c.args.events.now c.loop-event.lines.items c.push.new.self.items c.loop-event.event-index c.event-item.result
      c.in_ok-line.line c.args.nodes.items c.loop-event.nodes.items c.show.new.nodes.items c.event-item.is c.loop-event-test.true c.loop-event.invariant.lines c.in_ok-push.ensures.items
      c.loop-event.invariant.account c.in_ok-line.ensures.account;
  lines = omega (arith, ap (λ xs. length xs) c.in_ok-push.ensures.items, length-append c.loop-event.lines.items (c.in_ok-line.line ∷ []), c.loop-event.invariant.lines);
  count = c.in_ok-line.ensures.count ∙ c.loop-event.invariant.count;
}

pub returns-clause-device : goal.returns-clause-device
returns-clause-device g c =
    each_as _ _ 1 c.args.nodes.items c.loop-event.nodes.items (λ i x y account. account.0)
    (subst (λ (es : List _). EachNode (IsAccountOver g.N.Node.failed g.N.Node.loads (map shown_event es) (map shown_line c.loop-event.lines.items)) 1 c.args.nodes.items c.loop-event.nodes.items)
    (take_all c.loop-event.event-index c.args.events.now c.loop-event-test.false) c.loop-event.invariant.account)

pub returns-clause-loaded : goal.returns-clause-loaded
returns-clause-loaded g c =
    each_as _ _ 1 c.args.nodes.items c.loop-event.nodes.items (λ i x y account. account.1)
    (subst (λ (es : List _). EachNode (IsAccountOver g.N.Node.failed g.N.Node.loads (map shown_event es) (map shown_line c.loop-event.lines.items)) 1 c.args.nodes.items c.loop-event.nodes.items)
    (take_all c.loop-event.event-index c.args.events.now c.loop-event-test.false) c.loop-event.invariant.account)
