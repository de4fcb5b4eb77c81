use Rattle.std.proofs.Common.{◌∙◌, sym, refl, arith}
use Rattle.node_site.proofs.SitesKept.{added_own, no_site, one_more, own_by, still_short}
use Rattle.node_site.proofs.sites.Sites.add.Goals as goal

pub invariant_of-self : goal.invariant_of-self
invariant_of-self g c = record {
  short = still_short c.insert.result c.args.self.now.by_host c.insert.new.self c.args.site c.in-Ok.lower.items c.args.host.now c.in-Ok.ensures
      (sym c.is_host.ensures ∙ c.if-not-is_host.false) c.insert.ensures.updates c.insert.ensures.err c.args.self.now.short;
}

pub returns-in-Ok-insert-clause-added : goal.returns-in-Ok-insert-clause-added
returns-in-Ok-insert-clause-added g c =
    let absent = no_site c.args.self.now.by_host c.args.host.now c.as_slice.result.now c.contains_key.result (c.as_slice.ensures.value ∙ c.in-Ok.ensures) c.contains_key.ensures
    c.if-contains_key.false in record {
      named = sym c.is_host.ensures ∙ c.if-not-is_host.false;
      absent = absent;
      room = omega (arith, c.len.ensures.len, c.if-len-ge-SITES_LIMIT.false);
      own = added_own c.args.self.now.by_host c.insert.new.self c.args.site c.in-Ok.lower.items c.args.host.now c.in-Ok.ensures c.in-Ok-insert.ensures.updates;
      others = refl;
      count = one_more c.in-Ok-insert.field-0 _ _ c.in-Ok-insert.ensures.len
          (c.in-Ok-insert.ensures.old ∙ own_by c.args.self.now.by_host c.args.host.now c.in-Ok.lower.items c.in-Ok.ensures ∙ absent);
    }
