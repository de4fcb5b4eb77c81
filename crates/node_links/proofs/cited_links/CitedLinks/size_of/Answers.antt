use Rattle.std.proofs.Common.{◌∙◌, ap, sym, subst, List, ℕ}
use Rattle.std.specs.Prelude.{length}
use Rattle.node_links.specs.Articles.{CitedLinksValue, AreMade, IsSizeOf}
use Rattle.node_site.specs.Proxies.{through, prefix_for}
use Rattle.node_site.specs.Site.{SiteValue}
use Rattle.node_links.specs.declared.article_sizes.LinkSize.{LinkSize}
use Rattle.node_links.proofs.RowSizes.{size_made}
use Rattle.node_links.proofs.cited_links.CitedLinks.size_of.Goals as goal

pub returns-in-Some-clause-size : goal.returns-in-Some-clause-size
returns-in-Some-clause-size c =
    subst (λ (links : CitedLinksValue). IsSizeOf links.site links.cited c.args.is_direct c.args.template.now c.in-Some.size) c.self.view_is
    (c.in-Some.ensures c.self.inside.links c.self.inside.cited c.self.invariant.1)

pub returns-clause-size : goal.returns-clause-size
returns-clause-size c =
    let size : LinkSize = record {
      is_whole = c.in_ok-filling.filling.is_whole;
      row_names = c.in_ok-filling.filling.row_names;
      len = c.len.result;
      is_encoded = c.encodes.result;
    } in
    subst (λ (links : CitedLinksValue). IsSizeOf links.site links.cited c.args.is_direct c.args.template.now size) c.self.view_is
    (size_made c.self.inside.links c.self.inside.cited c.args.is_direct c.args.template.now c.in_ok-filling.filling.link.items c.in_ok-prefix.prefix size
    c.self.invariant.0 c.in_ok-filling.ensures.link (c.in_ok-prefix.ensures.prefix ∙ ap (λ (text : List ℕ). prefix_for c.self.inside.links text c.args.is_direct) c.deref.ensures.value)
    c.in_ok-filling.ensures.whole c.in_ok-filling.ensures.row
    (c.len.ensures ∙ ap (λ (text : List ℕ). length text) (c.in_ok-link.ensures ∙ ap (through c.in_ok-prefix.prefix) c.deref-2.ensures.value)) c.encodes.ensures)

pub invariant_of-self-in_err-keep : goal.invariant_of-self-in_err-keep
invariant_of-self-in_err-keep c =
    let size : LinkSize = record {
      is_whole = c.in_ok-filling.filling.is_whole;
      row_names = c.in_ok-filling.filling.row_names;
      len = c.len.result;
      is_encoded = c.encodes.result;
    } in
    let own = size_made c.self.inside.links c.self.inside.cited c.args.is_direct c.args.template.now c.in_ok-filling.filling.link.items c.in_ok-prefix.prefix size
    c.self.invariant.0 c.in_ok-filling.ensures.link (c.in_ok-prefix.ensures.prefix ∙ ap (λ (text : List ℕ). prefix_for c.self.inside.links text c.args.is_direct) c.deref.ensures.value)
    c.in_ok-filling.ensures.whole c.in_ok-filling.ensures.row
    (c.len.ensures ∙ ap (λ (text : List ℕ). length text) (c.in_ok-link.ensures ∙ ap (through c.in_ok-prefix.prefix) c.deref-2.ensures.value)) c.encodes.ensures in (
      c.self.invariant.0,
      subst (λ (site : SiteValue). AreMade site c.self.inside.cited c.keep.new.self) (sym c.prefix_for.ensures.same)
          (c.keep.ensures c.self.inside.links c.self.inside.cited c.self.invariant.1 own),
    )

pub invariant_of-self-2 : goal.invariant_of-self-2
invariant_of-self-2 c =
    let size : LinkSize = record {
      is_whole = c.in_ok-filling.filling.is_whole;
      row_names = c.in_ok-filling.filling.row_names;
      len = c.len.result;
      is_encoded = c.encodes.result;
    } in
    let own = size_made c.self.inside.links c.self.inside.cited c.args.is_direct c.args.template.now c.in_ok-filling.filling.link.items c.in_ok-prefix.prefix size
    c.self.invariant.0 c.in_ok-filling.ensures.link (c.in_ok-prefix.ensures.prefix ∙ ap (λ (text : List ℕ). prefix_for c.self.inside.links text c.args.is_direct) c.deref.ensures.value)
    c.in_ok-filling.ensures.whole c.in_ok-filling.ensures.row
    (c.len.ensures ∙ ap (λ (text : List ℕ). length text) (c.in_ok-link.ensures ∙ ap (through c.in_ok-prefix.prefix) c.deref-2.ensures.value)) c.encodes.ensures in (
      c.self.invariant.0,
      subst (λ (site : SiteValue). AreMade site c.self.inside.cited c.keep.new.self) (sym c.prefix_for.ensures.same)
          (c.keep.ensures c.self.inside.links c.self.inside.cited c.self.invariant.1 own),
    )
