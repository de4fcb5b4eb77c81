use Rattle.std.proofs.Common.{List, ℕ, All, Bool, true, false, ◌++◌, ◌∷◌, is_ok, subst, sym, []}
use Rattle.std.specs.Prelude.{if◌then◌else◌}
use Rattle.std.proofs.lemmas.List.Elements.{All-append, All-cons, All-nil}
use Rattle.node_links.specs.Articles.{IsMade, IsSizeOf}
use Rattle.node_links.specs.declared.article_sizes.MadeSize.{MadeSize}
use Rattle.node_links.proofs.article_sizes.ArticleSizes.keep.Goals as goal

pub returns : goal.returns
returns c = λ site cited are is.
    let old : List MadeSize = c.args.self.now.made.items in
    let made : MadeSize = record { template = c.in_ok-template.template; is_direct = c.args.is_direct; size = c.args.size } in
    let own : IsMade site cited made =
    subst (λ (template : List ℕ). IsSizeOf site cited c.args.is_direct template c.args.size) (sym c.in_ok-template.ensures.items) is in
    let more : All (IsMade site cited) (old ++ made ∷ []) =
    All-append (IsMade site cited) old (made ∷ []) are (All-cons (IsMade site cited) made [] own (All-nil (IsMade site cited))) in
    subst (All (IsMade site cited)) (sym c.push.ensures.items)
    (elim (is_ok c.push.result) as (λ (b : Bool). All (IsMade site cited) (if b then old ++ made ∷ [] else old)) [ true ↦ more | false ↦ are ])
