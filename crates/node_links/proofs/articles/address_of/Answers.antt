use Rattle.std.proofs.Common.{◌∙◌, ap}
use Rattle.node_links.specs.Requests.{CitedTitleValue}
use Rattle.node_links.proofs.RowSizes.{address_is}
use Rattle.node_links.proofs.articles.address_of.Goals as goal

pub returns : goal.returns
returns c =
    c.address.ensures
    ∙ address_is c.args.cited.now c.args.template.now c.in_ok-filling.filling.link.items c.cited.inside.title_id.now c.in_ok-filling.filling.is_whole
    c.in_ok-filling.filling.row_names c.in_ok-filling.ensures.link c.in_ok-filling.ensures.whole c.in_ok-filling.ensures.row
    (ap (λ (it : CitedTitleValue). it.title_id) c.cited.view_is)
