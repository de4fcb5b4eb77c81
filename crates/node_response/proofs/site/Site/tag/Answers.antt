use Rattle.std.proofs.Common.{◌≡◌, refl, ◌∙◌}
use Rattle.std.proofs.lemmas.Result.{IfOk-weaker}
use Rattle.node_response.specs.Tags.{entity_tag, inputs_of, kind_and_day, quoted_hex}
use Rattle.node_response.proofs.Visible.{tag_made}
use Rattle.node_response.proofs.site.Site.tag.Goals as goal

pub returns : goal.returns
returns c = IfOk-weaker c.quoted_hex.result (λ tag. tag.items ≡ quoted_hex c.in_ok-digest.digest)
    (λ tag. tag.items ≡ entity_tag (inputs_of c.args.self.now c.args.today.now c.args.releases.now c.args.representation))
    (λ tag is. is ∙ tag_made c.args.self.now c.args.today.now c.args.releases.now c.args.representation
    c.source_with-source.result (kind_and_day c.args.representation c.args.today.now.day) c.in_ok-digest.digest c.source_with-source.ensures refl c.in_ok-digest.ensures)
    c.quoted_hex.ensures
