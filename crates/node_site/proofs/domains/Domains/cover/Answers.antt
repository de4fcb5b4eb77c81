use Rattle.std.proofs.Common.{ap, ◌∙◌}
use Rattle.std.specs.Str.{str_to_ascii_lowercase}
use Rattle.node_site.proofs.Parents.{covered}
use Rattle.node_site.proofs.domains.Domains.cover.Goals as goal

pub returns : goal.returns
returns c = λ except are.
    c.covers.ensures
    ∙ covered except c.args.self.now c.args.host.now _ are
    (c.make_ascii_lowercase.ensures.after ∙ ap str_to_ascii_lowercase (c.copy_from_slice.ensures.after ∙ c.end_of-end.ensures))
