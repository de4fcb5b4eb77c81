use Rattle.std.proofs.Common.{List, ℕ, subst}
use Rattle.feed_names.specs.ReleaseName.{IsName}
use Rattle.feed_fetch.proofs.memory_fetch.fetch_from.Goals as goal

pub returns-clause-gets : goal.returns-clause-gets
returns-clause-gets g c file there fit =
    let named = subst (λ (text : List ℕ). IsName text c.args.order.now.name.now) c.text-text.ensures.value c.text-text.ensures.name in
    c.fetch_with.ensures.gets file (g.A.Archive.files, (λ text reply is. is), there, named) fit
