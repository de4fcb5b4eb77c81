use Rattle.std.proofs.Common.{◌∙◌}
use Rattle.feed_answer.proofs.Asked.{isbn_among, issn_among}
use Rattle.feed_answer.proofs.query.Query.names.Goals as goal

pub returns-in-Issn : goal.returns-in-Issn
returns-in-Issn c =
    rw (c.in-Issn.is, ← c.self.view_is) (c.contains.ensures.value ∙ rw c.deref.ensures.value (issn_among _ c.self.inside.issns.items c.self.inside.isbns.items))

pub returns-in-Isbn : goal.returns-in-Isbn
returns-in-Isbn c =
    rw (c.in-Isbn.is, ← c.self.view_is)
    (c.contains-in-Isbn.ensures.value ∙ rw c.deref-in-Isbn.ensures.value (isbn_among _ c.self.inside.issns.items c.self.inside.isbns.items))
