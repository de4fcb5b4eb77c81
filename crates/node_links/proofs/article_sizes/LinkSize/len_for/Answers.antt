use Rattle.std.proofs.Common.{◌∙◌, ◌+◌, ◌*◌, ◌≤◌, ◌<◌, ℕ, List, Some, sym, ap, subst}
use Rattle.std.specs.Prelude.{length}
use Rattle.node_site.specs.Proxies.{written_target}
use Rattle.node_links.specs.Requests.{escaped, is_given}
use Rattle.node_site.specs.Urls.{url_limit}
use Rattle.node_links.proofs.SizesMade.{at_most, holds_not, lacks_not, more_than, no_part, no_row, none_fits, not_whole, row_fits, row_too_long, some_from}
use Rattle.node_links.proofs.article_sizes.LinkSize.len_for.Goals as goal

pub returns-then-not-self : goal.returns-then-not-self
returns-then-not-self c = λ site cited is_direct template valid article is.
    not_whole site cited is_direct template c.args.title_id.now c.args.self valid article is (holds_not c.args.self.is_whole c.if-not-self.true)

pub returns-then-self-gt-URL_LIMIT : goal.returns-then-self-gt-URL_LIMIT
returns-then-self-gt-URL_LIMIT c = λ site cited is_direct template valid article is.
    none_fits site cited is_direct template c.args.title_id.now c.args.self valid article is c.if-self-gt-URL_LIMIT.true

pub returns-then-self-eq0 : goal.returns-then-self-eq0
returns-then-self-eq0 c = λ site cited is_direct template valid article is.
    no_row site cited is_direct template c.args.title_id.now c.args.self valid article is (lacks_not c.args.self.is_whole c.if-not-self.false)
    c.if-self-gt-URL_LIMIT.false c.if-self-eq0.true

pub returns-then-not-is_given : goal.returns-then-not-is_given
returns-then-not-is_given c = λ site cited is_direct template valid article is.
    no_part site cited is_direct template c.args.title_id.now c.args.self valid article is (lacks_not c.args.self.is_whole c.if-not-self.false)
    (some_from c.args.self.row_names c.if-self-eq0.false)
    (sym (ap is_given c.row_part-part.ensures) ∙ sym c.is_given.ensures ∙ c.if-not-is_given.true)

pub returns-then-len-self : goal.returns-then-len-self
returns-then-len-self c = λ site cited is_direct template valid article is.
    let unit = c.in_ok-len.ensures ∙ ap (λ (part : List ℕ). length (written_target c.args.self.is_encoded (escaped part))) c.row_part-part.ensures in
    row_too_long site cited is_direct template c.args.title_id.now c.args.self valid article is
    (subst (λ n. url_limit < c.args.self.len + c.args.self.row_names * n) unit
    (more_than c.args.self.len c.args.self.row_names c.in_ok-len.len url_limit (some_from c.args.self.row_names c.if-self-eq0.false) c.if-self-gt-URL_LIMIT.false
    c.if-len-self.true))

pub returns : goal.returns
returns c = λ site cited is_direct template valid article is.
    let unit = c.in_ok-len.ensures ∙ ap (λ (part : List ℕ). length (written_target c.args.self.is_encoded (escaped part))) c.row_part-part.ensures in
    let some = some_from c.args.self.row_names c.if-self-eq0.false in
    ap (λ n. Some (c.args.self.len + c.args.self.row_names * n)) unit
    ∙ row_fits site cited is_direct template c.args.title_id.now c.args.self valid article is (lacks_not c.args.self.is_whole c.if-not-self.false) some
    (sym (ap is_given c.row_part-part.ensures) ∙ sym c.is_given.ensures ∙ c.if-not-is_given.false)
    (subst (λ n. c.args.self.len + c.args.self.row_names * n ≤ url_limit) unit
    (at_most c.args.self.len c.args.self.row_names c.in_ok-len.len url_limit some c.if-self-gt-URL_LIMIT.false c.if-len-self.false))
