use Rattle.std.proofs.Common.{◌≡◌, ◌∙◌, ap, refl, sym, subst, Some}
use Rattle.std.specs.Prelude.{length, option_map}
use Rattle.std.specs.Option.{option_and_then}
use Rattle.std.proofs.lemmas.Result.{IfOk-weaker}
use Rattle.node_links.specs.Articles.{CitedLinksValue, IsSizeOf, article_link, template_link, with_title_id}
use Rattle.node_site.specs.ArticleTemplates.{article_template}
use Rattle.node_site.specs.Proxies.{is_direct}
use Rattle.node_site.specs.Site.{SiteValue}
use Rattle.node_site.specs.Valid.{IsSite}
use Rattle.node_links.proofs.LinksFit.{template_fits}
use Rattle.node_links.proofs.cited_links.CitedLinks.article_len.Goals as goal

pub returns-clause-len : goal.returns-clause-len
unfolding article_link
returns-clause-len c =
    let site : SiteValue = c.args.self.now.site in
    let cited = with_title_id c.args.title_id.now c.args.self.now.cited in
    let same : c.site-site.result.now ≡ site = c.site-site.ensures ∙ ap (λ (links : CitedLinksValue). links.site) c.self.view_is in
    let valid : IsSite site = subst IsSite same c.texts_are_valid.ensures in
    let template = c.as_bytes.result.now in
    let has : article_template site c.args.id.now c.args.url.now ≡ Some template =
    sym (c.in-Some.ensures ∙ ap (λ (s : SiteValue). article_template s c.args.id.now c.args.url.now) same) ∙ ap Some (sym c.as_bytes.ensures.value) in
    let direct = c.is_direct-is_direct.result in
    let size = subst (λ (links : CitedLinksValue). IsSizeOf links.site links.cited direct template c.in_ok-size.size) refl c.in_ok-size.ensures.size in
    IfOk-weaker c.len_for.result _
    (λ len. len ≡ option_map length (article_link site c.args.id.now c.args.url.now c.args.is_free cited))
    (λ len is.
    is site c.args.self.now.cited direct template valid (template_fits site valid c.args.id.now c.args.url.now template has) size
    ∙ ap (option_map length)
    (ap (λ d. template_link site cited d template) (c.is_direct-is_direct.ensures ∙ ap (λ (s : SiteValue). is_direct s c.args.id.now c.args.is_free) same)
    ∙ sym (ap (option_and_then (template_link site cited (is_direct site c.args.id.now c.args.is_free))) has)))
    c.len_for.ensures
