use Rattle.std.proofs.Common.{◌≡◌, ℕ, List, length, refl, sym, subst}
use Rattle.node_templates.proofs.Keeping.{page_keeps}
use Rattle.node_templates.specs.Laws.{page_html}
use Rattle.node_templates.specs.Pages.{Part, page_text, with_values}
use Rattle.node_templates.specs.Tags.{HasTagsOf, OwnPage}
use Rattle.node_site.specs.Site as site_file
use Rattle.node_pages.specs.ErrorPages.{error_page, error_parts}
use Rattle.node_pages.specs.HitsPage.{hits_parts, page_of_hits}
use Rattle.node_pages.specs.HomePage.{form_page, heading_values, home_limit, home_page, packages_parts, status_page}
use Rattle.node_pages.specs.Laws.{HasItsTags}
use Rattle.node_pages.specs.QueryRefusals.{nothing_parts, page_of_nothing}
use Rattle.node_pages.specs.TitlesPage as titles
use Rattle.node_pages.specs.declared.home_page.TheConstants.{FORM_PAGE}
use Rattle.node_pages.proofs.laws.pages_have_their_tags.Goals as goal

-- a page has these parts
of : (site : site_file.SiteValue) (page : List ℕ) (parts : List Part) → page ≡ page_text site parts → HasItsTags site page
of site page parts same = record {
  parts = parts;
  text = same;
  tags = subst (HasTagsOf OwnPage (page_html site parts)) (sym same) (page_keeps site parts);
}

pub returns : goal.returns
unfolding page_of_hits page_of_nothing error_page form_page home_page status_page titles.titles_form_page titles.titles_page
returns c = record {
  hits = λ site pairs ask tally also others. of site _ (hits_parts site pairs ask tally also others) refl;
  nothing = λ site pairs ask. of site _ (nothing_parts site pairs ask) refl;
  error = λ site pairs advice name. of site _ (error_parts site pairs advice name) refl;
  form = λ site. of site _ (with_values (heading_values site) FORM_PAGE) refl;
  home = λ site actives. of site _ (packages_parts site home_limit actives) refl;
  status = λ site actives. of site _ (packages_parts site (length actives) actives) refl;
  titles_form = λ site heading note name. of site _ (titles.form_parts heading note name) refl;
  titles = λ site asked walk. of site _ (titles.titles_parts site asked walk) refl;
}
