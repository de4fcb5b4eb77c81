-- The responses to requests that are not answered.
use Rattle.std.specs.Prelude.{ℕ, List, [], ◌∷◌, ◌++◌}
use Rattle.form_urlencoded.specs.Form as form
use Rattle.node_site.specs.Site as site_file
use Rattle.node_site.specs.Texts.{text_of}
use Rattle.node_templates.specs.Pages.{Part, page_text, with_values}
use Rattle.node_templates.specs.declared.slot.Slot.TheVariants as slot
use Rattle.node_request.specs.declared.representation.Representation.{Representation}
use Rattle.node_request.specs.declared.representation.Representation.TheVariants as representation
use Rattle.node_response.specs.Pages.{fault_body}
use Rattle.node_response.specs.Responses.{ResponseValue, response_with}
use Rattle.node_response.specs.declared.status.Status.{Status}
use Rattle.node_site.specs.declared.text_table.Text.{Text}
use Rattle.node_site.specs.declared.text_table.Text.TheVariants as text
use Rattle.node_hits.specs.Sfx.{no_targets}
use Rattle.node_pages.specs.Fragments.{error_fragment}
use Rattle.node_pages.specs.SearchForms.{form_end}
use Rattle.node_pages.specs.declared.error_page.TheConstants.{ERROR_PAGE}

-- the page of an error, for a query with these pairs: what the reader may do about it, and its name
abbrev pub error_parts : site_file.SiteValue → List (List ℕ × List ℕ) → Text → List ℕ → List Part
error_parts site pairs advice name =
    with_values ((slot.Heading, text_of site text.NotAnswered) ∷ (slot.Note, text_of site advice) ∷ (slot.Fault, name) ∷ []) ERROR_PAGE
    ++ form_end pairs

unfoldable pub error_page : site_file.SiteValue → List (List ℕ × List ℕ) → Text → List ℕ → List ℕ
error_page site pairs advice name = page_text site (error_parts site pairs advice name)

-- the name of an error as text and as JSON, its page, its fragment, and the reply of SFX without a target
unfoldable pub error_body : site_file.SiteValue → List ℕ → Representation → Text → List ℕ → List ℕ
error_body site query representation.Text advice name = fault_body representation.Text name
error_body site query representation.Json advice name = fault_body representation.Json name
error_body site query representation.Html advice name = error_page site (form.parse query) advice name
error_body site query representation.Fragment advice name = error_fragment site name
error_body site query representation.Sfx advice name = no_targets

-- the response to a request that is not answered
abbrev pub error_response : site_file.SiteValue → List ℕ → Status → Representation → Text → List ℕ → ResponseValue
error_response site query code representation advice name =
    response_with code representation (error_body site query representation advice name)
