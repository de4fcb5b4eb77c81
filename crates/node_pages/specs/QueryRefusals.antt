-- The responses to OpenURLs for which nothing is looked up.
use Rattle.std.specs.Prelude.{ℕ, Bool, true, false, if◌then◌else◌, List, [], ◌∷◌, ◌++◌, codes}
use Rattle.feed_openurl.specs.Citations.{text_at}
use Rattle.feed_openurl.specs.declared.fault.OpenUrlFault.{OpenUrlFault}
use Rattle.feed_openurl.specs.declared.fault.OpenUrlFault.TheVariants as reason
use Rattle.feed_citation.specs.declared.citation_part.CitationPart.TheVariants as part
use Rattle.form_urlencoded.specs.Form as form
use Rattle.node_site.specs.Site as site_file
use Rattle.node_request.specs.declared.representation.Representation.{Representation}
use Rattle.node_request.specs.declared.representation.Representation.TheVariants.{Text, Json, Html, Fragment, Sfx}
use Rattle.node_response.specs.Pages.{fault_body}
use Rattle.node_response.specs.Fragments.{joined}
use Rattle.node_response.specs.Responses.{ResponseValue, response_with}
use Rattle.node_response.specs.declared.status.Status.{Status}
use Rattle.node_response.specs.declared.status.Status.TheVariants as status
use Rattle.node_hits.specs.AnswerJson.{answer_json}
use Rattle.node_hits.specs.Sfx.{no_targets}
use Rattle.node_hits.specs.QueryFacts.{QueryFactsValue, names_work}
use Rattle.node_hits.specs.Tallies.{tally_of}
use Rattle.node_site.specs.Texts.{text_of}
use Rattle.node_site.specs.declared.occasion.SearchOutcome.TheVariants.{Unknown}
use Rattle.node_templates.specs.Pages.{Part, page_text, with_values}
use Rattle.node_templates.specs.declared.slot.Slot.TheVariants as slot
use Rattle.node_site.specs.declared.text_table.Text.TheVariants as page
use Rattle.node_pages.specs.Citations.{cited_top}
use Rattle.node_pages.specs.ErrorPages.{error_response}
use Rattle.node_pages.specs.Fragments.{nothing_fragment}
use Rattle.node_pages.specs.HomePage.{form_page}
use Rattle.node_pages.specs.NumberFaults.{fault_words}
use Rattle.node_pages.specs.SearchForms.{form_end, isbn_in, issn_in}
use Rattle.node_pages.specs.Ways.{cited_of, ways_to}
use Rattle.node_pages.specs.declared.number_faults.NumberKind.TheVariants.{Issn, Isbn}
use Rattle.node_pages.specs.declared.refusals.TheConstants.{NOTHING}

-- the name of a reason
abbrev pub reason_text : OpenUrlFault → List ℕ
reason_text reason.Version = codes "Version"
reason_text reason.OtherFormat = codes "OtherFormat"
reason_text reason.NoIssn = codes "NoIssn"
reason_text reason.NoIsbn = codes "NoIsbn"
reason_text reason.TooMany = codes "TooMany"

-- the OpenURL has no number that can be looked up, whatever its format and its version are
abbrev pub is_numberless : OpenUrlFault → Bool
is_numberless reason.TooMany = false
is_numberless reason = true

-- that nothing is looked up, what is wrong with the ISSN and the ISBN, and the form for the title
unfoldable pub reasons_with : site_file.SiteValue → List (List ℕ × List ℕ) → QueryFactsValue → List ℕ → List ℕ → List Part
reasons_with site pairs ask issn_fault isbn_fault = with_values (
    (slot.Note, text_of site page.NoNumber)
    ∷ (slot.Issn, issn_in pairs)
    ∷ (slot.IssnFault, issn_fault)
    ∷ (slot.Isbn, isbn_in pairs)
    ∷ (slot.IsbnFault, isbn_fault)
    ∷ (slot.Wanted, text_at ask.citation part.Title)
    ∷ []) NOTHING

unfoldable pub reasons : site_file.SiteValue → List (List ℕ × List ℕ) → QueryFactsValue → List Part
reasons site pairs ask =
    reasons_with site pairs ask (fault_words site Issn (issn_in pairs)) (fault_words site Isbn (isbn_in pairs))

-- the page with the forms, for an OpenURL with these pairs. Nothing was looked up, so the outcome is unknown
abbrev pub nothing_parts : site_file.SiteValue → List (List ℕ × List ℕ) → QueryFactsValue → List Part
nothing_parts site pairs ask =
    cited_top site (text_of site page.NothingToLookUp) pairs ask
    ++ (reasons site pairs ask ++ (ways_to site Unknown (cited_of ask pairs) ++ form_end pairs))

unfoldable pub page_of_nothing : site_file.SiteValue → List (List ℕ × List ℕ) → QueryFactsValue → List ℕ
page_of_nothing site pairs ask = page_text site (nothing_parts site pairs ask)

-- the same for an OpenURL as it is sent
abbrev pub nothing_page : site_file.SiteValue → List ℕ → QueryFactsValue → List ℕ
nothing_page site query ask = page_of_nothing site (form.parse query) ask

unfoldable pub nothing_text : OpenUrlFault → List ℕ
nothing_text why = joined (codes "nothing to look up: " ∷ reason_text why ∷ codes "\n" ∷ [])

unfoldable pub nothing_json : QueryFactsValue → OpenUrlFault → List ℕ
nothing_json ask why = answer_json ask (reason_text why) (tally_of []) (tally_of [])

-- the body for such an OpenURL, by whether its citation names a work
unfoldable pub numberless_body : site_file.SiteValue → List ℕ → Bool → Representation → QueryFactsValue → OpenUrlFault → List ℕ
numberless_body site query named Html ask why = nothing_page site query ask
numberless_body site query named Fragment ask why = nothing_fragment site query ask
numberless_body site query named Sfx ask why = no_targets
numberless_body site query true Text ask why = nothing_text why
numberless_body site query true Json ask why = nothing_json ask why
numberless_body site query false Text ask why = fault_body Text (reason_text why)
numberless_body site query false Json ask why = fault_body Json (reason_text why)

-- the status of the response to such an OpenURL; the reply of SFX is one without a target
abbrev pub numberless_status : Representation → Bool → Status → Status
numberless_status Sfx named code = code
numberless_status representation named code = if named then code else status.BadRequest

-- the response to an OpenURL without a number: with this status, if its citation names a work
abbrev pub numberless_response : site_file.SiteValue → List ℕ → Status → Representation → QueryFactsValue → OpenUrlFault → ResponseValue
numberless_response site query code representation ask why =
    response_with (numberless_status representation (names_work ask.citation) code) representation
    (numberless_body site query (names_work ask.citation) representation ask why)

-- the response is a page, and the OpenURL is empty
abbrev pub asks_for_form : List ℕ → Representation → Bool
asks_for_form [] Html = true
asks_for_form query representation = false

-- the response to an OpenURL for which nothing is looked up: the form, if it is empty and the response is a page. An
-- OpenURL without a number gets a response of its own, and one with too many numbers is rejected
abbrev pub unasked_response : site_file.SiteValue → List ℕ → Status → Representation → QueryFactsValue → OpenUrlFault → ResponseValue
unasked_response site query code representation ask why =
    if asks_for_form query representation then response_with status.Good Html (form_page site)
    else if is_numberless why then numberless_response site query code representation ask why
    else error_response site query status.BadRequest representation page.TooManyNumbers (reason_text why)
