-- The responses of a responder, and the parts of a response that the resolver's definitions speak of.
use Rattle.std.specs.Prelude.{◌≡◌, ◌⊎◌, ◌||◌, ◌&&◌, ℕ, Bool, List, Option, Some, None, is_some}
use Rattle.feed_model.specs.History.{History}
use Rattle.node_connection.specs.declared.respond.LoggedResponse.{LoggedResponse}
use Rattle.node_request.specs.FetchRequests.{FetchPolicyValue, IsWhetherToBegin}
use Rattle.node_request.specs.SitesRequests.{IsSitesToRead}
use Rattle.node_request.specs.declared.sites_target.SitesRequest.{SitesRequest}
use Rattle.node_response.specs.Responses.{ResponseTextValue}
use Rattle.node_resolver.specs.NodeResponses.{IsNodeResponseAt, SaysOfConnection}
use Rattle.node_operator.specs.FeedResponses.{IsFeedResponse}
use Rattle.node_operator.specs.SitesResponses.{IsSitesResponse, SaysOfSites}
use Rattle.node_sites.specs.declared.node_sites.NodeSites.{NodeSites}
use Rattle.node_monitoring.specs.declared.report_text.ReportResponse.{ReportResponse}
use Rattle.node_machine.specs.Rules.{Terms}
use Rattle.node_service.specs.declared.responder.FeedResponder.{FeedResponder}
use Rattle.node_service.specs.Reports.{IsReportFor, HasNoReport}
use Rattle.node_service.specs.Wanted.{IsAnswerable, IsUnanswerable}

-- the response to an operator: about the recorded releases, or else about the folder of site files, exactly if the bytes
-- ask for one of them
abbrev pub IsOperatorResponse : Bool → FetchPolicyValue → List ℕ → Bool → Option ResponseTextValue → Type 0
IsOperatorResponse has_folder policy bytes keeps (Some response) =
    IsFeedResponse policy bytes keeps (Some response) ⊎ (IsFeedResponse policy bytes keeps None × IsSitesResponse has_folder policy bytes keeps (Some response))
IsOperatorResponse has_folder policy bytes keeps None = IsFeedResponse policy bytes keeps None × IsSitesResponse has_folder policy bytes keeps None

-- the response to an operator, if the bytes ask for it, and otherwise that of a node whose feed has this history, on this day
-- and with these sites; readers have one only if no wanted package lacks a release
abbrev pub IsResponseBy : FeedResponder → Terms NodeSites → History → List ℕ → List ℕ → Bool → ResponseTextValue → Type 0
IsResponseBy responder terms h bytes body keeps response =
    IsOperatorResponse responder.has_folder terms.policy bytes keeps (Some response)
    ⊎ (IsOperatorResponse responder.has_folder terms.policy bytes keeps None × IsAnswerable responder.wanted.now h bytes
    × IsNodeResponseAt terms.sites terms.policy terms.today h bytes body keeps response)

-- a reader has no such response, exactly because a wanted package lacks a release
abbrev pub IsHeldBack : FeedResponder → FetchPolicyValue → History → List ℕ → Bool → Type 0
IsHeldBack responder policy h bytes keeps =
    IsOperatorResponse responder.has_folder policy bytes keeps None × IsUnanswerable responder.wanted.now h bytes

-- whether a node, which has a folder or has none, begins to read it by this policy
abbrev pub IsWhetherToRead : Bool → FetchPolicyValue → List ℕ → Bool → Type 0
IsWhetherToRead has_folder policy bytes reads =
    (asked : Option SitesRequest) × IsSitesToRead policy bytes asked × (reads ≡ (has_folder && is_some asked))

-- whether a response is streamed: the node begins to fetch, or to read its folder
abbrev pub IsWhetherToStream : Bool → FetchPolicyValue → List ℕ → Bool → Type 0
IsWhetherToStream has_folder policy bytes is_streamed =
    (begins reads : Bool) × IsWhetherToBegin policy bytes begins × IsWhetherToRead has_folder policy bytes reads × (is_streamed ≡ (begins || reads))

-- the response says whether the connection is kept, or that it is closed: one that reports progress ends with it
abbrev pub SaysOfTurn : List ℕ → Bool → ResponseTextValue → Type 0
SaysOfTurn bytes keeps response = SaysOfSites bytes keeps response ⊎ SaysOfConnection bytes keeps response

-- the same response, and whether it is streamed
abbrev pub IsTurnResponse : FeedResponder → Terms NodeSites → History → List ℕ → List ℕ → Bool → ResponseTextValue → Bool → Type 0
IsTurnResponse responder terms h bytes body keeps response is_streamed =
    IsResponseBy responder terms h bytes body keeps response × IsWhetherToStream responder.has_folder terms.policy bytes is_streamed

-- the bytes of such a response
abbrev pub IsReaderText : FeedResponder → Terms NodeSites → History → List ℕ → List ℕ → Bool → List ℕ → Type 0
IsReaderText responder terms h bytes body keeps text =
    (response : ResponseTextValue) × (is_streamed : Bool)
    × IsTurnResponse responder terms h bytes body keeps response is_streamed × (text ≡ response.bytes)

-- the bytes of a response about the node
abbrev pub IsReportText : FeedResponder → Terms NodeSites → History → List ℕ → Bool → List ℕ → Type 0
IsReportText responder terms h bytes keeps text =
    (reply : ReportResponse) × IsReportFor responder terms.is_local h bytes keeps reply × (text ≡ reply.bytes.items)

-- the bytes of a response: about the node, if the client may have that and asks for it, and otherwise as if there were
-- no such responses
abbrev pub IsTurnText : FeedResponder → Terms NodeSites → History → List ℕ → List ℕ → Bool → List ℕ → Type 0
IsTurnText responder terms h bytes body keeps text =
    IsReportText responder terms h bytes keeps text
    ⊎ (HasNoReport responder terms.is_local bytes × IsReaderText responder terms h bytes body keeps text)

-- the bytes of a response, with the status and the length that are logged
abbrev pub response_in : LoggedResponse → ResponseTextValue
response_in reply = record { bytes = reply.bytes.items; status = reply.summary.status; body_length = reply.summary.body_len }
