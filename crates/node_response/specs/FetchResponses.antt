-- The response to a request that a node fetch a release.
use Rattle.std.specs.Prelude.{◌⊎◌, ℕ, Bool, false, if◌then◌else◌, List, codes}
use Rattle.std.specs.Option.{option_map_or}
use Rattle.httparse.specs.Grammar.{RequestHead}
use Rattle.node_request.specs.FetchRequests.{FetchPolicyValue, is_authorized}
use Rattle.node_request.specs.declared.representation.Representation.TheVariants.{Text}
use Rattle.node_response.specs.Responses.{ResponseTextValue, refusal, response_of}
use Rattle.node_response.specs.declared.fetch_responses.TheConstants.{PROGRESS_HEAD}
use Rattle.node_response.specs.Messages.{IsMessageFor, BeginsStream}
use Rattle.node_response.specs.declared.status.Status.TheVariants as status

-- the head of the response that reports the progress of the fetch
unfoldable pub progress_head : List ℕ
progress_head = PROGRESS_HEAD.now

-- the same, before any of its body
abbrev pub progress_response : ResponseTextValue
progress_response = record { bytes = progress_head; status = 200; body_length = 0 }

-- the response to a client that has the token
abbrev pub authorized_response : Bool → Bool → ResponseTextValue
authorized_response keeps is_busy = if is_busy then response_of keeps false (refusal status.Conflict Text (codes "Busy")) else progress_response

-- the response to a client that requests a fetch
abbrev pub fetch_response : FetchPolicyValue → Bool → RequestHead → ResponseTextValue
fetch_response policy keeps head = option_map_or
    (λ token. if is_authorized token head then authorized_response keeps policy.is_busy
    else response_of keeps false (refusal status.Unauthorized Text (codes "Unauthorized")))
    policy.token (response_of keeps false (refusal status.NotFound Text (codes "NoTarget")))

-- a response to such a client: an error response, or the beginning of the one that reports progress
abbrev pub IsFetchMessage : Bool → ResponseTextValue → Type 0
IsFetchMessage keeps response = IsMessageFor keeps false response ⊎ BeginsStream response
