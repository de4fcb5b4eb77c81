-- Responses, and their bytes.
use Rattle.std.specs.Prelude.{ℕ, ◌==◌, ◌||◌, ◌&&◌, Bool, true, false, if◌then◌else◌, List, [], ◌∷◌, ◌++◌, length, codes}
use Rattle.std.specs.Fmt.{decimal}
use Rattle.node_request.specs.declared.representation.Representation.{Representation}
use Rattle.node_request.specs.declared.representation.Representation.TheVariants.{Text, Json, Html, Fragment, Sfx}
use Rattle.node_response.specs.Fragments.{joined}
use Rattle.node_response.specs.Utf8.{in_utf8}
use Rattle.node_response.specs.Pages.{fault_body, fault_representation}
use Rattle.node_response.specs.declared.response.TheConstants.{LAST_FIELDS, PAGE_FIELDS, REDIRECTING_FIELDS, SHARED_FIELDS, FRAGMENT_FIELDS, PREFLIGHT_FIELDS, QUERY_PREFLIGHT_FIELDS}
use Rattle.node_response.specs.declared.status.Status.{Status}
use Rattle.node_response.specs.declared.status.Status.TheVariants as status

-- a response: its status, the location of a redirect, if any, its representation, its body, its entity tag, which is
-- empty if there is none, for how many seconds a cache may use it without asking again, and whether it is a page of a
-- site that redirects browsers to a sole hit
pub record ResponseValue : Type 0 where
  pub status : Status
  pub location : List ℕ
  pub representation : Representation
  pub body : List ℕ
  pub tag : List ℕ
  pub max_age : ℕ
  pub redirects : Bool

-- the bytes of a response, its status code, and the length of the body in them
pub record ResponseTextValue : Type 0 where
  pub bytes : List ℕ
  pub status : ℕ
  pub body_length : ℕ

-- a response that is not a redirect
abbrev pub response_with : Status → Representation → List ℕ → ResponseValue
response_with code representation body =
    record { status = code; location = []; representation = representation; body = body; tag = []; max_age = 0; redirects = false }

-- a redirect
abbrev pub redirect_to : List ℕ → ResponseValue
redirect_to url =
    record { status = status.Found; location = url; representation = Text; body = []; tag = []; max_age = 0; redirects = false }

-- the same response with an entity tag, and fresh for this many seconds
abbrev pub with_tag : List ℕ → ℕ → ResponseValue → ResponseValue
with_tag tag max_age reply = record {
  status = reply.status;
  location = reply.location;
  representation = reply.representation;
  body = reply.body;
  tag = tag;
  max_age = max_age;
  redirects = reply.redirects;
}

-- a document of HTML or XML, or a fragment of one
abbrev pub is_document : Representation → Bool
is_document Text = false
is_document Json = false
is_document Html = true
is_document Fragment = true
is_document Sfx = true

-- the body that a site sends: a document is UTF-8
abbrev pub sent_body : Representation → List ℕ → List ℕ
sent_body Text body = body
sent_body Json body = body
sent_body Html body = in_utf8 body
sent_body Fragment body = in_utf8 body
sent_body Sfx body = in_utf8 body

-- the response of a site that redirects browsers to a sole hit, or not
abbrev pub of_site : Bool → ResponseValue → ResponseValue
of_site redirects reply = record {
  status = reply.status;
  location = reply.location;
  representation = reply.representation;
  body = sent_body reply.representation reply.body;
  tag = reply.tag;
  max_age = reply.max_age;
  redirects = is_document reply.representation && redirects;
}

-- the response to a client that has what such a response would send (RFC 9110, section 15.4.5)
abbrev pub not_modified : List ℕ → ℕ → Representation → ResponseValue
not_modified tag max_age representation = with_tag tag max_age (response_with status.NotModified representation [])

-- an error response without a page
abbrev pub refusal : Status → Representation → List ℕ → ResponseValue
refusal code representation name = response_with code (fault_representation representation) (fault_body representation name)

-- the code of a status and its reason phrase (RFC 9110, section 15)
abbrev pub code_and_reason : Status → ℕ × List ℕ
code_and_reason status.Good = (200, codes "OK")
code_and_reason status.Listed = (200, codes "OK")
code_and_reason status.Ended = (204, codes "No Content")
code_and_reason status.Preflight = (204, codes "No Content")
code_and_reason status.QueryPreflight = (204, codes "No Content")
code_and_reason status.Found = (302, codes "Found")
code_and_reason status.NotModified = (304, codes "Not Modified")
code_and_reason status.BadRequest = (400, codes "Bad Request")
code_and_reason status.Unauthorized = (401, codes "Unauthorized")
code_and_reason status.NotFound = (404, codes "Not Found")
code_and_reason status.MethodNotAllowed = (405, codes "Method Not Allowed")
code_and_reason status.PostOnly = (405, codes "Method Not Allowed")
code_and_reason status.GetOrPost = (405, codes "Method Not Allowed")
code_and_reason status.GetOrDelete = (405, codes "Method Not Allowed")
code_and_reason status.Conflict = (409, codes "Conflict")
code_and_reason status.LengthRequired = (411, codes "Length Required")
code_and_reason status.ContentTooLarge = (413, codes "Content Too Large")
code_and_reason status.UnsupportedMediaType = (415, codes "Unsupported Media Type")
code_and_reason status.Misdirected = (421, codes "Misdirected Request")
code_and_reason status.NotImplemented = (501, codes "Not Implemented")

-- the code alone
abbrev pub status_code : Status → ℕ
status_code code = (code_and_reason code).0

-- whether a response with this status code has no body (RFC 9110, sections 15.3.5 and 15.4.5)
abbrev pub is_bodiless : ℕ → Bool
is_bodiless code = code == 204 || code == 304

-- whether it is 200, of a response that depends on the releases
abbrev pub is_good : Status → Bool
is_good status.Good = true
is_good code = false

-- its reason phrase
abbrev pub reason_text : Status → List ℕ
reason_text code = (code_and_reason code).1

-- the status line, without its end (RFC 9112, section 4)
abbrev pub status_line : Status → List ℕ
status_line code = joined (codes "HTTP/1.1 " ∷ decimal (status_code code) ∷ codes " " ∷ reason_text code ∷ [])

-- the media type of a representation
abbrev pub type_text : Representation → List ℕ
type_text Text = codes "text/plain; charset=utf-8"
type_text Json = codes "application/json"
type_text Html = codes "text/html; charset=utf-8"
type_text Fragment = codes "text/html; charset=utf-8"
type_text Sfx = codes "application/xml; charset=utf-8"

-- the fields that a status asks for (RFC 9110, sections 10.2.1, 10.2.2 and 11.6.1); those of a preflight are of the Fetch
-- standard
abbrev pub status_field : Status → List ℕ → List ℕ
status_field status.Listed location = joined (codes "\r\nAllow: GET, HEAD, DELETE" ∷ [])
status_field status.Preflight location = joined (PREFLIGHT_FIELDS.now ∷ [])
status_field status.QueryPreflight location = joined (QUERY_PREFLIGHT_FIELDS.now ∷ [])
status_field status.Found location = joined (codes "\r\nLocation: " ∷ location ∷ [])
status_field status.MethodNotAllowed location = joined (codes "\r\nAllow: GET, HEAD" ∷ [])
status_field status.PostOnly location = joined (codes "\r\nAllow: POST" ∷ [])
status_field status.GetOrPost location = joined (codes "\r\nAllow: GET, HEAD, POST" ∷ [])
status_field status.GetOrDelete location = joined (codes "\r\nAllow: GET, HEAD, DELETE" ∷ [])
status_field status.Unauthorized location = joined (codes "\r\nWWW-Authenticate: Bearer" ∷ [])
status_field code location = []

-- the field that announces that the connection is closed after the response, unless it is kept (RFC 9112, section 9.6)
abbrev pub connection_field : Bool → List ℕ
connection_field keeps = if keeps then [] else codes "\r\nConnection: close"

-- the fields that describe a body of this length, if the status has one
abbrev pub content_fields : Bool → Representation → ℕ → List ℕ
content_fields bodiless representation size =
    if bodiless then [] else joined (
    codes "\r\nContent-Type: " ∷ type_text representation ∷ codes "\r\nContent-Length: " ∷ decimal size ∷ [])

-- the entity tag, if there is one (RFC 9110, section 8.8.3)
abbrev pub tag_field : List ℕ → List ℕ
tag_field [] = []
tag_field (b ∷ tag) = joined (codes "\r\nETag: " ∷ (b ∷ tag) ∷ [])

-- whether a cache asks again, or for how many seconds it need not (RFC 9111, section 5.2.2)
abbrev pub cache_field : ℕ → List ℕ
cache_field max_age =
    if max_age == 0 then codes "\r\nCache-Control: no-cache"
    else joined (codes "\r\nCache-Control: max-age=" ∷ decimal max_age ∷ [])

-- what a browser may do with the response: a page runs no script, has its own styles and sends forms to its own site,
-- and, on a site that redirects, to where the form is redirected; the scripts of any site may read the others, and a
-- fragment runs and sends nothing by itself
abbrev pub policy_field : Representation → Bool → List ℕ
policy_field Text redirects = SHARED_FIELDS.now
policy_field Json redirects = SHARED_FIELDS.now
policy_field Html true = REDIRECTING_FIELDS.now
policy_field Html false = PAGE_FIELDS.now
policy_field Fragment redirects = FRAGMENT_FIELDS.now
policy_field Sfx redirects = SHARED_FIELDS.now

-- the last fields, and the end of the head
abbrev pub last_fields : Bool → Representation → Bool → List ℕ
last_fields keeps representation redirects =
    joined (LAST_FIELDS.now ∷ policy_field representation redirects ∷ connection_field keeps ∷ codes "\r\n\r\n" ∷ [])

-- the head of a response, on a connection that is kept or not
unfoldable pub response_head : Bool → ResponseValue → List ℕ
response_head keeps reply =
    status_line reply.status
    ++ (status_field reply.status reply.location
    ++ (content_fields (is_bodiless (status_code reply.status)) reply.representation (length reply.body)
    ++ (tag_field reply.tag
    ++ (cache_field reply.max_age
    ++ last_fields keeps reply.representation reply.redirects))))

-- the body that is sent; the response to a HEAD has none, and nor has one whose status excludes it
abbrev pub response_body : Bool → ResponseValue → List ℕ
response_body head_alone reply = if head_alone || is_bodiless (status_code reply.status) then [] else reply.body

-- the bytes of a response, with its status code and the length of the body that is sent
abbrev pub response_of : Bool → Bool → ResponseValue → ResponseTextValue
response_of keeps head_alone reply = record {
  bytes = response_head keeps reply ++ response_body head_alone reply;
  status = status_code reply.status;
  body_length = length (response_body head_alone reply);
}

-- the response to bytes without a valid head
abbrev pub bad_head_response : Bool → ResponseTextValue
bad_head_response keeps = response_of keeps false (refusal status.BadRequest Text (codes "BadHead"))
