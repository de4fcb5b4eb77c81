-- Responses as the grammar of HTTP reads them (RFC 9112, sections 2.2, 4 and 6).
use Rattle.std.specs.Prelude.{◌≡◌, ◌<◌, ◌^◌, ◌==◌, ℕ, Bool, false, true, MatchBool, if◌then◌else◌, List, [], ◌∷◌, length, All, codes, Option, Some}
use Rattle.std.specs.Fmt.{decimal}
use Rattle.httparse.specs.Grammar.{AllPass, is_uri_byte, Field, crlf, ResponseHead, ReadsResponse}
use Rattle.httparse.specs.Grammar as grammar
use Rattle.feed_http_heads.specs.Fields.{values_named, only}
use Rattle.node_response.specs.Responses.{ResponseValue, ResponseTextValue, status_code, type_text, is_bodiless, response_body, response_of}
use Rattle.node_response.specs.Fragments.{joined}
use Rattle.node_response.specs.declared.status.Status.{Status}
use Rattle.node_response.specs.declared.status.Status.TheVariants as status

-- a field line ends in CR LF
abbrev pub EndsInCrlf : Field → Type 0
EndsInCrlf field = field.end ≡ crlf

-- a head as a server has to send it: HTTP/1.1, no line before the status line, and each line ended by CR LF
pub record IsSentHead (head : ResponseHead) : Type 0 where
  pub minor : head.minor ≡ 1
  pub first : head.blank ≡ []
  pub line : head.line_end ≡ crlf
  pub lines : All EndsInCrlf head.fields
  pub last : head.last ≡ crlf

-- the value of the head's only field with this name
abbrev pub value_in : ResponseHead → List ℕ → Option (List ℕ)
value_in head name = only (values_named name head.fields)

-- the head states this length of a body
abbrev pub StatesLength : ResponseHead → ℕ → Type 0
StatesLength head size = value_in head (codes "content-length") ≡ Some (decimal size)

-- the head states the length of this body; that of a status without a body states none, and the body is empty
abbrev pub StatesBody : ℕ → ResponseHead → List ℕ → Type 0
StatesBody code head body = MatchBool (is_bodiless code) (body ≡ []) (StatesLength head (length body))

-- the values of the Connection fields in the head of a response: `close` alone, or none if the connection is kept
-- (RFC 9112, section 9.6)
abbrev pub connection_values : Bool → List (List ℕ)
connection_values keeps = if keeps then [] else codes "close" ∷ []

-- the head announces that the connection is closed after the response exactly if it is not kept
abbrev pub StatesConnection : ResponseHead → Bool → Type 0
StatesConnection head keeps = values_named (codes "connection") head.fields ≡ connection_values keeps

-- the bytes are such a head, with the status of the response, and this body
pub record IsMessage (response : ResponseTextValue) (head : ResponseHead) (body : List ℕ) : Type 0 where
  pub reads : ReadsResponse response.bytes head body
  pub sent : IsSentHead head
  pub status : grammar.status_code head ≡ response.status
  pub body_length : response.body_length ≡ length body

-- the locations that a response of this status states
abbrev pub locations : Status → List ℕ → List (List ℕ)
locations status.Found location = location ∷ []
locations code location = []

-- one value, or none if the status excludes a body
abbrev pub unless_bodiless : Status → List ℕ → List (List ℕ)
unless_bodiless code value = if is_bodiless (status_code code) then [] else value ∷ []

-- the entity tags that a response states
abbrev pub tags : List ℕ → List (List ℕ)
tags [] = []
tags (b ∷ tag) = (b ∷ tag) ∷ []

-- the directives of a response for a cache (RFC 9111, section 5.2.2)
abbrev pub cache_text : ℕ → List ℕ
cache_text max_age = if max_age == 0 then codes "no-cache" else joined (codes "max-age=" ∷ decimal max_age ∷ [])

-- the head states the status of the response, its media type and the length of its body, if it has one, its entity tag,
-- how long a cache may keep it, whether the connection is closed and, in a redirect, the location
pub record IsHeadOf (keeps : Bool) (reply : ResponseValue) (head : ResponseHead) : Type 0 where
  pub status : grammar.status_code head ≡ status_code reply.status
  pub size : values_named (codes "content-length") head.fields ≡ unless_bodiless reply.status (decimal (length reply.body))
  pub media : values_named (codes "content-type") head.fields ≡ unless_bodiless reply.status (type_text reply.representation)
  pub tag : values_named (codes "etag") head.fields ≡ tags reply.tag
  pub caching : values_named (codes "cache-control") head.fields ≡ cache_text reply.max_age ∷ []
  pub varies : values_named (codes "vary") head.fields ≡ codes "Accept" ∷ []
  pub location : values_named (codes "location") head.fields ≡ locations reply.status reply.location
  pub connection : StatesConnection head keeps

-- the response is sent as this head and its body, and to a HEAD as this head and nothing after it
pub record IsSentAs (keeps : Bool) (reply : ResponseValue) (head : ResponseHead) : Type 0 where
  pub states : IsHeadOf keeps reply head
  pub whole : IsMessage (response_of keeps false reply) head (response_body false reply)
  pub alone : IsMessage (response_of keeps true reply) head []

-- a location has no space and no control byte
abbrev pub IsLocation : List ℕ → Type 0
IsLocation location = AllPass is_uri_byte location

-- a response whose length, location and tag can be stated
pub record IsSendable (reply : ResponseValue) : Type 0 where
  pub location : IsLocation reply.location
  pub size : length (response_body false reply) < 2 ^ 64
  pub tag : AllPass is_uri_byte reply.tag
  pub age : reply.max_age < 2 ^ 64

-- the response is one head and a body whose length the head states, or the head alone. A status without a body has
-- neither of them. The head announces that the connection is closed exactly if it is not kept
pub record IsMessageFor (keeps : Bool) (head_alone : Bool) (response : ResponseTextValue) : Type 0 where
  pub head : ResponseHead
  pub body : List ℕ
  pub message : IsMessage response head body
  pub whole : head_alone ≡ false → StatesBody response.status head body
  pub alone : head_alone ≡ true → body ≡ []
  pub connection : StatesConnection head keeps

-- the response is a head of status 200 that states no length, with its body still to come; the connection is closed
-- after the body
pub record BeginsStream (response : ResponseTextValue) : Type 0 where
  pub head : ResponseHead
  pub message : IsMessage response head []
  pub good : response.status ≡ 200
  pub unknown : values_named (codes "content-length") head.fields ≡ []
  pub connection : StatesConnection head false
