-- Laws of responses and of escaped texts.
use Rattle.std.specs.Prelude.{◌≡◌, ◌||◌, ℕ, Bool, List, [], Some, true, false, All, codes}
use Rattle.std.specs.Str.{IsUtf8}
use Rattle.node_response.specs.Escapes.{escaped, is_control, is_markup, shown, unescaped}
use Rattle.json.specs.Json.{document, string, object, member, no_members}
use Rattle.node_request.specs.declared.representation.Representation.TheVariants.{Json}
use Rattle.node_response.specs.JsonStrings.{json_string}
use Rattle.node_response.specs.Pages.{fault_body}
use Rattle.httparse.specs.Grammar.{ResponseHead}
use Rattle.feed_http_heads.specs.Fields.{values_named}
use Rattle.node_response.specs.Responses.{ResponseValue, is_document, of_site, with_tag, not_modified, response_of}
use Rattle.node_response.specs.Messages.{IsSentAs, IsSendable, IsHeadOf, IsMessage}

-- an escaped text has no `<`, `>`, `"` and `'`, and no control character
abbrev pub EscapedHasNoMarkup : Type 0
EscapedHasNoMarkup = (text : List ℕ) → All (λ b. (is_markup b || is_control b) ≡ false) (escaped text)

-- decoding an escaped text returns the text with spaces in place of control characters, so each `&` in it begins one of the
-- five references
abbrev pub EscapedReadsBack : Type 0
EscapedReadsBack = (text : List ℕ) → unescaped (escaped text) ≡ Some (shown text)

-- a page, a fragment of one or a document of XML that a site sends is UTF-8, whatever texts are in it
abbrev pub PagesAreUtf8 : Type 0
PagesAreUtf8 = (redirects : Bool) (page : ResponseValue) → is_document page.representation ≡ true → IsUtf8 (of_site redirects page).body

-- a JSON string is, by the grammar of JSON, the text from which it was written
abbrev pub JsonReadsBack : Type 0
JsonReadsBack = (text : List ℕ) → document (json_string text) ≡ Some (string text)

-- the body of an error response in JSON is an object whose only member is the name of the error
abbrev pub FaultIsJson : Type 0
FaultIsJson = (name : List ℕ) → document (fault_body Json name) ≡ Some (object (member (codes "fault") (string name) no_members))

-- a response is sent as one head and then the body. The head states the status, the length of the body and whether the
-- connection is closed. The response to a HEAD is the same head alone
abbrev pub ResponseReadsBack : Type 0
ResponseReadsBack = (keeps : Bool) (reply : ResponseValue) → IsSendable reply → (head : ResponseHead) × IsSentAs keeps reply head

-- the heads have the same fields of this name
abbrev pub HaveSame : List ℕ → ResponseHead → ResponseHead → Type 0
HaveSame name head other = values_named name head.fields ≡ values_named name other.fields

-- the response to a client that has the representation is a head without a body. It states the entity tag, how long a
-- cache may keep it and what it depends on as the head of the whole response does (RFC 9110, section 15.4.5)
abbrev pub NotModifiedIsHeadOfGood : Type 0
NotModifiedIsHeadOfGood =
    (keeps alone : Bool) (tag : List ℕ) (max_age : ℕ) (good : ResponseValue) → IsSendable (with_tag tag max_age good)
    → (head other : ResponseHead)
    × IsMessage (response_of keeps alone (not_modified tag max_age good.representation)) head [] × IsHeadOf keeps (with_tag tag max_age good) other
    × HaveSame (codes "etag") head other × HaveSame (codes "cache-control") head other × HaveSame (codes "vary") head other
