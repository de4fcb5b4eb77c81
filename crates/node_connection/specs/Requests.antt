-- The requests in the bytes received on a connection (RFC 9112, sections 9.3 and 9.3.2).
use Rattle.std.specs.Prelude.{◌≡◌, ◌==◌, ◌&&◌, ◌||◌, ◌⊎◌, ◌≤◌, ℕ, nat_lt, Bool, true, false, not, if◌then◌else◌, List, [], ◌∷◌, ◌++◌, length, codes, Option, Some, None}
use Rattle.std.specs.Option.{option_and_then, option_map_or}
use Rattle.std.specs.Str.{bytes_eq}
use Rattle.httparse.specs.Grammar.{RequestHead, ReadsRequest, print_request}
use Rattle.feed_bytes.specs.Split.{number_in_64_bits}
use Rattle.feed_http_heads.specs.Limits.{head_limit, field_limit}
use Rattle.feed_http_heads.specs.RequestHeads.{BeginsWithHead, NeverBeginsWithHead}
use Rattle.feed_http_heads.specs.Fields.{values_named, has_any, only}
use Rattle.feed_http_heads.specs.Options.{lacks_close, lacks_option}

-- the most bytes of a body that is received
abbrev pub body_limit : ℕ
body_limit = 8192

-- the length of a body, by the values of Content-Length: 0 without one, and unknown if there are more or the one is not a
-- number (RFC 9112, section 6.3)
abbrev pub length_in : List (List ℕ) → Option ℕ
length_in values = if has_any values then option_and_then number_in_64_bits (only values) else Some 0

-- the length of the body that follows the head; a Transfer-Encoding leaves it unknown
abbrev pub stated_len : RequestHead → Option ℕ
stated_len head =
    if has_any (values_named (codes "transfer-encoding") head.fields) then None
    else length_in (values_named (codes "content-length") head.fields)

-- a body of this length follows the head
abbrev pub states_len : RequestHead → ℕ → Bool
states_len head size = option_map_or (λ stated. stated == size) (stated_len head) false

-- the length of the body that is received, if this one is wanted: the same, or nothing if the head states another
abbrev pub body_len_of : ℕ → RequestHead → ℕ
body_len_of wanted head = if states_len head wanted then wanted else 0

-- the client of HTTP/1.1 waits for an interim response before it sends the body (RFC 9110, section 10.1.1)
abbrev pub expects_continue : RequestHead → Bool
expects_continue head = (head.minor == 1) && not (lacks_option (codes "expect") (codes "100-continue") head.fields)

-- the method is POST, which may make the node fetch
abbrev pub is_post : RequestHead → Bool
is_post head = bytes_eq head.method (codes "POST")

-- the connection persists after the request with this head and a body of this length
abbrev pub persists : RequestHead → ℕ → Bool
persists head size =
    (head.minor == 1) && ((not (is_post head) || nat_lt 0 size) && (lacks_close head.fields && states_len head size))

-- the connection persists after the request with these bytes of its head, and this body of the wanted length or none
pub record IsPersistent (wanted : RequestHead → ℕ) (bytes body : List ℕ) : Type 0 where
  pub head : RequestHead
  pub begins : BeginsWithHead head_limit field_limit bytes head
  pub size : length body ≡ body_len_of (wanted head) head
  pub keeps : persists head (length body) ≡ true

-- a request, its head and its body: the connection persists after it; it is the last; or the bytes are not a request,
-- whatever follows
pub data Request : Type 0 where
  Persistent Last : RequestHead → List ℕ → Request
  Invalid : List ℕ → Request

-- the bytes of a request: its head and its body, or those that are none
abbrev pub text_of : Request → List ℕ
text_of (Persistent head body) = print_request head ++ body
text_of (Last head body) = print_request head ++ body
text_of (Invalid text) = text

-- the last one of a list of requests has these bytes
abbrev pub IsLastOf : List Request → List ℕ → Type 0
IsLastOf requests bytes = (earlier : List Request) × (last : Request) × (requests ≡ earlier ++ last ∷ []) × (text_of last ≡ bytes)

-- the bytes begin with this head, within the limits, and directly after it with this body
pub record Begins (bytes : List ℕ) (head : RequestHead) (body : List ℕ) : Type 0 where
  pub rest : List ℕ
  pub reads : ReadsRequest bytes head (body ++ rest)
  pub short : length (print_request head) ≤ head_limit
  pub few : length head.fields ≤ field_limit

-- the bytes begin with these requests, each directly after the one before, and the rest follows the last; only the last
-- one may end the connection
abbrev pub AreRequestsIn : List ℕ → List Request → List ℕ → Type 0
AreRequestsIn bytes [] rest = bytes ≡ rest
AreRequestsIn bytes (Persistent head body ∷ more) rest =
    (begins : Begins bytes head body) × (persists head (length body) ≡ true) × AreRequestsIn begins.rest more rest
AreRequestsIn bytes (Last head body ∷ more) rest = Begins bytes head body × (more ≡ [])
AreRequestsIn bytes (Invalid text ∷ more) rest = (bytes ≡ text ++ rest) × NeverBeginsWithHead head_limit field_limit text × (more ≡ [])

-- the connection persists after each of them
abbrev pub all_persist : List Request → Bool
all_persist [] = true
all_persist (Persistent head body ∷ more) = all_persist more
all_persist (Last head body ∷ more) = false
all_persist (Invalid text ∷ more) = false

-- the heads of requests
abbrev pub heads_in : List Request → List RequestHead
heads_in [] = []
heads_in (Persistent head body ∷ more) = head ∷ heads_in more
heads_in (Last head body ∷ more) = head ∷ heads_in more
heads_in (Invalid text ∷ more) = heads_in more

abbrev pub IsFrontOf : List RequestHead → List RequestHead → Type 0
IsFrontOf these those = (more : List RequestHead) × (those ≡ these ++ more)

-- the bytes contain no other requests: of two such lists, the heads of one are the first heads of the other
abbrev pub RequestsAreUnique : Type 0
RequestsAreUnique = (bytes : List ℕ) (these those : List Request) (rest others : List ℕ) → AreRequestsIn bytes these rest → AreRequestsIn bytes those others
    → IsFrontOf (heads_in these) (heads_in those) ⊎ IsFrontOf (heads_in those) (heads_in these)
