-- Forms that a client submits by POST (RFC 9110, sections 8.6 and 9.3.3; RFC 9112, section 6.3; WHATWG URL, section 5).
use Rattle.std.specs.Prelude.{ℕ, ◌&&◌, not, nat_lt, Bool, true, false, if◌then◌else◌, List, codes, Option, Some, None, Result, Ok, Err}
use Rattle.std.specs.Option.{option_and_then, option_map_or}
use Rattle.std.specs.Str.{bytes_eq, str_eq_ignore_ascii_case}
use Rattle.httparse.specs.Grammar.{RequestHead}
use Rattle.feed_bytes.specs.Split.{split_once, number_in_64_bits}
use Rattle.feed_bytes.specs.Trim.{trimmed}
use Rattle.feed_http_heads.specs.Fields.{values_named, only, has_any}
use Rattle.feed_http_heads.specs.Requests.{lacks_host}
use Rattle.node_request.specs.Routes.{route_of}
use Rattle.node_request.specs.declared.route.Route.{Route}
use Rattle.node_request.specs.declared.route.Route.TheVariants.{Resolve, Package, Go}
use Rattle.node_request.specs.declared.form.FormFault.{FormFault}
use Rattle.node_request.specs.declared.form.FormFault.TheVariants.{Coding, NoLength, BadLength, TooLong, MediaType}

-- the most bytes of a form
abbrev pub form_limit : ℕ
form_limit = 8192

-- the routes that answer a query
abbrev pub takes_form : Route → Bool
takes_form Resolve = true
takes_form Package = true
takes_form Go = true
takes_form route = false

-- the request is a POST of such a route
abbrev pub is_form_post : RequestHead → Bool
is_form_post head = bytes_eq head.method (codes "POST") && (not (lacks_host head) && takes_form (route_of head))

-- a Content-Type of forms, whatever its parameters
abbrev pub is_form_type : List ℕ → Bool
is_form_type value = str_eq_ignore_ascii_case (trimmed (option_map_or (λ parts. parts.0) (split_once 59 value) value)) (codes "application/x-www-form-urlencoded")

-- the request's only Content-Type is that of forms
abbrev pub has_form_type : RequestHead → Bool
has_form_type head = option_map_or is_form_type (only (values_named (codes "content-type") head.fields)) false

-- the values of the Content-Length fields
abbrev pub length_values : RequestHead → List (List ℕ)
length_values head = values_named (codes "content-length") head.fields

-- the length that the only Content-Length states
abbrev pub stated_length : RequestHead → Result ℕ FormFault
stated_length head =
    if not (has_any (length_values head)) then Err NoLength
    else option_map_or (λ n. Ok n) (option_and_then number_in_64_bits (only (length_values head))) (Err BadLength)

-- a form of this length is read, if it is short enough and of the media type of forms
abbrev pub form_by : Bool → Result ℕ FormFault → Result ℕ FormFault
form_by is_typed (Err fault) = Err fault
form_by is_typed (Ok n) = if nat_lt form_limit n then Err TooLong else (if is_typed then Ok n else Err MediaType)

-- the length of the form that such a request submits, or the first reason why it is not read
abbrev pub form_in : RequestHead → Result ℕ FormFault
form_in head =
    if has_any (values_named (codes "transfer-encoding") head.fields) then Err Coding
    else form_by (has_form_type head) (stated_length head)

-- the same for any request: none if it submits no form
abbrev pub form_of : RequestHead → Option (Result ℕ FormFault)
form_of head = if is_form_post head then Some (form_in head) else None

-- the bytes of body to be read
abbrev pub length_of_form : Option (Result ℕ FormFault) → ℕ
length_of_form (Some (Ok n)) = n
length_of_form form = 0

-- the bytes of body to be read after the head of a request
abbrev pub form_length : RequestHead → ℕ
form_length head = length_of_form (form_of head)
