-- Which representation a request asks for (RFC 9110, sections 12.4.2 and 12.5.1).
use Rattle.std.specs.Prelude.{ℕ, ◌+◌, ◌-◌, ◌*◌, ◌==◌, ◌&&◌, nat_le, Bool, true, false, if◌then◌else◌, is_some, List, [], ◌∷◌, length, codes, slice_get, Option, Some, None}
use Rattle.std.specs.List.{list_all}
use Rattle.std.specs.Option.{option_and_then, option_map_or}
use Rattle.std.specs.Char.{is_ascii_digit}
use Rattle.std.specs.Str.{bytes_eq, str_eq_ignore_ascii_case}
use Rattle.feed_bytes.specs.Split.{split_once, strip_prefix}
use Rattle.feed_bytes.specs.Trim.{trimmed}
use Rattle.httparse.specs.Grammar.{RequestHead}
use Rattle.feed_http_heads.specs.Fields.{values_named, only}
use Rattle.feed_bytes.specs.Parts.{parts_at}
use Rattle.node_request.specs.declared.representation.Representation.{Representation}
use Rattle.node_request.specs.declared.representation.Representation.TheVariants.{Text, Json, Html, Fragment, Sfx}
use Rattle.node_request.specs.declared.route.Route.{Route}
use Rattle.node_request.specs.declared.route.Route.TheVariants as route
use Rattle.node_request.specs.SfxQueries.{sfx_form_in}

-- the first, or otherwise the second
abbrev pub or_else : {A : Type 0} → Option A → Option A → Option A
or_else (Some x) other = Some x
or_else None other = other

-- the digit at a place, or 0 if there is none
abbrev pub digit_at : List ℕ → ℕ → ℕ
digit_at digits place = option_map_or (λ digit. digit - 48) (slice_get digits place) 0

-- the thousandths that at most three digits after a decimal point denote
abbrev pub thousandths : List ℕ → Option ℕ
thousandths digits =
    if nat_le (length digits) 3 && list_all is_ascii_digit digits
    then Some (digit_at digits 0 * 100 + digit_at digits 1 * 10 + digit_at digits 2)
    else None

-- the thousandths after the first digit of a weight: nothing follows, or a point and digits
abbrev pub fraction : List ℕ → Option ℕ
fraction [] = Some 0
fraction (point ∷ digits) = if point == 46 then thousandths digits else None

-- a weight in thousandths: 0, 1, or a number between them of at most three decimals
abbrev pub weight_value : List ℕ → Option ℕ
weight_value [] = None
weight_value (first ∷ rest) =
    if first == 48 then fraction rest
    else (if first == 49 then option_and_then (λ more. if more == 0 then Some 1000 else None) (fraction rest)
    else None)

-- the weight that a parameter `q` gives
abbrev pub weight_of : List ℕ → Option ℕ
weight_of parameters = option_and_then weight_value (strip_prefix (codes "q=") (trimmed parameters))

-- the weight that an element gives the range, if it is for this range; an element with other parameters is for another
-- one
abbrev pub weight_in : List ℕ → List ℕ → Option ℕ
weight_in range element = option_map_or
    (λ parts. if str_eq_ignore_ascii_case (trimmed parts.0) range then weight_of parts.1 else None)
    (split_once 59 element)
    (if str_eq_ignore_ascii_case (trimmed element) range then Some 1000 else None)

-- the weight by the first element that gives one
abbrev pub first_weight : List ℕ → List (List ℕ) → Option ℕ
first_weight range [] = None
first_weight range (element ∷ elements) = or_else (weight_in range element) (first_weight range elements)

-- the weight that a field's value gives a range; its elements are separated by commas
abbrev pub weight_under : List ℕ → List ℕ → Option ℕ
weight_under range value = first_weight range (parts_at 44 value)

-- the weight of a media type: that of its own range, otherwise that of its family, otherwise that of all types
abbrev pub type_weight : List ℕ → List ℕ → List ℕ → ℕ
type_weight type family value = option_map_or (λ weight. weight)
    (or_else (weight_under type value) (or_else (weight_under family value) (weight_under (codes "*/*") value))) 0

-- the representation with the greatest weight; of equals text comes first, then HTML
abbrev pub most_preferred : ℕ → ℕ → ℕ → Representation
most_preferred text json html =
    if nat_le html text && nat_le json text then Text
    else (if nat_le json html then Html else Json)

-- the representation that the value of an Accept field prefers
abbrev pub preferred_in : List ℕ → Representation
preferred_in value = most_preferred
    (type_weight (codes "text/plain") (codes "text/*") value)
    (type_weight (codes "application/json") (codes "application/*") value)
    (type_weight (codes "text/html") (codes "text/*") value)

-- the representation that a request prefers: text, unless it has exactly one Accept field and that prefers another
abbrev pub accepted_representation : RequestHead → Representation
accepted_representation head = option_map_or preferred_in (only (values_named (codes "accept") head.fields)) Text

-- the representation that a field of a query names on any route
abbrev pub common_format_in : List ℕ → Option Representation
common_format_in piece =
    if bytes_eq piece (codes "format=text") then Some Text
    else (if bytes_eq piece (codes "format=json") then Some Json
    else (if bytes_eq piece (codes "format=html") then Some Html
    else None))

-- the representation that a field names which only hits have
abbrev pub hits_format_in : List ℕ → Option Representation
hits_format_in piece =
    if bytes_eq piece (codes "format=fragment") then Some Fragment
    else (if is_some (sfx_form_in piece) then Some Sfx
    else None)

-- the representation that a field names, of a response that has hits or not; any other field is ignored
abbrev pub format_in : Bool → List ℕ → Option Representation
format_in hits piece = or_else (common_format_in piece) (if hits then hits_format_in piece else None)

-- the representation that the first such field names
abbrev pub first_format : Bool → List (List ℕ) → Option Representation
first_format hits [] = None
first_format hits (piece ∷ pieces) = or_else (format_in hits piece) (first_format hits pieces)

-- the representation that a query names, whose fields are separated by `&`
abbrev pub format_of : Bool → List ℕ → Option Representation
format_of hits query = first_format hits (parts_at 38 query)

-- the routes whose responses have hits
abbrev pub has_hits : Route → Bool
has_hits route.Resolve = true
has_hits route.Package = true
has_hits other = false

-- the representation for a request of a route with this query
abbrev pub representation_of : Route → List ℕ → RequestHead → Representation
representation_of route query head = option_map_or (λ named. named) (format_of (has_hits route) query) (accepted_representation head)
