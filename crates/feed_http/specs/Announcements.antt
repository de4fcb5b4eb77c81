-- Validating the head of a response (RFC 9110, sections 8.4, 8.6, 14.4 and 15; RFC 9112, sections 6 and 7).
use Rattle.std.specs.Prelude.{◌==◌, ◌+◌, ◌-◌, ◌&&◌, ◌||◌, not, ℕ, List, [], ◌∷◌, Bool, true, false, nat_lt, codes, if◌then◌else◌, Option, None, Some, Result, Ok, Err}
use Rattle.std.specs.Result.{result_ok}
use Rattle.std.specs.Option.{option_and_then, option_map_or}
use Rattle.std.specs.List.{list_all}
use Rattle.std.specs.Str.{str_eq_ignore_ascii_case}
use Rattle.httparse.specs.Grammar.{ResponseHead, status_code}
use Rattle.httparse.specs.Spans.{IsResponseWithin, IsResponseAt}
use Rattle.feed_bytes.specs.Split.{number_in_64_bits}
use Rattle.feed_range.specs.Content.{content_range}
use Rattle.feed_range.specs.declared.content.ContentRange.{ContentRange}
use Rattle.feed_range.specs.declared.content.ContentRange.TheVariants as range
use Rattle.feed_limits.specs.Limits.{piece_limit, file_limit}
use Rattle.feed_http_heads.specs.Fields.{values_named, only, has_any, first_of}
use Rattle.feed_http_heads.specs.declared.http_fault.HttpFault.{HttpFault}
use Rattle.feed_http_heads.specs.declared.http_fault.HttpFault.TheVariants as fault
use Rattle.feed_http.specs.declared.fetching.got.Method.{Method}
use Rattle.feed_http.specs.declared.fetching.got.Method.TheVariants.{Get, Head}
use Rattle.feed_http.specs.declared.fetching.validation.BufferedHead.{BufferedHead}
use Rattle.feed_http.specs.declared.fetching.validation.Framing.{Framing}
use Rattle.feed_http.specs.declared.fetching.validation.Framing.TheVariants.{Chunked, Sized, ToEnd}
use Rattle.feed_http.specs.declared.fetching.validation.Announcement.{Announcement}
use Rattle.feed_http.specs.declared.fetching.validation.Announcement.TheVariants.{Missing, Unsatisfied, Size, Part, Whole}

-- the request is for the file, not for its head alone
abbrev pub is_get : Method → Bool
is_get Get = true
is_get Head = false

-- the values of the fields of that name
abbrev pub values : List ℕ → ResponseHead → List (List ℕ)
values name head = values_named name head.fields

-- the status announces the file or a part of it
abbrev pub has_file_status : Method → ResponseHead → Bool
has_file_status method head = (status_code head == 200) || ((status_code head == 206) && is_get method)

-- each content coding is `identity`, ignoring case
abbrev pub is_identity : ResponseHead → Bool
is_identity head = list_all (λ value. str_eq_ignore_ascii_case value (codes "identity")) (values (codes "content-encoding") head)

-- the body is chunked, in a response of HTTP/1.1
abbrev pub is_chunked : ResponseHead → Bool
is_chunked head =
    (head.minor == 1)
    && option_map_or (λ value. str_eq_ignore_ascii_case value (codes "chunked")) (only (values (codes "transfer-encoding") head)) false

-- the body has a transfer coding
abbrev pub is_transfer_coded : ResponseHead → Bool
is_transfer_coded head = has_any (values (codes "transfer-encoding") head)

-- the body has a coding that is not supported
abbrev pub is_coded_otherwise : Method → ResponseHead → Bool
is_coded_otherwise method head = not (is_identity head) || (is_get method && is_transfer_coded head && not (is_chunked head))

-- the value denotes this length
abbrev pub is_length_value : ℕ → List ℕ → Bool
is_length_value length value = option_map_or (λ other. other == length) (number_in_64_bits value) false

-- the length of the first value, if all values denote it
abbrev pub common_length : List (List ℕ) → Option ℕ
common_length all =
    option_and_then (λ length. if list_all (is_length_value length) all then Some length else None)
    (option_and_then number_in_64_bits (first_of all))

-- the length that Content-Length fields state, if there are any
abbrev pub stated_of : List (List ℕ) → Result (Option ℕ) HttpFault
stated_of [] = Ok None
stated_of (value ∷ more) = option_map_or (λ length. Ok (Some length)) (common_length (value ∷ more)) (Err fault.Length)

-- the name of the field
abbrev pub content_length : List ℕ
content_length = codes "content-length"

-- the same for a head
abbrev pub stated_length : ResponseHead → Result (Option ℕ) HttpFault
stated_length head = stated_of (values content_length head)

-- the framing of a body by its length, or up to the end of the stream
abbrev pub framing_by_length : Result (Option ℕ) HttpFault → Result Framing HttpFault
framing_by_length (Ok (Some length)) = Ok (Sized length)
framing_by_length (Ok None) = Ok ToEnd
framing_by_length (Err e) = Err e

-- the framing of the body of a GET: by chunks, or otherwise by its length
abbrev pub framing_of : ResponseHead → Result Framing HttpFault
framing_of head = if is_transfer_coded head then Ok Chunked else framing_by_length (stated_length head)

-- the value of the Content-Range field, if it is the only one and valid
abbrev pub range_of : ResponseHead → Option ContentRange
range_of head = option_and_then (λ value. result_ok (content_range value)) (only (values (codes "content-range") head))

-- a part must have the length of its range
abbrev pub part_with_framing : ℕ → Option ℕ → ℕ → Result Framing HttpFault → Result Announcement HttpFault
part_with_framing first total count (Ok Chunked) = Ok (Part first total count Chunked)
part_with_framing first total count (Ok ToEnd) = Ok (Part first total count ToEnd)
part_with_framing first total count (Ok (Sized length)) = if length == count then Ok (Part first total count (Sized length)) else Err fault.Length
part_with_framing first total count (Err e) = Err e

-- a part must state its range, which is at most as long as a piece may be
abbrev pub part_announcement : Option ContentRange → Result Framing HttpFault → Result Announcement HttpFault
part_announcement (Some (range.Part first last total)) framing =
    if nat_lt piece_limit (last - first + 1) then Err fault.BodyTooLong else part_with_framing first total (last - first + 1) framing
part_announcement (Some (range.Unsatisfied total)) framing = Err fault.Range
part_announcement None framing = Err fault.Range

-- a complete file, which must be within the limit
abbrev pub whole_announcement : Result Framing HttpFault → Result Announcement HttpFault
whole_announcement (Ok Chunked) = Ok (Whole Chunked)
whole_announcement (Ok ToEnd) = Ok (Whole ToEnd)
whole_announcement (Ok (Sized length)) = if nat_lt file_limit length then Err fault.BodyTooLong else Ok (Whole (Sized length))
whole_announcement (Err e) = Err e

-- the length of the file, which the response to a HEAD must state
abbrev pub size_announcement : Result (Option ℕ) HttpFault → Result Announcement HttpFault
size_announcement (Ok (Some length)) = Ok (Size length)
size_announcement (Ok None) = Err fault.Length
size_announcement (Err e) = Err e

-- the length of a file that has no byte of the range, if stated
abbrev pub unsatisfied_announcement : Option ContentRange → Result Announcement HttpFault
unsatisfied_announcement (Some (range.Unsatisfied total)) = Ok (Unsatisfied (Some total))
unsatisfied_announcement (Some (range.Part first last total)) = Err fault.Range
unsatisfied_announcement None = Err fault.Range

-- the same for a head, which need not state one
abbrev pub unsatisfied_by_head : ResponseHead → Result Announcement HttpFault
unsatisfied_by_head head =
    if has_any (values (codes "content-range") head) then unsatisfied_announcement (range_of head) else Ok (Unsatisfied None)

-- a response with the file or a part of it
abbrev pub file_announcement : Method → ResponseHead → Result Announcement HttpFault
file_announcement method head =
    if is_coded_otherwise method head then Err fault.Coding
    else (if not (is_get method) then size_announcement (stated_length head)
    else (if status_code head == 206 then part_announcement (range_of head) (framing_of head)
    else whole_announcement (framing_of head)))

-- the result of validating the head: an answer, the framing of a body, or the first fault
abbrev pub announcement_of : Method → ResponseHead → Result Announcement HttpFault
announcement_of method head =
    if status_code head == 404 then Ok Missing
    else (if (status_code head == 416) && is_get method then unsatisfied_by_head head
    else (if not (has_file_status method head) then Err (fault.Status (status_code head))
    else file_announcement method head))

-- the parts of a parsed response are inside its buffer
abbrev pub IsInBuffer : BufferedHead → Type 0
IsInBuffer reply = IsResponseWithin reply.buffer.now reply.headers.now reply.spans

-- the parsed response has this head
abbrev pub HasHead : BufferedHead → ResponseHead → Type 0
HasHead reply head = IsResponseAt reply.buffer.now reply.headers.now reply.spans head
