-- The type that a response states of a file (RFC 9110, section 8.3).
use Rattle.std.specs.Prelude.{◌≡◌, ◌==◌, ◌||◌, ◌&&◌, ◌-◌, ℕ, Bool, true, false, List, length, take, drop, codes, Option, Some, None}
use Rattle.std.specs.List.{position}
use Rattle.std.specs.Option.{option_map_or}
use Rattle.std.specs.Str.{str_eq_ignore_ascii_case}
use Rattle.httparse.specs.Grammar.{Field, ResponseHead, status_code}
use Rattle.feed_http_heads.specs.Limits.{head_limit, field_limit}
use Rattle.feed_http_heads.specs.ResponseHeads.{BeginsWithHeads}
use Rattle.feed_http_heads.specs.Fields.{values_named, only}

-- a semicolon, a space or a tab
abbrev pub ends_media : ℕ → Bool
ends_media b = b == 59 || (b == 32 || b == 9)

-- the text before a place, or all of it
abbrev pub to_end : List ℕ → Option ℕ → List ℕ
to_end value None = value
to_end value (Some end) = take end value

-- the media type of a value, without its parameters
abbrev pub media_of : List ℕ → List ℕ
media_of value = to_end value (position ends_media value)

-- the last bytes of a text, this many
abbrev pub last_of : ℕ → List ℕ → List ℕ
last_of count text = drop (length text - count) text

-- the names of HTML, XML, JSON and PDF, in any case
abbrev pub has_other_name : List ℕ → Bool
has_other_name media =
    str_eq_ignore_ascii_case media (codes "text/html") || (str_eq_ignore_ascii_case media (codes "text/xml")
    || (str_eq_ignore_ascii_case media (codes "application/xml") || (str_eq_ignore_ascii_case media (codes "application/json")
    || str_eq_ignore_ascii_case media (codes "application/pdf"))))

-- an image, or XML or JSON by the suffixes of RFC 6839
abbrev pub has_other_part : List ℕ → Bool
has_other_part media =
    str_eq_ignore_ascii_case (take 6 media) (codes "image/")
    || (str_eq_ignore_ascii_case (last_of 4 media) (codes "+xml") || str_eq_ignore_ascii_case (last_of 5 media) (codes "+json"))

-- HTML, XML, JSON, PDF or an image
abbrev pub is_other_media : List ℕ → Bool
is_other_media media = has_other_name media || has_other_part media

-- the only Content-Type field names such a type
abbrev pub has_other_type : List Field → Bool
has_other_type fields = option_map_or (λ value. is_other_media (media_of value)) (only (values_named (codes "content-type") fields)) false

-- a response with this status has a file, or a part of it (RFC 9110, sections 15.3.1 and 15.3.7)
abbrev pub has_file : ℕ → Bool
has_file code = code == 200 || code == 206

-- the head of a response that has a file, and states such a type
abbrev pub is_of_other_file : ResponseHead → Bool
is_of_other_file head = has_file (status_code head) && has_other_type head.fields

-- the text begins with such a head, after those that announce it, and within the limits of heads
pub record HasOtherType (text : List ℕ) : Type 0 where
  pub interim : List ResponseHead
  pub head : ResponseHead
  pub rest : List ℕ
  pub begins : BeginsWithHeads head_limit field_limit text interim head rest
  pub is : is_of_other_file head ≡ true
