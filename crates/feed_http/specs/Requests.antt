-- Interpreting a request on the server (RFC 9112, section 3; RFC 9110, sections 9, 13.1.5 and 14.2).
use Rattle.std.specs.Prelude.{◌≡◌, ◌||◌, not, ℕ, List, ◌∷◌, Bool, codes, if◌then◌else◌, Option, None, MatchOption}
use Rattle.std.specs.Option.{option_map_or}
use Rattle.httparse.specs.Grammar.{RequestHead}
use Rattle.feed_names.specs.ReleaseName.{Name, IsName}
use Rattle.feed_range.specs.RangeAsk.{ask_of}
use Rattle.feed_range.specs.declared.range_ask.RangeAsk.{RangeAsk}
use Rattle.feed_range.specs.declared.range_ask.RangeAsk.TheVariants.{Whole}
use Rattle.feed_http_heads.specs.Fields.{values_named, only, has_any}
use Rattle.feed_http_heads.specs.Requests.{is_get, is_head}
use Rattle.feed_http_heads.specs.Targets.{slash, origin_form}

-- the path is a slash and the name of this release
pub record NamesRelease (target : List ℕ) (name : Name) : Type 0 where
  pub text : List ℕ
  pub path : origin_form target ≡ slash ∷ text
  pub is_name : IsName text name

-- the release that the target names, if any
abbrev pub IsNamedBy : List ℕ → Option Name → Type 0
IsNamedBy target named = MatchOption named ((name : Name) → ¬ (NamesRelease target name)) (NamesRelease target)

-- the method is neither GET nor HEAD, or a coded body follows
abbrev pub is_unsupported : RequestHead → Bool
is_unsupported head =
    not (is_get head || is_head head) || has_any (values_named (codes "transfer-encoding") head.fields)

-- the Range value that counts: the only one, in a request without If-Range
abbrev pub range_value : RequestHead → Option (List ℕ)
range_value head =
    if has_any (values_named (codes "if-range") head.fields) then None
    else only (values_named (codes "range") head.fields)

-- the part of a file of this length that the request asks for
abbrev pub ask_for : RequestHead → ℕ → RangeAsk
ask_for head length = option_map_or (λ value. ask_of value length) (range_value head) Whole
