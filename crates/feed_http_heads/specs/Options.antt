-- The options that fields list (RFC 9110, section 5.6.1), and the one that closes a connection (section 7.6.1).
use Rattle.std.specs.Prelude.{◌≡◌, ℕ, Bool, not, List, codes}
use Rattle.std.specs.List.{list_all, list_any}
use Rattle.std.specs.Str.{str_eq_ignore_ascii_case}
use Rattle.httparse.specs.Grammar.{Field, ResponseHead, ReadsResponse, trim_ows}
use Rattle.feed_bytes.specs.Parts.{parts_at}
use Rattle.feed_http_heads.specs.Fields.{values_named}

-- an element of a list is this option, ignoring case and the white space around it
abbrev pub is_option : List ℕ → List ℕ → Bool
is_option option element = str_eq_ignore_ascii_case (trim_ows element) option

-- one of the elements of a value is this option; commas separate them
abbrev pub lists : List ℕ → List ℕ → Bool
lists option value = list_any (is_option option) (parts_at 44 value)

-- no field of that name lists the option
abbrev pub lacks_option : List ℕ → List ℕ → List Field → Bool
lacks_option name option fields = list_all (λ value. not (lists option value)) (values_named name fields)

-- the fields of a head do not say that the connection closes
abbrev pub lacks_close : List Field → Bool
lacks_close fields = lacks_option (codes "connection") (codes "close") fields

-- the text begins with the head of a response whose fields do not say that the connection closes, or do
pub record SaysWhetherItKeeps (keeps : Bool) (text : List ℕ) : Type 0 where
  pub head : ResponseHead
  pub rest : List ℕ
  pub reads : ReadsResponse text head rest
  pub says : lacks_close head.fields ≡ keeps
