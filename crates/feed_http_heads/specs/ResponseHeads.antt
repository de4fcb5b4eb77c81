-- The heads of a response at the front of a text (RFC 9112, section 4), and why there is none.
use Rattle.std.specs.Prelude.{◌≡◌, ◌≤◌, ◌<◌, ◌+◌, ◌-◌, ◌&&◌, ℕ, List, ◌++◌, length, All, Bool, true, false, nat_le, nat_lt, take, ⊤}
use Rattle.std.specs.List.{flat_map}
use Rattle.httparse.specs.Grammar.{ResponseHead, IsResponseHead, ReadsResponse, HasNoResponse, MayBecomeResponse, print_response, status_code}
use Rattle.feed_http_heads.specs.declared.http_fault.HttpFault.{HttpFault}
use Rattle.feed_http_heads.specs.declared.http_fault.HttpFault.TheVariants.{Read, Short, HeadTooLong, BadHead}

-- a head with such a status announces another head (RFC 9110, section 15.2)
abbrev pub is_interim_status : ℕ → Bool
is_interim_status status = nat_le 100 status && nat_lt status 200

-- the same for a head
abbrev pub is_interim : ResponseHead → Bool
is_interim head = is_interim_status (status_code head)

-- the bytes of consecutive heads
abbrev pub print_heads : List ResponseHead → List ℕ
print_heads heads = flat_map print_response heads

-- an interim head with at most this many fields
pub record IsInterimHead (fields : ℕ) (head : ResponseHead) : Type 0 where
  pub valid : IsResponseHead head
  pub interim : is_interim head ≡ true
  pub few : length head.fields ≤ fields

-- the text begins with these interim heads and this head, with at most this many bytes together and this many fields
-- each
pub record BeginsWithHeads (bytes fields : ℕ) (text : List ℕ) (interim : List ResponseHead) (head : ResponseHead) (rest : List ℕ) : Type 0 where
  pub skipped : All (IsInterimHead fields) interim
  pub valid : IsResponseHead head
  pub last : is_interim head ≡ false
  pub text_is : text ≡ print_heads interim ++ print_response head ++ rest
  pub short : length (print_heads interim) + length (print_response head) ≤ bytes
  pub few : length head.fields ≤ fields

-- whatever follows, the text does not begin with a head with at most this many fields
abbrev pub NeverBeginsWithResponse : ℕ → List ℕ → Type 0
NeverBeginsWithResponse fields text =
    (more : List ℕ) (head : ResponseHead) (rest : List ℕ) → ReadsResponse (text ++ more) head rest → length head.fields ≤ fields → ⊥

-- the text does not begin with a complete head, but may become one
pub record IsUnfinishedResponse (text : List ℕ) : Type 0 where
  pub not_whole : HasNoResponse text
  pub may_become : MayBecomeResponse text

-- what a fault says about the text after the interim heads, with this many bytes left: the text is incomplete; it
-- exceeds the limit and may still become a head; or it is invalid
abbrev pub IsWhyNoResponse : ℕ → ℕ → HttpFault → List ℕ → Type 0
IsWhyNoResponse bytes fields Short text = (length text < bytes) × IsUnfinishedResponse text
IsWhyNoResponse bytes fields HeadTooLong text = (bytes ≤ length text) × IsUnfinishedResponse (take bytes text)
IsWhyNoResponse bytes fields BadHead text = NeverBeginsWithResponse fields (take bytes text)
IsWhyNoResponse bytes fields _ text = ⊥

-- the text begins with these interim heads, and no head follows them
pub record HasInterimAlone (bytes fields : ℕ) (text : List ℕ) (fault : HttpFault) : Type 0 where
  pub interim : List ResponseHead
  pub rest : List ℕ
  pub skipped : All (IsInterimHead fields) interim
  pub text_is : text ≡ print_heads interim ++ rest
  pub why : IsWhyNoResponse (bytes - length (print_heads interim)) fields fault rest

-- the same, if the reader may have failed
abbrev pub IsNoResponse : ℕ → ℕ → HttpFault → List ℕ → Type 0
IsNoResponse bytes fields Read text = ⊤
IsNoResponse bytes fields fault text = HasInterimAlone bytes fields text fault
