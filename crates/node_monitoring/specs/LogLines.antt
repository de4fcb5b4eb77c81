-- The line of a request in the log.
use Rattle.std.specs.Prelude.{ℕ, ◌<◌, ◌^◌, List, [], ◌∷◌, ◌++◌, codes, All}
use Rattle.std.specs.List.{flat_map}
use Rattle.std.specs.Fmt.{decimal}
use Rattle.node_monitoring.specs.LogEscapes.{escaped}
use Rattle.node_monitoring.specs.LogTimes.{time_text}
use Rattle.node_monitoring.specs.LogFragments.{or_dash}

-- a request and its response: the address of the client, the time, the request line, the status, the bytes of the body
-- that were sent, the referrer, the user agent, the milliseconds, and the name of the file of the site that responded, or
-- nothing
pub record EntryValue : Type 0 where
  pub client : List ℕ
  pub seconds : ℕ
  pub line : List ℕ
  pub status : ℕ
  pub sent : ℕ
  pub referrer : List ℕ
  pub user_agent : List ℕ
  pub millis : ℕ
  pub site : List ℕ

-- the concatenation of texts
abbrev pub joined : List (List ℕ) → List ℕ
joined texts = flat_map (λ text. text) texts

-- the part of a line before its first quote: the address and the time
abbrev pub before_request : EntryValue → List ℕ
before_request e = joined (escaped e.client ∷ codes " - - [" ∷ time_text e.seconds ∷ codes " +0000] " ∷ [])

-- the part between the request line and the referrer: the status and the bytes sent
abbrev pub response_part : EntryValue → List ℕ
response_part e = joined (codes " " ∷ decimal e.status ∷ codes " " ∷ decimal e.sent ∷ codes " " ∷ [])

-- the part after the last quote: the milliseconds and the site
abbrev pub after_agent : EntryValue → List ℕ
after_agent e = joined (codes " " ∷ decimal e.millis ∷ codes " " ∷ or_dash e.site ∷ codes "\n" ∷ [])

-- the parts of a line, between its quotes
abbrev pub parts_of : EntryValue → List (List ℕ)
parts_of e =
    before_request e ∷ escaped e.line ∷ response_part e ∷ or_dash e.referrer ∷ codes " " ∷ or_dash e.user_agent ∷ after_agent e ∷ []

-- parts with a quote between each and the next
abbrev pub with_quotes : List (List ℕ) → List ℕ
with_quotes [] = []
with_quotes (part ∷ []) = part
with_quotes (part ∷ next ∷ parts) = part ++ 34 ∷ with_quotes (next ∷ parts)

-- the line
unfoldable pub line_text : EntryValue → List ℕ
line_text e = with_quotes (parts_of e)

-- a byte
abbrev pub IsByte : ℕ → Type 0
IsByte b = b < 256

-- the values that an entry of the program has: bytes, and numbers of 64 bits
pub record IsEntry (e : EntryValue) : Type 0 where
  pub status : e.status < 2 ^ 64
  pub sent : e.sent < 2 ^ 64
  pub millis : e.millis < 2 ^ 64
  pub client : All IsByte e.client
  pub line : All IsByte e.line
  pub referrer : All IsByte e.referrer
  pub user_agent : All IsByte e.user_agent
  pub site : All IsByte e.site
