-- What the query of a request to fetch says of the file: `size=` and a decimal number, `sha256=` and 64 hexadecimal digits, and
-- `accept`, between `&`.
use Rattle.std.specs.Prelude.{◌≡◌, ◌⊎◌, ℕ, ◌==◌, true, false, if◌then◌else◌, List, [], ◌∷◌, codes, Option, Some, None}
use Rattle.std.specs.List.{fold, slice_split}
use Rattle.std.specs.Option.{option_and_then}
use Rattle.std.specs.Result.{result_ok}
use Rattle.std.specs.Str.{bytes_eq}
use Rattle.hex.specs.Hex.{decode_sized}
use Rattle.httparse.specs.Grammar.{RequestHead}
use Rattle.feed_http_heads.specs.Targets.{origin_form}
use Rattle.node_request.specs.FoundRequests.{BeginsWith, HasNoHead}
use Rattle.node_request.specs.Routes.{query_in}
use Rattle.feed_bytes.specs.Split.{strip_prefix, number_in_64_bits}
use Rattle.node_file_checks.specs.declared.expected_file.ExpectedFile.{ExpectedFile}

-- a file of any length and digest, with a bound on its rows
abbrev pub any_file : ExpectedFile
any_file = record { size = None; sum = None; is_accepted = false }

-- the 32 bytes that 64 hexadecimal digits denote, in any case
abbrev pub sum_of : List ℕ → Option (List ℕ)
sum_of digits = result_ok (decode_sized digits 32)

-- the file with this length, which is the first that is said
abbrev pub size_after : ExpectedFile → Option ℕ → Option ℕ → Option ExpectedFile
size_after expected None (Some size) = Some (record { size = Some size; sum = expected.sum; is_accepted = expected.is_accepted })
size_after expected _ _ = None

abbrev pub with_size : ExpectedFile → Option ℕ → Option ExpectedFile
with_size expected size = size_after expected expected.size size

-- the file with this digest, which is the first that is said
abbrev pub sum_after : ExpectedFile → Option (List ℕ) → Option (List ℕ) → Option ExpectedFile
sum_after expected None (Some sum) = Some (record { size = expected.size; sum = Some sum; is_accepted = expected.is_accepted })
sum_after expected _ _ = None

abbrev pub with_sum : ExpectedFile → Option (List ℕ) → Option ExpectedFile
with_sum expected sum = sum_after expected expected.sum sum

-- the file with any number of rows, which was not said before
abbrev pub with_accept : ExpectedFile → Option ExpectedFile
with_accept expected =
    if expected.is_accepted then None else Some (record { size = expected.size; sum = expected.sum; is_accepted = true })

-- the file with what a field says besides, by the texts after `size=` and `sha256=`; no other field than `accept` has neither
abbrev pub field_said : ExpectedFile → List ℕ → Option (List ℕ) → Option (List ℕ) → Option ExpectedFile
field_said expected field (Some digits) _ = with_size expected (number_in_64_bits digits)
field_said expected field None (Some digits) = with_sum expected (sum_of digits)
field_said expected field None None = if bytes_eq field (codes "accept") then with_accept expected else None

abbrev pub with_field : ExpectedFile → List ℕ → Option ExpectedFile
with_field expected field = field_said expected field (strip_prefix (codes "size=") field) (strip_prefix (codes "sha256=") field)

-- the file with what one more field says; there is none if one is invalid, or not the first of its name
abbrev pub with_next : Option ExpectedFile → List ℕ → Option ExpectedFile
with_next said field = option_and_then (λ expected. with_field expected field) said

-- the file by all fields
abbrev pub with_fields : Option ExpectedFile → List (List ℕ) → Option ExpectedFile
with_fields said fields = fold with_next said fields

-- the file that a query means, whose fields are between `&`
abbrev pub file_by_query : List ℕ → Option ExpectedFile
file_by_query [] = Some any_file
file_by_query (byte ∷ rest) = with_fields (Some any_file) (slice_split (λ b. b == 38) (byte ∷ rest))

-- the file that the query of the request means whose head is at the front of the bytes; none without such a head
abbrev pub IsExpectedBy : List ℕ → Option ExpectedFile → Type 0
IsExpectedBy bytes result =
    (HasNoHead bytes × (result ≡ None))
    ⊎ ((head : RequestHead) × BeginsWith bytes head × (result ≡ file_by_query (query_in (origin_form head.target))))
