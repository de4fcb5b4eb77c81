-- The head of a response, as the grammar reads it.
use Rattle.std.proofs.Common.{◌≡◌, ◌<◌, ◌^◌, lit<, ℕ, List, [], ◌∷◌, ◌++◌, length, codes, Some, Bool, true, false, refl, sym, ap, arith, ◌∙◌, append_assoc, reverse, All, inl, inr, map}
use Rattle.std.specs.Prelude.{IsTrue, MatchBool, nat_lt, if◌then◌else◌, ◌==◌, ◌&&◌, not}
use Rattle.std.specs.List.{list_all, flat_map, filter, AllByRecursion}
use Rattle.std.specs.Char.{is_ascii_digit}
use Rattle.std.specs.Fmt.{decimal, digits}
use Rattle.std.specs.Str.Parse.{digits_value}
use Rattle.std.proofs.lemmas.Fmt.{decimal_is_IsNumeral}
use Rattle.std.specs.Str.{str_eq_ignore_ascii_case}
use Rattle.std.proofs.lemmas.List.{append-nil, map-append}
use Rattle.std.proofs.lemmas.List.Elements.{All-nil, All-append, All-weaker, All-from_recursion, recursion_from_All, filter-append}
use Rattle.std.proofs.lemmas.List.Sums.{AllPass-from_list_all}
use Rattle.std.proofs.lemmas.Bool.{cases_Bool}
use Rattle.std.proofs.lemmas.Bool.Decides.{nat_tests}
use Rattle.httparse.specs.Grammar.{AllPass, ResponseHead, IsResponseHead, print_response, Field, IsField, field_value}
use Rattle.httparse.specs.Grammar.{crlf, print_field, trim_ows, skip_ows, is_ows, is_value_byte, is_token_byte, is_uri_byte}
use Rattle.httparse.proofs.OnLiterals.{httparse_on_literals}
use Rattle.httparse.proofs.TrimLemmas.{trim_ows_space, AllPass-reverse}
use Rattle.feed_bytes.proofs.Digits.{numerals}
use Rattle.feed_http_heads.specs.Fields.{values_named, only}
use Rattle.feed_http_heads.specs.Options.{lists, lacks_close, SaysWhetherItKeeps}
use Rattle.node_request.specs.declared.representation.Representation.{Representation}
use Rattle.node_request.specs.declared.representation.Representation.TheVariants.{Text, Json, Html, Fragment, Sfx}
use Rattle.node_response.specs.Responses.{ResponseValue, ResponseTextValue, status_code, reason_text, status_line, status_field}
use Rattle.node_response.specs.Responses.{type_text, is_bodiless, response_head, response_body, response_of}
use Rattle.node_response.specs.Laws.{NotModifiedIsHeadOfGood}
use Rattle.node_response.specs.Responses.{with_tag, not_modified, content_fields, tag_field, cache_field, last_fields}
use Rattle.node_response.specs.Messages.{EndsInCrlf, IsSentHead, IsMessage, IsHeadOf, IsSentAs, IsSendable, StatesLength}
use Rattle.node_response.specs.Messages.{IsMessageFor, BeginsStream, locations, tags, cache_text}
use Rattle.node_response.specs.Messages.{StatesConnection, connection_values}
use Rattle.node_response.specs.FetchResponses.{progress_head, progress_response}
use Rattle.node_response.specs.declared.status.Status.{Status}
use Rattle.node_response.specs.declared.status.Status.TheVariants as status

-- names and values of fields
abbrev Pairs : Type 0
Pairs = List (List ℕ × List ℕ)

abbrev field : List ℕ → List ℕ → Field
field name value = record { name = name; raw = 32 ∷ value; end = crlf }

abbrev fields_of : Pairs → List Field
fields_of [] = []
fields_of (p ∷ ps) = field p.0 p.1 ∷ fields_of ps

fields_of-append : (ps qs : Pairs) → fields_of (ps ++ qs) ≡ fields_of ps ++ fields_of qs
fields_of-append [] qs = refl
fields_of-append (p ∷ ps) qs = ap (λ fs. field p.0 p.1 ∷ fs) (fields_of-append ps qs)

-- fields as their lines, with the line end in front of each
abbrev lines : Pairs → List ℕ → List ℕ
lines [] rest = rest
lines (p ∷ ps) rest = 13 ∷ 10 ∷ (p.0 ++ (58 ∷ 32 ∷ (p.1 ++ lines ps rest)))

lines-append : (ps qs : Pairs) (rest : List ℕ) → lines (ps ++ qs) rest ≡ lines ps (lines qs rest)
lines-append [] qs rest = refl
lines-append (p ∷ ps) qs rest = ap (λ t. 13 ∷ 10 ∷ (p.0 ++ (58 ∷ 32 ∷ (p.1 ++ t)))) (lines-append ps qs rest)

field_then : (name value rest : List ℕ) → print_field (field name value) ++ rest ≡ name ++ (58 ∷ 32 ∷ (value ++ (13 ∷ 10 ∷ rest)))
field_then name value rest = simp append_assoc refl

-- the line ends are those behind the status line and each field
lines_printed : (ps : Pairs) (rest : List ℕ) → 13 ∷ 10 ∷ (flat_map print_field (fields_of ps) ++ rest) ≡ lines ps (13 ∷ 10 ∷ rest)
lines_printed [] rest = refl
lines_printed (p ∷ ps) rest =
    ap (λ t. 13 ∷ 10 ∷ t) (append_assoc (print_field (field p.0 p.1)) (flat_map print_field (fields_of ps)) rest ∙ field_then p.0 p.1 (flat_map print_field (fields_of ps) ++ rest))
    ∙ ap (λ t. 13 ∷ 10 ∷ (p.0 ++ (58 ∷ 32 ∷ (p.1 ++ t)))) (lines_printed ps rest)

-- the fields of a preflight
abbrev preflight_pairs : List ℕ → Pairs
preflight_pairs methods =
    (codes "Allow", methods) ∷ (codes "Access-Control-Allow-Methods", methods) ∷ (codes "Access-Control-Allow-Headers", codes "If-None-Match") ∷
    (codes "Access-Control-Max-Age", codes "86400") ∷ []

-- the fields that a status asks for
abbrev status_pairs : Status → List ℕ → Pairs
status_pairs status.Listed location = (codes "Allow", codes "GET, HEAD, DELETE") ∷ []
status_pairs status.Preflight location = preflight_pairs (codes "GET, HEAD")
status_pairs status.QueryPreflight location = preflight_pairs (codes "GET, HEAD, POST")
status_pairs status.Found location = (codes "Location", location) ∷ []
status_pairs status.MethodNotAllowed location = (codes "Allow", codes "GET, HEAD") ∷ []
status_pairs status.PostOnly location = (codes "Allow", codes "POST") ∷ []
status_pairs status.GetOrPost location = (codes "Allow", codes "GET, HEAD, POST") ∷ []
status_pairs status.GetOrDelete location = (codes "Allow", codes "GET, HEAD, DELETE") ∷ []
status_pairs status.Unauthorized location = (codes "WWW-Authenticate", codes "Bearer") ∷ []
status_pairs code location = []

-- the field that announces the end of the connection
abbrev connection_pairs : Bool → Pairs
connection_pairs true = []
connection_pairs false = (codes "Connection", codes "close") ∷ []

abbrev content_pairs : Bool → List ℕ → List ℕ → Pairs
content_pairs true media count = []
content_pairs false media count = (codes "Content-Type", media) ∷ (codes "Content-Length", count) ∷ []

abbrev tag_pairs : List ℕ → Pairs
tag_pairs [] = []
tag_pairs (b ∷ tag) = (codes "ETag", b ∷ tag) ∷ []

abbrev cache_pairs : ℕ → Pairs
cache_pairs max_age = (codes "Cache-Control", cache_text max_age) ∷ []

abbrev policy_pairs : Representation → Bool → Pairs
policy_pairs Text redirects = (codes "Access-Control-Allow-Origin", codes "*") ∷ []
policy_pairs Json redirects = (codes "Access-Control-Allow-Origin", codes "*") ∷ []
policy_pairs Html true =
    (codes "Content-Security-Policy", codes "default-src 'none'; style-src 'unsafe-inline'; form-action 'self' http: https:; base-uri 'none'") ∷ []
policy_pairs Html false = (codes "Content-Security-Policy", codes "default-src 'none'; style-src 'unsafe-inline'; form-action 'self'; base-uri 'none'") ∷ []
policy_pairs Fragment redirects =
    (codes "Access-Control-Allow-Origin", codes "*") ∷ (codes "Content-Security-Policy", codes "default-src 'none'; form-action 'none'; base-uri 'none'") ∷ []
policy_pairs Sfx redirects = (codes "Access-Control-Allow-Origin", codes "*") ∷ []

abbrev last_pairs : Bool → Representation → Bool → Pairs
last_pairs keeps representation redirects =
    (codes "Vary", codes "Accept") ∷ (codes "X-Content-Type-Options", codes "nosniff") ∷ (codes "Referrer-Policy", codes "no-referrer") ∷
    (policy_pairs representation redirects ++ connection_pairs keeps)

abbrev content_of : ResponseValue → Pairs
content_of reply = content_pairs (is_bodiless (status_code reply.status)) (type_text reply.representation) (decimal (length reply.body))

abbrev pairs_of : Bool → ResponseValue → Pairs
pairs_of keeps reply =
    status_pairs reply.status reply.location ++ (content_of reply ++ (tag_pairs reply.tag ++ (cache_pairs reply.max_age ++ last_pairs keeps reply.representation reply.redirects)))

abbrev pub head_of : Bool → ResponseValue → ResponseHead
head_of keeps reply = record {
  blank = [];
  minor = 1;
  digits = decimal (status_code reply.status);
  reason = Some (reason_text reply.status);
  line_end = crlf;
  fields = fields_of (pairs_of keeps reply);
  last = crlf;
}

status_written : (code : Status) (location rest : List ℕ) → status_field code location ++ rest ≡ lines (status_pairs code location) rest
status_written status.Good location rest = refl
status_written status.Listed location rest = refl
status_written status.Ended location rest = refl
status_written status.Preflight location rest = refl
status_written status.QueryPreflight location rest = refl
status_written status.Found location rest = simp append-nil refl
status_written status.NotModified location rest = refl
status_written status.BadRequest location rest = refl
status_written status.Unauthorized location rest = refl
status_written status.NotFound location rest = refl
status_written status.MethodNotAllowed location rest = refl
status_written status.PostOnly location rest = refl
status_written status.GetOrPost location rest = refl
status_written status.GetOrDelete location rest = refl
status_written status.Conflict location rest = refl
status_written status.LengthRequired location rest = refl
status_written status.ContentTooLarge location rest = refl
status_written status.UnsupportedMediaType location rest = refl
status_written status.Misdirected location rest = refl
status_written status.NotImplemented location rest = refl

-- the status line, and then lines
start_printed : (keeps : Bool) (reply : ResponseValue)
    → print_response (head_of keeps reply) ≡ status_line reply.status ++ (13 ∷ 10 ∷ (flat_map print_field (fields_of (pairs_of keeps reply)) ++ (13 ∷ 10 ∷ [])))
unfolding print_response
start_printed keeps reply = simp append_assoc refl

content_written : (bodiless : Bool) (representation : Representation) (size : ℕ) (rest : List ℕ)
    → content_fields bodiless representation size ++ rest ≡ lines (content_pairs bodiless (type_text representation) (decimal size)) rest
content_written true representation size rest = refl
content_written false representation size rest = simp (append_assoc, append-nil) refl

tag_written : (tag rest : List ℕ) → tag_field tag ++ rest ≡ lines (tag_pairs tag) rest
tag_written [] rest = refl
tag_written (b ∷ tag) rest = ap (λ t. codes "\r\nETag: " ++ (b ∷ (t ++ rest))) (append-nil tag)

cache_written : (max_age : ℕ) (rest : List ℕ) → cache_field max_age ++ rest ≡ lines (cache_pairs max_age) rest
cache_written max_age rest = elim (cases_Bool (max_age == 0)) [
  | inl e ↦ rw e refl
  | inr e ↦ rw e (simp append-nil refl)
]

last_written : (keeps : Bool) (representation : Representation) (redirects : Bool)
    → last_fields keeps representation redirects ≡ lines (last_pairs keeps representation redirects) (13 ∷ 10 ∷ 13 ∷ 10 ∷ [])
last_written true Text redirects = refl
last_written true Json redirects = refl
last_written true Html true = refl
last_written true Html false = refl
last_written true Fragment redirects = refl
last_written true Sfx redirects = refl
last_written false Text redirects = refl
last_written false Json redirects = refl
last_written false Html true = refl
last_written false Html false = refl
last_written false Fragment redirects = refl
last_written false Sfx redirects = refl

-- lines in five steps
five_lines : (a b c d e : Pairs) (rest : List ℕ) → lines (a ++ (b ++ (c ++ (d ++ e)))) rest ≡ lines a (lines b (lines c (lines d (lines e rest))))
five_lines a b c d e rest = lines-append a (b ++ (c ++ (d ++ e))) rest
    ∙ ap (lines a) (lines-append b (c ++ (d ++ e)) rest ∙ ap (lines b) (lines-append c (d ++ e) rest ∙ ap (lines c) (lines-append d e rest)))

pub head_printed : (keeps : Bool) (reply : ResponseValue) → print_response (head_of keeps reply) ≡ response_head keeps reply
unfolding response_head
head_printed keeps reply =
    let end : List ℕ = 13 ∷ 10 ∷ 13 ∷ 10 ∷ [] in
    let last : last_fields keeps reply.representation reply.redirects ≡ lines (last_pairs keeps reply.representation reply.redirects) end = last_written keeps reply.representation reply.redirects in
    let cached = cache_written reply.max_age (lines (last_pairs keeps reply.representation reply.redirects) end) in
    let tagged = tag_written reply.tag (lines (cache_pairs reply.max_age) (lines (last_pairs keeps reply.representation reply.redirects) end)) in
    let content = content_written (is_bodiless (status_code reply.status)) reply.representation (length reply.body)
    (lines (tag_pairs reply.tag) (lines (cache_pairs reply.max_age) (lines (last_pairs keeps reply.representation reply.redirects) end))) in
    start_printed keeps reply
    ∙ ap (λ t. status_line reply.status ++ t) (lines_printed (pairs_of keeps reply) (13 ∷ 10 ∷ [])
    ∙ five_lines (status_pairs reply.status reply.location) (content_of reply) (tag_pairs reply.tag) (cache_pairs reply.max_age) (last_pairs keeps reply.representation reply.redirects) end
    ∙ sym (status_written reply.status reply.location
    (lines (content_of reply) (lines (tag_pairs reply.tag) (lines (cache_pairs reply.max_age) (lines (last_pairs keeps reply.representation reply.redirects) end)))))
    ∙ ap (λ t. status_field reply.status reply.location ++ t) (sym content
    ∙ ap (λ t. content_fields (is_bodiless (status_code reply.status)) reply.representation (length reply.body) ++ t) (sym tagged
    ∙ ap (λ t. tag_field reply.tag ++ t) (sym cached ∙ ap (λ t. cache_field reply.max_age ++ t) (sym last)))))

-- ---- each part is of its class

abbrev IsDigit : ℕ → Type 0
IsDigit b = IsTrue (is_ascii_digit b)

-- a byte that is visible, or past ASCII
visible_passes : (b : ℕ) → is_uri_byte b ≡ true → is_value_byte b ≡ true
visible_passes b visible = grind (arith, nat_tests)

visible_stays : (b : ℕ) → is_uri_byte b ≡ true → is_ows b ≡ false
visible_stays b visible = grind (arith, nat_tests)

digit_visible : (b : ℕ) → is_ascii_digit b ≡ true → is_uri_byte b ≡ true
digit_visible b digit = grind (arith, nat_tests)

-- the three digits of a status
status_digits : (code : Status) → (length (decimal (status_code code)) ≡ 3) × (list_all is_ascii_digit (decimal (status_code code)) ≡ true)
    × (digits_value 10 (decimal (status_code code)) ≡ status_code code) × (list_all is_value_byte (reason_text code) ≡ true)
unfolding digits httparse_on_literals
status_digits status.Good = (refl, refl, refl, refl)
status_digits status.Listed = (refl, refl, refl, refl)
status_digits status.Ended = (refl, refl, refl, refl)
status_digits status.Preflight = (refl, refl, refl, refl)
status_digits status.QueryPreflight = (refl, refl, refl, refl)
status_digits status.Found = (refl, refl, refl, refl)
status_digits status.NotModified = (refl, refl, refl, refl)
status_digits status.BadRequest = (refl, refl, refl, refl)
status_digits status.Unauthorized = (refl, refl, refl, refl)
status_digits status.NotFound = (refl, refl, refl, refl)
status_digits status.MethodNotAllowed = (refl, refl, refl, refl)
status_digits status.PostOnly = (refl, refl, refl, refl)
status_digits status.GetOrPost = (refl, refl, refl, refl)
status_digits status.GetOrDelete = (refl, refl, refl, refl)
status_digits status.Conflict = (refl, refl, refl, refl)
status_digits status.LengthRequired = (refl, refl, refl, refl)
status_digits status.ContentTooLarge = (refl, refl, refl, refl)
status_digits status.UnsupportedMediaType = (refl, refl, refl, refl)
status_digits status.Misdirected = (refl, refl, refl, refl)
status_digits status.NotImplemented = (refl, refl, refl, refl)

literal_field : (name value : List ℕ) → 0 < length name → list_all is_token_byte name ≡ true → list_all is_value_byte (32 ∷ value) ≡ true → IsField (field name value)
literal_field name value some token passes = record { name = (some, AllPass-from_list_all is_token_byte name token); raw = AllPass-from_list_all is_value_byte (32 ∷ value) passes }

visible_field : (name value : List ℕ) → 0 < length name → list_all is_token_byte name ≡ true → AllPass is_uri_byte value → IsField (field name value)
visible_field name value some token passes = record {
  name = (some, AllPass-from_list_all is_token_byte name token);
  raw = All-append (λ b. is_value_byte b ≡ true) (32 ∷ []) value (AllPass-from_list_all is_value_byte (32 ∷ []) refl)
      (All-weaker (λ b. is_uri_byte b ≡ true) (λ b. is_value_byte b ≡ true) visible_passes value passes);
}

-- names and values that are literals
abbrev are_literals : Pairs → Bool
are_literals [] = true
are_literals (p ∷ ps) = nat_lt 0 (length p.0) && (list_all is_token_byte p.0 && (list_all is_value_byte (32 ∷ p.1) && are_literals ps))

literals_valid : (ps : Pairs) → are_literals ps ≡ true → All IsField (fields_of ps)
literals_valid ps are = All-from_recursion IsField (fields_of ps) (each ps are)
  where
    and_true : (a b : Bool) → (a && b) ≡ true → (a ≡ true) × (b ≡ true)
    and_true true b e = (refl, e)
    and_true false b e = absurd (cc)

    each : (ps : Pairs) → are_literals ps ≡ true → AllByRecursion IsField (fields_of ps)
    each [] are = tt
    each (p ∷ ps) are =
        let one = and_true (nat_lt 0 (length p.0)) _ are in
        let two = and_true (list_all is_token_byte p.0) _ one.1 in
        let three = and_true (list_all is_value_byte (32 ∷ p.1)) _ two.1 in
        (literal_field p.0 p.1 (grind (arith, nat_tests)) two.0 three.0, each ps three.1)

status_valid : (code : Status) (location : List ℕ) → AllPass is_uri_byte location → All IsField (fields_of (status_pairs code location))
unfolding httparse_on_literals
status_valid status.Good location passes = literals_valid (status_pairs status.Good location) refl
status_valid status.Listed location passes = literals_valid (status_pairs status.Listed location) refl
status_valid status.Ended location passes = literals_valid (status_pairs status.Ended location) refl
status_valid status.Preflight location passes = literals_valid (status_pairs status.Preflight location) refl
status_valid status.QueryPreflight location passes = literals_valid (status_pairs status.QueryPreflight location) refl
status_valid status.Found location passes = All-from_recursion IsField (field (codes "Location") location ∷ []) (visible_field (codes "Location") location (omega arith) refl passes, tt)
status_valid status.NotModified location passes = literals_valid (status_pairs status.NotModified location) refl
status_valid status.BadRequest location passes = literals_valid (status_pairs status.BadRequest location) refl
status_valid status.Unauthorized location passes = literals_valid (status_pairs status.Unauthorized location) refl
status_valid status.NotFound location passes = literals_valid (status_pairs status.NotFound location) refl
status_valid status.MethodNotAllowed location passes = literals_valid (status_pairs status.MethodNotAllowed location) refl
status_valid status.PostOnly location passes = literals_valid (status_pairs status.PostOnly location) refl
status_valid status.GetOrPost location passes = literals_valid (status_pairs status.GetOrPost location) refl
status_valid status.GetOrDelete location passes = literals_valid (status_pairs status.GetOrDelete location) refl
status_valid status.Conflict location passes = literals_valid (status_pairs status.Conflict location) refl
status_valid status.LengthRequired location passes = literals_valid (status_pairs status.LengthRequired location) refl
status_valid status.ContentTooLarge location passes = literals_valid (status_pairs status.ContentTooLarge location) refl
status_valid status.UnsupportedMediaType location passes = literals_valid (status_pairs status.UnsupportedMediaType location) refl
status_valid status.Misdirected location passes = literals_valid (status_pairs status.Misdirected location) refl
status_valid status.NotImplemented location passes = literals_valid (status_pairs status.NotImplemented location) refl

media_passes : (representation : Representation) → list_all is_value_byte (32 ∷ type_text representation) ≡ true
media_passes Text = refl
media_passes Json = refl
media_passes Html = refl
media_passes Fragment = refl
media_passes Sfx = refl

-- the digits of a length
digits_pass : (n : ℕ) → n < 2 ^ 64 → AllPass is_uri_byte (decimal n)
digits_pass n small = All-weaker IsDigit (λ b. is_uri_byte b ≡ true) digit_visible (decimal n) (all_digits n small)
  where
    all_digits : (n : ℕ) → n < 2 ^ 64 → AllPass is_ascii_digit (decimal n)
    all_digits n small = AllPass-from_list_all is_ascii_digit (decimal n) (numerals.from (decimal n) (decimal_is_IsNumeral n small).0.1)

content_valid : (bodiless : Bool) (representation : Representation) (body : List ℕ) → length (if bodiless then [] else body) < 2 ^ 64
    → All IsField (fields_of (content_pairs bodiless (type_text representation) (decimal (length body))))
unfolding httparse_on_literals
content_valid true representation body small = All-from_recursion IsField [] tt
content_valid false representation body small = All-from_recursion IsField (fields_of (content_pairs false (type_text representation) (decimal (length body)))) (
  literal_field (codes "Content-Type") (type_text representation) (omega arith) refl (media_passes representation),
  (visible_field (codes "Content-Length") (decimal (length body)) (omega arith) refl (digits_pass (length body) small), tt),
)

tag_valid : (tag : List ℕ) → AllPass is_uri_byte tag → All IsField (fields_of (tag_pairs tag))
unfolding httparse_on_literals
tag_valid [] passes = All-from_recursion IsField [] tt
tag_valid (b ∷ tag) passes = All-from_recursion IsField (fields_of (tag_pairs (b ∷ tag))) (visible_field (codes "ETag") (b ∷ tag) (omega arith) refl passes, tt)

-- the directives for a cache are visible
cache_passes : (max_age : ℕ) → max_age < 2 ^ 64 → AllPass is_uri_byte (cache_text max_age)
cache_passes max_age small = elim (cases_Bool (max_age == 0)) [
  | inl e ↦ rw e (AllPass-from_list_all is_uri_byte (codes "no-cache") refl)
  | inr e ↦ rw e (All-append (λ b. is_uri_byte b ≡ true) (codes "max-age=") (decimal max_age ++ []) (AllPass-from_list_all is_uri_byte (codes "max-age=") refl)
      (rw (append-nil (decimal max_age)) (digits_pass max_age small)))
]

cache_valid : (max_age : ℕ) → max_age < 2 ^ 64 → All IsField (fields_of (cache_pairs max_age))
unfolding httparse_on_literals
cache_valid max_age small = All-from_recursion IsField (fields_of (cache_pairs max_age))
    (visible_field (codes "Cache-Control") (cache_text max_age) (omega arith) refl (cache_passes max_age small), tt)

last_valid : (keeps : Bool) (representation : Representation) (redirects : Bool) → All IsField (fields_of (last_pairs keeps representation redirects))
unfolding httparse_on_literals
last_valid true Text redirects = literals_valid (last_pairs true Text redirects) refl
last_valid true Json redirects = literals_valid (last_pairs true Json redirects) refl
last_valid true Html true = literals_valid (last_pairs true Html true) refl
last_valid true Html false = literals_valid (last_pairs true Html false) refl
last_valid true Fragment redirects = literals_valid (last_pairs true Fragment redirects) refl
last_valid true Sfx redirects = literals_valid (last_pairs true Sfx redirects) refl
last_valid false Text redirects = literals_valid (last_pairs false Text redirects) refl
last_valid false Json redirects = literals_valid (last_pairs false Json redirects) refl
last_valid false Html true = literals_valid (last_pairs false Html true) refl
last_valid false Html false = literals_valid (last_pairs false Html false) refl
last_valid false Fragment redirects = literals_valid (last_pairs false Fragment redirects) refl
last_valid false Sfx redirects = literals_valid (last_pairs false Sfx redirects) refl

-- two lists of valid fields
both_valid : (ps qs : Pairs) → All IsField (fields_of ps) → All IsField (fields_of qs) → All IsField (fields_of (ps ++ qs))
both_valid ps qs one other = rw (fields_of-append ps qs) (All-append IsField (fields_of ps) (fields_of qs) one other)

fields_valid : (keeps : Bool) (reply : ResponseValue) → IsSendable reply → All IsField (fields_of (pairs_of keeps reply))
fields_valid keeps reply sendable =
    let last = last_pairs keeps reply.representation reply.redirects in
    let cached = cache_pairs reply.max_age ++ last in
    let tagged = tag_pairs reply.tag ++ cached in
    both_valid (status_pairs reply.status reply.location) (content_of reply ++ tagged) (status_valid reply.status reply.location sendable.location)
    (both_valid (content_of reply) tagged
    (content_valid (is_bodiless (status_code reply.status)) reply.representation reply.body sendable.size)
    (both_valid (tag_pairs reply.tag) cached (tag_valid reply.tag sendable.tag)
    (both_valid (cache_pairs reply.max_age) last (cache_valid reply.max_age sendable.age) (last_valid keeps reply.representation reply.redirects))))

head_valid : (keeps : Bool) (reply : ResponseValue) → IsSendable reply → IsResponseHead (head_of keeps reply)
head_valid keeps reply sendable = let right = status_digits reply.status in
    record {
      minor = omega arith;
      digits = (right.0, AllPass-from_list_all is_ascii_digit (decimal (status_code reply.status)) right.1);
      reason = AllPass-from_list_all is_value_byte (reason_text reply.status) right.3;
      fields = fields_valid keeps reply sendable;
    }

in_crlf : (ps : Pairs) → All EndsInCrlf (fields_of ps)
in_crlf ps = All-from_recursion EndsInCrlf (fields_of ps) (each ps)
  where
    each : (ps : Pairs) → AllByRecursion EndsInCrlf (fields_of ps)
    each [] = tt
    each (p ∷ ps) = (refl, each ps)

head_sent : (keeps : Bool) (reply : ResponseValue) → IsSentHead (head_of keeps reply)
head_sent keeps reply = record { minor = refl; first = refl; line = refl; lines = in_crlf (pairs_of keeps reply); last = refl }

-- ---- the values of its fields

visible_front : (text : List ℕ) → AllByRecursion (λ b. is_uri_byte b ≡ true) text → skip_ows text ≡ text
visible_front [] all = refl
visible_front (b ∷ text) all = let stays : is_ows b ≡ false = visible_stays b all.0 in rw stays refl

-- only the space before it is trimmed
trimmed : (value : List ℕ) → AllPass is_uri_byte value → trim_ows (32 ∷ value) ≡ value
trimmed value passes = trim_ows_space value
    (visible_front value (recursion_from_All (λ b. is_uri_byte b ≡ true) value passes))
    (visible_front (reverse value) (recursion_from_All (λ b. is_uri_byte b ≡ true) (reverse value) (AllPass-reverse is_uri_byte value passes)))

media_trimmed : (representation : Representation) → trim_ows (32 ∷ type_text representation) ≡ type_text representation
unfolding httparse_on_literals
media_trimmed Text = refl
media_trimmed Json = refl
media_trimmed Html = refl
media_trimmed Fragment = refl
media_trimmed Sfx = refl

close_trimmed : trim_ows (32 ∷ codes "close") ≡ codes "close"
unfolding httparse_on_literals
close_trimmed = refl

-- the values of the fields of a name
abbrev values : List ℕ → Pairs → List (List ℕ)
values name ps = values_named name (fields_of ps)

values-append : (name : List ℕ) (ps qs : Pairs) → values name (ps ++ qs) ≡ values name ps ++ values name qs
values-append name ps qs =
    ap (values_named name) (fields_of-append ps qs)
    ∙ ap (λ fs. map field_value fs) (filter-append (λ (f : Field). str_eq_ignore_ascii_case f.name name) (fields_of ps) (fields_of qs))
    ∙ map-append field_value (filter (λ (f : Field). str_eq_ignore_ascii_case f.name name) (fields_of ps)) (filter (λ (f : Field). str_eq_ignore_ascii_case f.name name) (fields_of qs))

-- one text, or none if the connection is kept
abbrev unless_kept : Bool → List ℕ → List (List ℕ)
unless_kept keeps text = if keeps then [] else text ∷ []

-- the values of the fields that a head states: the length, the media type, the tag, what a cache may do, what the
-- response depends on, the location and the connection
abbrev AreValues : Pairs → List (List ℕ) → List (List ℕ) → List (List ℕ) → List (List ℕ) → List (List ℕ) → List (List ℕ) → List (List ℕ) → Type 0
AreValues ps sizes media tagged caching varies located connections =
    (values (codes "content-length") ps ≡ sizes) × (values (codes "content-type") ps ≡ media) × (values (codes "etag") ps ≡ tagged)
    × (values (codes "cache-control") ps ≡ caching) × (values (codes "vary") ps ≡ varies) × (values (codes "location") ps ≡ located)
    × (values (codes "connection") ps ≡ connections)

status_values : (code : Status) (location : List ℕ) → AreValues (status_pairs code location) [] [] [] [] [] (locations code (trim_ows (32 ∷ location))) []
status_values status.Good location = (refl, refl, refl, refl, refl, refl, refl)
status_values status.Listed location = (refl, refl, refl, refl, refl, refl, refl)
status_values status.Ended location = (refl, refl, refl, refl, refl, refl, refl)
status_values status.Preflight location = (refl, refl, refl, refl, refl, refl, refl)
status_values status.QueryPreflight location = (refl, refl, refl, refl, refl, refl, refl)
status_values status.Found location = (refl, refl, refl, refl, refl, refl, refl)
status_values status.NotModified location = (refl, refl, refl, refl, refl, refl, refl)
status_values status.BadRequest location = (refl, refl, refl, refl, refl, refl, refl)
status_values status.Unauthorized location = (refl, refl, refl, refl, refl, refl, refl)
status_values status.NotFound location = (refl, refl, refl, refl, refl, refl, refl)
status_values status.MethodNotAllowed location = (refl, refl, refl, refl, refl, refl, refl)
status_values status.PostOnly location = (refl, refl, refl, refl, refl, refl, refl)
status_values status.GetOrPost location = (refl, refl, refl, refl, refl, refl, refl)
status_values status.GetOrDelete location = (refl, refl, refl, refl, refl, refl, refl)
status_values status.Conflict location = (refl, refl, refl, refl, refl, refl, refl)
status_values status.LengthRequired location = (refl, refl, refl, refl, refl, refl, refl)
status_values status.ContentTooLarge location = (refl, refl, refl, refl, refl, refl, refl)
status_values status.UnsupportedMediaType location = (refl, refl, refl, refl, refl, refl, refl)
status_values status.Misdirected location = (refl, refl, refl, refl, refl, refl, refl)
status_values status.NotImplemented location = (refl, refl, refl, refl, refl, refl, refl)

-- one value, or none
abbrev unless : Bool → List ℕ → List (List ℕ)
unless b text = if b then [] else text ∷ []

content_values : (bodiless : Bool) (media count : List ℕ)
    → AreValues (content_pairs bodiless media count) (unless bodiless (trim_ows (32 ∷ count))) (unless bodiless (trim_ows (32 ∷ media))) [] [] [] [] []
content_values true media count = (refl, refl, refl, refl, refl, refl, refl)
content_values false media count = (refl, refl, refl, refl, refl, refl, refl)

-- the stated length
length_trimmed : (bodiless : Bool) (body : List ℕ) → length (if bodiless then [] else body) < 2 ^ 64
    → unless bodiless (trim_ows (32 ∷ decimal (length body))) ≡ unless bodiless (decimal (length body))
length_trimmed true body small = refl
length_trimmed false body small = ap (unless false) (trimmed (decimal (length body)) (digits_pass (length body) small))

tag_values : (tag : List ℕ) → AllPass is_uri_byte tag → AreValues (tag_pairs tag) [] [] (tags tag) [] [] [] []
tag_values [] passes = (refl, refl, refl, refl, refl, refl, refl)
tag_values (b ∷ tag) passes = (refl, refl, ap (λ (t : List ℕ). t ∷ []) (trimmed (b ∷ tag) passes), refl, refl, refl, refl)

cache_values : (max_age : ℕ) → max_age < 2 ^ 64 → AreValues (cache_pairs max_age) [] [] [] (cache_text max_age ∷ []) [] [] []
cache_values max_age small = (refl, refl, refl, ap (λ (t : List ℕ). t ∷ []) (trimmed (cache_text max_age) (cache_passes max_age small)), refl, refl, refl)

accept_trimmed : trim_ows (32 ∷ codes "Accept") ≡ codes "Accept"
unfolding httparse_on_literals
accept_trimmed = refl

last_values : (keeps : Bool) (representation : Representation) (redirects : Bool)
    → AreValues (last_pairs keeps representation redirects) [] [] [] [] (codes "Accept" ∷ []) [] (unless_kept keeps (trim_ows (32 ∷ codes "close")))
last_values true Text redirects = (refl, refl, refl, refl, ap (λ (t : List ℕ). t ∷ []) accept_trimmed, refl, refl)
last_values true Json redirects = (refl, refl, refl, refl, ap (λ (t : List ℕ). t ∷ []) accept_trimmed, refl, refl)
last_values true Html true = (refl, refl, refl, refl, ap (λ (t : List ℕ). t ∷ []) accept_trimmed, refl, refl)
last_values true Html false = (refl, refl, refl, refl, ap (λ (t : List ℕ). t ∷ []) accept_trimmed, refl, refl)
last_values true Fragment redirects = (refl, refl, refl, refl, ap (λ (t : List ℕ). t ∷ []) accept_trimmed, refl, refl)
last_values true Sfx redirects = (refl, refl, refl, refl, ap (λ (t : List ℕ). t ∷ []) accept_trimmed, refl, refl)
last_values false Text redirects = (refl, refl, refl, refl, ap (λ (t : List ℕ). t ∷ []) accept_trimmed, refl, refl)
last_values false Json redirects = (refl, refl, refl, refl, ap (λ (t : List ℕ). t ∷ []) accept_trimmed, refl, refl)
last_values false Html true = (refl, refl, refl, refl, ap (λ (t : List ℕ). t ∷ []) accept_trimmed, refl, refl)
last_values false Html false = (refl, refl, refl, refl, ap (λ (t : List ℕ). t ∷ []) accept_trimmed, refl, refl)
last_values false Fragment redirects = (refl, refl, refl, refl, ap (λ (t : List ℕ). t ∷ []) accept_trimmed, refl, refl)
last_values false Sfx redirects = (refl, refl, refl, refl, ap (λ (t : List ℕ). t ∷ []) accept_trimmed, refl, refl)

-- the values of the five parts of a head
parts_values : (name : List ℕ) (a b c d e : Pairs) (va vb vc vd ve : List (List ℕ))
    → values name a ≡ va → values name b ≡ vb → values name c ≡ vc → values name d ≡ vd → values name e ≡ ve
    → values name (a ++ (b ++ (c ++ (d ++ e)))) ≡ va ++ (vb ++ (vc ++ (vd ++ ve)))
parts_values name a b c d e va vb vc vd ve one two three four five =
    values-append name a (b ++ (c ++ (d ++ e)))
    ∙ ap (λ t. values name a ++ t) (values-append name b (c ++ (d ++ e))
    ∙ ap (λ t. values name b ++ t) (values-append name c (d ++ e) ∙ ap (λ t. values name c ++ t) (values-append name d e)))
    ∙ rw (one, two, three, four, five) refl

head_states : (keeps : Bool) (reply : ResponseValue) → IsSendable reply → IsHeadOf keeps reply (head_of keeps reply)
head_states keeps reply sendable =
    let bodiless : Bool = is_bodiless (status_code reply.status) in
    let a : Pairs = status_pairs reply.status reply.location in
    let b : Pairs = content_of reply in
    let c : Pairs = tag_pairs reply.tag in
    let d : Pairs = cache_pairs reply.max_age in
    let e : Pairs = last_pairs keeps reply.representation reply.redirects in
    let va = status_values reply.status reply.location in
    let vb = content_values bodiless (type_text reply.representation) (decimal (length reply.body)) in
    let vc = tag_values reply.tag sendable.tag in
    let vd = cache_values reply.max_age sendable.age in
    let ve = last_values keeps reply.representation reply.redirects in
    record {
      status = (status_digits reply.status).2;
      size = parts_values (codes "content-length") a b c d e _ _ _ _ _ va.0 vb.0 vc.0 vd.0 ve.0 ∙ append-nil _
          ∙ length_trimmed bodiless reply.body sendable.size;
      media = parts_values (codes "content-type") a b c d e _ _ _ _ _ va.1 vb.1 vc.1 vd.1 ve.1 ∙ append-nil _ ∙ ap (unless bodiless) (media_trimmed reply.representation);
      tag = parts_values (codes "etag") a b c d e _ _ _ _ _ va.2 vb.2 vc.2 vd.2 ve.2 ∙ append-nil _;
      caching = parts_values (codes "cache-control") a b c d e _ _ _ _ _ va.3 vb.3 vc.3 vd.3 ve.3;
      varies = parts_values (codes "vary") a b c d e _ _ _ _ _ va.4 vb.4 vc.4 vd.4 ve.4;
      location = parts_values (codes "location") a b c d e _ _ _ _ _ va.5 vb.5 vc.5 vd.5 ve.5 ∙ append-nil _ ∙ ap (locations reply.status) (trimmed reply.location sendable.location);
      connection = parts_values (codes "connection") a b c d e _ _ _ _ _ va.6 vb.6 vc.6 vd.6 ve.6 ∙ ap (unless_kept keeps) close_trimmed;
    }

pub sent_as : (keeps : Bool) (reply : ResponseValue) → IsSendable reply → IsSentAs keeps reply (head_of keeps reply)
sent_as keeps reply sendable = let states = head_states keeps reply sendable in
    let valid = head_valid keeps reply sendable in
    let printed = sym (head_printed keeps reply) in
    record {
      states = states;
      whole = record { reads = (valid, ap (λ t. t ++ response_body false reply) printed); sent = head_sent keeps reply; status = states.status; body_length = refl };
      alone = record { reads = (valid, ap (λ t. t ++ []) printed); sent = head_sent keeps reply; status = states.status; body_length = refl };
    }

-- the length that a head states is that of its body
states_body : (bodiless : Bool) (head : ResponseHead) (body : List ℕ)
    → values_named (codes "content-length") head.fields ≡ unless bodiless (decimal (length body))
    → MatchBool bodiless ((if bodiless then [] else body) ≡ []) (StatesLength head (length (if bodiless then [] else body)))
states_body true head body states = refl
states_body false head body states = ap only states

-- the same for one of the two ways in which it is sent
pub message_for : (keeps head_alone : Bool) (reply : ResponseValue) → IsSendable reply → IsMessageFor keeps head_alone (response_of keeps head_alone reply)
message_for keeps false reply sendable = let sent = sent_as keeps reply sendable in
    record {
      head = head_of keeps reply;
      body = response_body false reply;
      message = sent.whole;
      whole = λ whole. states_body (is_bodiless (status_code reply.status)) (head_of keeps reply) reply.body sent.states.size;
      alone = λ e. absurd (cc);
      connection = sent.states.connection;
    }
message_for keeps true reply sendable = let sent = sent_as keeps reply sendable in
    record {
      head = head_of keeps reply;
      body = [];
      message = sent.alone;
      whole = λ e. absurd (cc);
      alone = λ alone. refl;
      connection = sent.states.connection;
    }

-- the body that is sent is no longer
pub sent_size : (bodiless : Bool) (body : List ℕ) → length body < 2 ^ 64 → length (if bodiless then [] else body) < 2 ^ 64
sent_size true body small = lit< tt
sent_size false body small = small

-- the same for the parts of a response
pub message_of : (keeps head_alone : Bool) (reply : ResponseValue) (bytes : List ℕ) (code size : ℕ) → IsSendable reply → bytes ≡ response_head keeps reply ++ response_body head_alone reply
    → code ≡ status_code reply.status → size ≡ length (response_body head_alone reply) → IsMessageFor keeps head_alone (record { bytes = bytes; status = code; body_length = size })
message_of keeps head_alone reply bytes code size sendable made coded sized = rw (made, coded, sized) (message_for keeps head_alone reply sendable)

-- ---- the response to a client that has the representation

sent_alone : (keeps alone : Bool) (tag : List ℕ) (max_age : ℕ) (representation : Representation) → IsSendable (not_modified tag max_age representation)
    → IsMessage (response_of keeps alone (not_modified tag max_age representation)) (head_of keeps (not_modified tag max_age representation)) []
sent_alone keeps true tag max_age representation sendable = (sent_as keeps (not_modified tag max_age representation) sendable).alone
sent_alone keeps false tag max_age representation sendable = (sent_as keeps (not_modified tag max_age representation) sendable).whole

pub not_modified_stated : NotModifiedIsHeadOfGood
not_modified_stated keeps alone tag max_age good sendable =
    let brief : ResponseValue = not_modified tag max_age good.representation in
    let fits : IsSendable brief = record { location = All-nil (λ b. is_uri_byte b ≡ true); size = lit< tt; tag = sendable.tag; age = sendable.age } in
    let one = head_states keeps brief fits in
    let other = head_states keeps (with_tag tag max_age good) sendable in (
      head_of keeps brief,
      head_of keeps (with_tag tag max_age good),
      sent_alone keeps alone tag max_age good.representation fits,
      other,
      one.tag ∙ sym other.tag,
      one.caching ∙ sym other.caching,
      one.varies ∙ sym other.varies,
    )

-- ---- the response that reports progress

abbrev progress_pairs : Pairs
progress_pairs = (codes "Content-Type", codes "text/plain; charset=utf-8") ∷ (codes "X-Content-Type-Options", codes "nosniff") ∷ (codes "Connection", codes "close") ∷ []

abbrev stream_head : ResponseHead
stream_head = record { blank = []; minor = 1; digits = codes "200"; reason = Some (codes "OK"); line_end = crlf; fields = fields_of progress_pairs; last = crlf }

stream_valid : IsResponseHead stream_head
unfolding httparse_on_literals
stream_valid = record {
  minor = omega arith;
  digits = (refl, AllPass-from_list_all is_ascii_digit (codes "200") refl);
  reason = AllPass-from_list_all is_value_byte (codes "OK") refl;
  fields = All-from_recursion IsField (fields_of progress_pairs) (
    literal_field (codes "Content-Type") (codes "text/plain; charset=utf-8") (omega arith) refl refl,
    (literal_field (codes "X-Content-Type-Options") (codes "nosniff") (omega arith) refl refl, (literal_field (codes "Connection") (codes "close") (omega arith) refl refl, tt)),
  );
}

stream_printed : progress_head ≡ print_response stream_head ++ []
unfolding progress_head print_response
stream_printed = refl

begins_stream : BeginsStream progress_response
begins_stream = record {
  head = stream_head;
  message = record {
    reads = (stream_valid, stream_printed);
    sent = record { minor = refl; first = refl; line = refl; lines = in_crlf progress_pairs; last = refl };
    status = refl;
    body_length = refl;
  };
  good = refl;
  unknown = refl;
  connection = ap (λ value. value ∷ []) close_trimmed;
}

pub stream_of : (bytes : List ℕ) → bytes ≡ progress_head → BeginsStream (record { bytes = bytes; status = 200; body_length = 0 })
stream_of bytes made = rw made begins_stream

-- ---- what a response says of its connection

says_by_values : (keeps : Bool) → list_all (λ value. not (lists (codes "close") value)) (connection_values keeps) ≡ keeps
unfolding httparse_on_literals
says_by_values true = refl
says_by_values false = refl

says_by : (keeps : Bool) (head : ResponseHead) → StatesConnection head keeps → lacks_close head.fields ≡ keeps
says_by keeps head states = ap (list_all (λ value. not (lists (codes "close") value))) states ∙ says_by_values keeps

pub message_says : (keeps head_alone : Bool) (response : ResponseTextValue) → IsMessageFor keeps head_alone response → SaysWhetherItKeeps keeps response.bytes
message_says keeps head_alone response is = record { head = is.head; rest = is.body; reads = is.message.reads; says = says_by keeps is.head is.connection }

pub stream_says : (response : ResponseTextValue) → BeginsStream response → SaysWhetherItKeeps false response.bytes
stream_says response is = record { head = is.head; rest = []; reads = is.message.reads; says = says_by false is.head is.connection }
