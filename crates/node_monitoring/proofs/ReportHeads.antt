-- The head of a response about a node, as the grammar reads it.
use Rattle.std.proofs.Common.{◌≡◌, ◌<◌, ◌^◌, ℕ, List, [], ◌∷◌, ◌++◌, length, reverse, codes, Some, Bool, true, false, refl, ap, ◌∙◌, arith, append_assoc, All}
use Rattle.std.specs.Prelude.{IsTrue}
use Rattle.std.specs.List.{AllByRecursion, list_all, flat_map}
use Rattle.std.specs.Char.{is_ascii_digit}
use Rattle.std.specs.Fmt.{decimal}
use Rattle.std.proofs.lemmas.Fmt.{decimal_is_IsNumeral}
use Rattle.std.proofs.lemmas.List.Elements.{All-append, All-weaker, All-from_recursion, recursion_from_All}
use Rattle.std.proofs.lemmas.List.Sums.{AllPass-from_list_all}
use Rattle.std.proofs.lemmas.Bool.Decides.{nat_tests}
use Rattle.httparse.specs.Grammar.{AllPass, ResponseHead, IsResponseHead, print_response, status_code, Field, IsField, crlf, print_field}
use Rattle.httparse.specs.Grammar.{is_ows, is_value_byte, is_token_byte, skip_ows, trim_ows}
use Rattle.httparse.proofs.OnLiterals.{httparse_on_literals}
use Rattle.httparse.proofs.TrimLemmas.{trim_ows_space, AllPass-reverse}
use Rattle.feed_bytes.proofs.Digits.{numerals}
use Rattle.feed_http_heads.specs.Fields.{values_named}
use Rattle.feed_http_heads.specs.Options.{lacks_close, SaysWhetherItKeeps}
use Rattle.node_monitoring.specs.ReportTexts.{start_text, end_text, status_of, sent_body, report_text, IsReportMessage}
use Rattle.node_monitoring.specs.declared.report_text.ReportKind.{ReportKind}
use Rattle.node_monitoring.specs.declared.report_text.ReportKind.TheVariants.{Metrics, Well, Unready, BadMethod}

abbrev field : List ℕ → List ℕ → Field
field name value = record { name = name; raw = 32 ∷ value; end = crlf }

is_field : (name value : List ℕ) → 0 < length name → list_all is_token_byte name ≡ true → list_all is_value_byte (32 ∷ value) ≡ true → IsField (field name value)
is_field name value some token passes = record { name = (some, AllPass-from_list_all is_token_byte name token); raw = AllPass-from_list_all is_value_byte (32 ∷ value) passes }

-- the fields in front of the length of the body
abbrev text_fields : List ℕ → List Field
text_fields media = field (codes "Content-Type") media ∷ field (codes "Cache-Control") (codes "no-store") ∷ field (codes "X-Content-Type-Options") (codes "nosniff") ∷ []

abbrev start_fields : ReportKind → List Field
start_fields Metrics = text_fields (codes "text/plain; version=0.0.4; charset=utf-8")
start_fields Well = text_fields (codes "text/plain; charset=utf-8")
start_fields Unready = text_fields (codes "text/plain; charset=utf-8")
start_fields BadMethod = field (codes "Allow") (codes "GET, HEAD") ∷ text_fields (codes "text/plain; charset=utf-8")

-- the fields behind it
abbrev end_fields : Bool → List Field
end_fields true = []
end_fields false = field (codes "Connection") (codes "close") ∷ []

abbrev length_field : ℕ → Field
length_field n = field (codes "Content-Length") (decimal n)

abbrev fields : ReportKind → Bool → ℕ → List Field
fields kind keeps n = start_fields kind ++ ((length_field n ∷ []) ++ end_fields keeps)

abbrev code : ReportKind → List ℕ
code Metrics = codes "200"
code Well = codes "200"
code Unready = codes "503"
code BadMethod = codes "405"

abbrev reason : ReportKind → List ℕ
reason Metrics = codes "OK"
reason Well = codes "OK"
reason Unready = codes "Service Unavailable"
reason BadMethod = codes "Method Not Allowed"

abbrev head_of : ReportKind → Bool → ℕ → ResponseHead
head_of kind keeps n = record { blank = []; minor = 1; digits = code kind; reason = Some (reason kind); line_end = crlf; fields = fields kind keeps n; last = crlf }

-- ---- it is valid

text_valid : (media : List ℕ) → list_all is_value_byte (32 ∷ media) ≡ true → All IsField (text_fields media)
unfolding httparse_on_literals
text_valid media passes = All-from_recursion IsField (text_fields media) (
  is_field (codes "Content-Type") media (omega arith) refl passes,
  (
    is_field (codes "Cache-Control") (codes "no-store") (omega arith) refl refl,
    (is_field (codes "X-Content-Type-Options") (codes "nosniff") (omega arith) refl refl, tt),
  ),
)

allow_valid : All IsField (field (codes "Allow") (codes "GET, HEAD") ∷ [])
unfolding httparse_on_literals
allow_valid = All-from_recursion IsField (field (codes "Allow") (codes "GET, HEAD") ∷ []) (is_field (codes "Allow") (codes "GET, HEAD") (omega arith) refl refl, tt)

start_valid : (kind : ReportKind) → All IsField (start_fields kind)
unfolding httparse_on_literals
start_valid Metrics = text_valid (codes "text/plain; version=0.0.4; charset=utf-8") refl
start_valid Well = text_valid (codes "text/plain; charset=utf-8") refl
start_valid Unready = text_valid (codes "text/plain; charset=utf-8") refl
start_valid BadMethod = All-append IsField (field (codes "Allow") (codes "GET, HEAD") ∷ []) (text_fields (codes "text/plain; charset=utf-8")) allow_valid
    (text_valid (codes "text/plain; charset=utf-8") refl)

end_valid : (keeps : Bool) → All IsField (end_fields keeps)
unfolding httparse_on_literals
end_valid true = All-from_recursion IsField [] tt
end_valid false = All-from_recursion IsField (field (codes "Connection") (codes "close") ∷ []) (is_field (codes "Connection") (codes "close") (omega arith) refl refl, tt)

digit_passes : (b : ℕ) → is_ascii_digit b ≡ true → is_value_byte b ≡ true
digit_passes b digit = grind (arith, nat_tests)

digits_pass : (n : ℕ) → n < 2 ^ 64 → AllPass is_value_byte (decimal n)
digits_pass n small = All-weaker (λ b. IsTrue (is_ascii_digit b)) (λ b. is_value_byte b ≡ true) digit_passes (decimal n)
    (AllPass-from_list_all is_ascii_digit (decimal n) (numerals.from (decimal n) (decimal_is_IsNumeral n small).0.1))

length_valid : (n : ℕ) → n < 2 ^ 64 → All IsField (length_field n ∷ [])
unfolding httparse_on_literals
length_valid n small = All-from_recursion IsField (length_field n ∷ []) (
  record {
    name = (omega arith, AllPass-from_list_all is_token_byte (codes "Content-Length") refl);
    raw = All-append (λ b. is_value_byte b ≡ true) (32 ∷ []) (decimal n) (AllPass-from_list_all is_value_byte (32 ∷ []) refl) (digits_pass n small);
  },
  tt,
)

fields_valid : (kind : ReportKind) (keeps : Bool) (n : ℕ) → n < 2 ^ 64 → All IsField (fields kind keeps n)
fields_valid kind keeps n small =
    All-append IsField (start_fields kind) ((length_field n ∷ []) ++ end_fields keeps) (start_valid kind)
    (All-append IsField (length_field n ∷ []) (end_fields keeps) (length_valid n small) (end_valid keeps))

code_valid : (kind : ReportKind) → (length (code kind) ≡ 3) × AllPass is_ascii_digit (code kind)
code_valid Metrics = (refl, AllPass-from_list_all is_ascii_digit (codes "200") refl)
code_valid Well = (refl, AllPass-from_list_all is_ascii_digit (codes "200") refl)
code_valid Unready = (refl, AllPass-from_list_all is_ascii_digit (codes "503") refl)
code_valid BadMethod = (refl, AllPass-from_list_all is_ascii_digit (codes "405") refl)

reason_valid : (kind : ReportKind) → AllPass is_value_byte (reason kind)
unfolding httparse_on_literals
reason_valid Metrics = AllPass-from_list_all is_value_byte (codes "OK") refl
reason_valid Well = AllPass-from_list_all is_value_byte (codes "OK") refl
reason_valid Unready = AllPass-from_list_all is_value_byte (codes "Service Unavailable") refl
reason_valid BadMethod = AllPass-from_list_all is_value_byte (codes "Method Not Allowed") refl

valid : (kind : ReportKind) (keeps : Bool) (n : ℕ) → n < 2 ^ 64 → IsResponseHead (head_of kind keeps n)
valid kind keeps n small = record { minor = omega arith; digits = code_valid kind; reason = reason_valid kind; fields = fields_valid kind keeps n small }

-- ---- it is printed so

-- a head with other last fields
abbrev head_with : ReportKind → ℕ → List Field → ResponseHead
head_with kind n last =
    record { blank = []; minor = 1; digits = code kind; reason = Some (reason kind); line_end = crlf; fields = start_fields kind ++ (length_field n ∷ last); last = crlf }

start_printed : (kind : ReportKind) (n : ℕ) (last : List Field) (body : List ℕ)
    → start_text kind ++ (decimal n ++ (13 ∷ 10 ∷ (flat_map print_field last ++ (13 ∷ 10 ∷ body)))) ≡ print_response (head_with kind n last) ++ body
unfolding print_response
start_printed Metrics n last body = simp append_assoc refl
start_printed Well n last body = simp append_assoc refl
start_printed Unready n last body = simp append_assoc refl
start_printed BadMethod n last body = simp append_assoc refl

end_printed : (keeps : Bool) (body : List ℕ) → end_text keeps ++ body ≡ 13 ∷ 10 ∷ (flat_map print_field (end_fields keeps) ++ (13 ∷ 10 ∷ body))
end_printed true body = refl
end_printed false body = refl

printed : (kind : ReportKind) (keeps : Bool) (n : ℕ) (body : List ℕ) → start_text kind ++ (decimal n ++ (end_text keeps ++ body)) ≡ print_response (head_of kind keeps n) ++ body
printed kind keeps n body = ap (λ t. start_text kind ++ (decimal n ++ t)) (end_printed keeps body) ∙ start_printed kind n (end_fields keeps) body

-- ---- it says whether the connection closes

closes : (kind : ReportKind) (keeps : Bool) (n : ℕ) → lacks_close (fields kind keeps n) ≡ keeps
unfolding httparse_on_literals
closes Metrics true n = refl
closes Metrics false n = refl
closes Well true n = refl
closes Well false n = refl
closes Unready true n = refl
closes Unready false n = refl
closes BadMethod true n = refl
closes BadMethod false n = refl

-- ---- it states the status and the length of the body, and that no cache keeps it

digit_visible : (b : ℕ) → is_ascii_digit b ≡ true → is_ows b ≡ false
digit_visible b digit = grind (arith, nat_tests)

visible_front : (text : List ℕ) → AllByRecursion (λ b. is_ascii_digit b ≡ true) text → skip_ows text ≡ text
visible_front [] all = refl
visible_front (b ∷ text) all = let stays : is_ows b ≡ false = digit_visible b all.0 in rw stays refl

length_trimmed : (n : ℕ) → n < 2 ^ 64 → trim_ows (32 ∷ decimal n) ≡ decimal n
length_trimmed n small =
    let digits : AllPass is_ascii_digit (decimal n) = AllPass-from_list_all is_ascii_digit (decimal n) (numerals.from (decimal n) (decimal_is_IsNumeral n small).0.1) in
    trim_ows_space (decimal n)
    (visible_front (decimal n) (recursion_from_All (λ b. is_ascii_digit b ≡ true) (decimal n) digits))
    (visible_front (reverse (decimal n)) (recursion_from_All (λ b. is_ascii_digit b ≡ true) (reverse (decimal n)) (AllPass-reverse is_ascii_digit (decimal n) digits)))

lengths : (kind : ReportKind) (keeps : Bool) (n : ℕ) → values_named (codes "content-length") (fields kind keeps n) ≡ trim_ows (32 ∷ decimal n) ∷ []
lengths Metrics true n = refl
lengths Metrics false n = refl
lengths Well true n = refl
lengths Well false n = refl
lengths Unready true n = refl
lengths Unready false n = refl
lengths BadMethod true n = refl
lengths BadMethod false n = refl

caching : (kind : ReportKind) (keeps : Bool) (n : ℕ) → values_named (codes "cache-control") (fields kind keeps n) ≡ codes "no-store" ∷ []
unfolding httparse_on_literals
caching Metrics true n = refl
caching Metrics false n = refl
caching Well true n = refl
caching Well false n = refl
caching Unready true n = refl
caching Unready false n = refl
caching BadMethod true n = refl
caching BadMethod false n = refl

status : (kind : ReportKind) (keeps : Bool) (n : ℕ) → status_code (head_of kind keeps n) ≡ status_of kind
status Metrics keeps n = refl
status Well keeps n = refl
status Unready keeps n = refl
status BadMethod keeps n = refl

pub report_message : (kind : ReportKind) (keeps head_alone : Bool) (body text : List ℕ) → length body < 2 ^ 64 → text ≡ report_text kind keeps head_alone body
    → IsReportMessage kind keeps head_alone body text
unfolding report_text
report_message kind keeps head_alone body text small is = record {
  head = head_of kind keeps (length body);
  reads = (valid kind keeps (length body) small, is ∙ printed kind keeps (length body) (sent_body head_alone body));
  status = status kind keeps (length body);
  size = lengths kind keeps (length body) ∙ ap (λ (value : List ℕ). value ∷ []) (length_trimmed (length body) small);
  caching = caching kind keeps (length body);
  connection = closes kind keeps (length body);
}

pub report_says : (kind : ReportKind) (keeps head_alone : Bool) (body text : List ℕ) → IsReportMessage kind keeps head_alone body text → SaysWhetherItKeeps keeps text
report_says kind keeps head_alone body text message = record { head = message.head; rest = sent_body head_alone body; reads = message.reads; says = message.connection }

-- ---- it is written in four steps

pub report_written : (kind : ReportKind) (keeps head_alone : Bool) (body start end sent one two three new : List ℕ)
    → start ≡ start_text kind → end ≡ end_text keeps → sent ≡ sent_body head_alone body
    → one ≡ start → two ≡ one ++ decimal (length body) → three ≡ two ++ end → new ≡ three ++ sent → new ≡ report_text kind keeps head_alone body
unfolding report_text
report_written kind keeps head_alone body start end sent one two three new s e b first second third fourth =
    fourth ∙ rw (third, second, first, s, e, b) (append_assoc (start_text kind ++ decimal (length body)) (end_text keeps) (sent_body head_alone body)
    ∙ append_assoc (start_text kind) (decimal (length body)) (end_text keeps ++ sent_body head_alone body))
