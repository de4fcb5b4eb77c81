-- The law over both ends: what a node asks is understood.
use Rattle.std.proofs.Common.{◌≡◌, ◌≤◌, ◌<◌, ◌+◌, ◌-◌, ◌/◌, ◌%◌, ◌^◌, ℕ, List, [], ◌∷◌, ◌++◌}
use Rattle.std.proofs.Common.{length, All, codes, Some, true, min, refl, sym, ap, arith, ◌∙◌, append_assoc, subst, lit≤, drop}
use Rattle.std.specs.Prelude.{◌&&◌, IsTrue, slice_range, nat_lt, nat_le}
use borrow.Author.Tests.{leb-true}
use Rattle.feed_bytes.proofs.Digits.{both}
use Rattle.std.specs.List.{list_all, flat_map}
use Rattle.std.specs.Fmt.{decimal}
use Rattle.std.proofs.lemmas.Bool.Decides.{nat_tests}
use Rattle.std.proofs.lemmas.List.{append-nil, length-append, length-take, length-drop}
use Rattle.std.proofs.lemmas.List.Sums.{AllPass-from_list_all}
use Rattle.std.proofs.lemmas.List.Elements.{All-append, All-weaker, All-cons, All-nil}
use Rattle.std.proofs.lemmas.Str.{IsUtf8-from_ascii}
use Rattle.std.proofs.lemmas.Str.Ascii.{IsAscii-from_all}
use Rattle.httparse.specs.Grammar.{AllPass, RequestHead, IsRequestHead, print_request, Field, IsField, crlf, print_field, is_value_byte, is_token_byte, is_uri_byte, trim_ows}
use Rattle.httparse.proofs.OnLiterals.{httparse_on_literals}
use Rattle.httparse.proofs.GrammarLemmas.{cons-append}
use Rattle.feed_names.specs.Day.{two, ymd_text}
use Rattle.feed_names.specs.ReleaseName.{Name, IsName, is_package_byte, text_of}
use Rattle.feed_range.specs.RangeAsk.{ask_text, ask_of}
use Rattle.feed_http.specs.Shelves.{Files}
use Rattle.feed_http.specs.Requests.{IsNamedBy}
use Rattle.feed_http.specs.ServerResponses.{server_response, part_response, with_body, head_alone}
use Rattle.feed_http.specs.RequestTexts.{is_host, is_host_byte, start_then, get_text, head_request_text}
use Rattle.feed_http.proofs.ExchangeLaw.{field, fields_of, fields_text, digits_pass, static_field, number_field, decimal_short, decimal_digits, decimal_some, trimmed, part_reads_back, size_reads_back}
use Rattle.feed_range.specs.declared.range_ask.RangeAsk.TheVariants.{Part}
use Rattle.feed_range.proofs.Laws.{ask_of-ask_text}
use Rattle.feed_http.specs.declared.serving.response_head.ServerHead.TheVariants as head
use Rattle.feed_http_heads.specs.RequestHeads.{BeginsWithHead}
use Rattle.feed_http.specs.Laws.{FetchGivesSlice, HeadGivesSize}

-- the head of a request with these fields behind the Host field
request_head : (method host name : List ℕ) (more : List Field) → RequestHead
request_head method host name more = record { blank = []; method = method; target = 47 ∷ name; minor = 1; line_end = crlf; fields = field (codes "Host") host ∷ more; last = crlf }

request_printed : (method host name : List ℕ) (more : List Field) → print_request (request_head method host name more) ≡ start_then method host name
    (flat_map print_field more ++ (13 ∷ 10 ∷ []))
unfolding print_request request_head field
request_printed method host name more = simp (append_assoc, cons-append) refl

abbrev get_pairs : List ℕ → List (List ℕ × List ℕ)
get_pairs ask = (codes "Range", ask) ∷ (codes "Accept-Encoding", codes "identity") ∷ (codes "Connection", codes "close") ∷ []

abbrev get_head : List ℕ → List ℕ → List ℕ → RequestHead
get_head host name ask = request_head (codes "GET") host name (fields_of (get_pairs ask))

get_printed : (host name : List ℕ) (first last : ℕ) → print_request (get_head host name (ask_text first last)) ≡ get_text host name first last
get_printed host name first last = request_printed (codes "GET") host name (fields_of (get_pairs (ask_text first last)))
    ∙ ap (start_then (codes "GET") host name) (fields_text (get_pairs (ask_text first last)) (13 ∷ 10 ∷ []))

-- the bytes of a name
abbrev Passes : ℕ → Type 0
Passes b = is_package_byte b ≡ true

digit_is_package_byte : (k : ℕ) → k < 10 → Passes (48 + k)
digit_is_package_byte k small = grind (arith, nat_tests)

two_pass : (n : ℕ) → All Passes (two n)
two_pass n = All-cons Passes (48 + n / 10 % 10) ((48 + n % 10) ∷ []) (digit_is_package_byte (n / 10 % 10) (omega arith))
    (All-cons Passes (48 + n % 10) [] (digit_is_package_byte (n % 10) (omega arith))
    (All-nil Passes))

date_passes : (year month day : ℕ) → All Passes (ymd_text year month day)
date_passes year month day =
    let hyphen : (ds : List ℕ) → All Passes ds → All Passes (45 ∷ ds) = λ ds all. All-cons Passes 45 ds refl all in
    All-append Passes (two (year / 100) ++ two year ++ (45 ∷ two month)) (45 ∷ two day)
    (All-append Passes (two (year / 100) ++ two year) (45 ∷ two month) (All-append Passes (two (year / 100)) (two year) (two_pass (year / 100)) (two_pass year))
    (hyphen (two month) (two_pass month)))
    (hyphen (two day) (two_pass day))

name_passes : (text : List ℕ) (name : Name) → IsName text name → All Passes text
name_passes text name is =
    let P : List ℕ → Type 0 = λ t. All Passes t in
    let date : All Passes is.is_dated.date = subst P (sym is.is_dated.is_date.spelled) (date_passes is.is_dated.is_date.year is.is_dated.is_date.month is.is_dated.is_date.day) in
    let front : All Passes is.front = subst P (sym is.is_dated.spelled)
    (All-append Passes name.package_name (95 ∷ is.is_dated.date) is.is_package_name.bytes (All-cons Passes 95 is.is_dated.date refl date)) in
    subst P (sym is.ends) (All-append Passes is.front (codes ".txt") front (AllPass-from_list_all is_package_byte (codes ".txt") refl))

name_short : (text : List ℕ) (name : Name) → IsName text name → length text ≤ 115
name_short text name is =
    let date : length is.is_dated.date ≡ 10 = ap length is.is_dated.is_date.spelled in
    omega (arith, ap length is.ends, length-append is.front (codes ".txt"), ap length is.is_dated.spelled, length-append name.package_name (95 ∷ is.is_dated.date), date, is.is_package_name.most)

uri_byte : (b : ℕ) → Passes b → is_uri_byte b ≡ true
uri_byte b p = grind (arith, nat_tests)

small_byte : (b : ℕ) → Passes b → b < 128
small_byte b p = grind (arith, nat_tests)

host_byte_passes : (b : ℕ) → is_host_byte b ≡ true → is_value_byte b ≡ true
host_byte_passes b p = grind (arith, nat_tests)

host_parts : (host : List ℕ) → IsTrue (is_host host) → (length host ≤ 255) × AllPass is_value_byte host
host_parts host is =
    let some = both (nat_lt 0 (length host) && nat_le (length host) 255) (list_all is_host_byte host) is in
    let sizes = both (nat_lt 0 (length host)) (nat_le (length host) 255) some.0 in
    (leb-true (length host) 255 sizes.1, All-weaker (λ b. is_host_byte b ≡ true) (λ b. is_value_byte b ≡ true) host_byte_passes host (AllPass-from_list_all is_host_byte host some.1))

ask_passes : (first last : ℕ) → first < 2 ^ 64 → last < 2 ^ 64 → AllPass is_value_byte (ask_text first last)
ask_passes first last a b =
    let P : ℕ → Type 0 = λ byte. is_value_byte byte ≡ true in
    let lit : (text : List ℕ) → list_all is_value_byte text ≡ true → AllPass is_value_byte text = AllPass-from_list_all is_value_byte in
    let front = All-append P (codes "bytes=") (decimal first) (lit (codes "bytes=") refl) (digits_pass first a) in
    let dashed = All-append P (codes "bytes=" ++ decimal first) (codes "-") front (lit (codes "-") refl) in
    All-append P (codes "bytes=" ++ decimal first ++ codes "-") (decimal last) dashed (digits_pass last b)

get_valid : (host text ask : List ℕ) (name : Name) → IsTrue (is_host host) → IsName text name → AllPass is_value_byte ask → IsRequestHead (get_head host text ask)
unfolding httparse_on_literals request_head
get_valid host text ask name is_valid is asks =
    let bytes = name_passes text name is in
    let closes : List Field = field (codes "Connection") (codes "close") ∷ [] in
    let accepts : List Field = field (codes "Accept-Encoding") (codes "identity") ∷ field (codes "Connection") (codes "close") ∷ [] in
    let ranged : List Field = field (codes "Range") ask ∷ field (codes "Accept-Encoding") (codes "identity") ∷ field (codes "Connection") (codes "close") ∷ [] in
    record {
      method = (omega arith, AllPass-from_list_all is_token_byte (codes "GET") refl);
      target = (omega arith, All-cons (λ b. is_uri_byte b ≡ true) 47 text refl (All-weaker Passes (λ b. is_uri_byte b ≡ true) uri_byte text bytes));
      target_text = IsUtf8-from_ascii (47 ∷ text) (IsAscii-from_all (47 ∷ text) (All-cons (λ b. b < 128) 47 text (omega arith) (All-weaker Passes (λ b. b < 128) small_byte text bytes)));
      minor = omega arith;
      fields =
          All-cons IsField (field (codes "Host") host) ranged (number_field (codes "Host") host (omega arith) refl (host_parts host is_valid).1)
          (All-cons IsField (field (codes "Range") ask) accepts (number_field (codes "Range") ask (omega arith) refl asks)
          (All-cons IsField (field (codes "Accept-Encoding") (codes "identity")) closes (static_field (codes "Accept-Encoding") (codes "identity") (omega arith) refl refl)
          (All-cons IsField (field (codes "Connection") (codes "close")) [] (static_field (codes "Connection") (codes "close") (omega arith) refl refl) (All-nil IsField))));
    }

-- what is served to it
served_get : (files : Files) (host text ask file : List ℕ) (name : Name) → files name ≡ Some file
    → server_response files (get_head host text ask) (Some name) ≡ part_response (ask_of (trim_ows (32 ∷ ask)) (length file)) file
unfolding request_head field
served_get files host text ask file name there = rw there refl

-- the target names the release
names : (host text ask : List ℕ) (name : Name) → IsName text name → IsNamedBy (get_head host text ask).target (Some name)
unfolding request_head
names host text ask name is = record { text = text; path = refl; is_name = is }

-- the head is within the limits
get_total : (a t b h c x e : List ℕ) → length t ≤ 115 → length h ≤ 255 → length x ≤ 50 → length a ≤ 100 → length b ≤ 100 → length c ≤ 100 → length e ≤ 1000
    → length (a ++ (t ++ (b ++ (h ++ (c ++ (x ++ e)))))) ≤ 8192
get_total a t b h c x e lt lh lx la lb lc le = simp length-append (omega arith)

ask_short : (first last : ℕ) → first < 2 ^ 64 → last < 2 ^ 64 → length (ask_text first last) ≤ 50
ask_short first last a b =
    let x : length (decimal first) ≤ 20 = decimal_short first a in
    let y : length (decimal last) ≤ 20 = decimal_short last b in
    simp length-append (omega arith)

last_text : List ℕ
last_text = 13 ∷ 10 ∷ (codes "Accept-Encoding: identity" ++ (13 ∷ 10 ∷ (codes "Connection: close" ++ (13 ∷ 10 ∷ 13 ∷ 10 ∷ []))))

host_text : List ℕ
host_text = codes " HTTP/1.1" ++ (13 ∷ 10 ∷ codes "Host: ")

range_text : List ℕ
range_text = 13 ∷ 10 ∷ codes "Range: "

get_short : (host text : List ℕ) (name : Name) (first last : ℕ) → IsTrue (is_host host) → IsName text name → first < 2 ^ 64 → last < 2 ^ 64
    → length (print_request (get_head host text (ask_text first last))) ≤ 8192
unfolding last_text host_text range_text
get_short host text name first last is_valid is a b =
    let pieces : print_request (get_head host text (ask_text first last)) ≡ codes "GET /" ++ (text ++ (host_text ++ (host ++ (range_text ++
    (ask_text first last ++ last_text))))) = get_printed host text first last in
    rw pieces (get_total (codes "GET /") text host_text host range_text (ask_text first last) last_text (name_short text name is) (host_parts host is_valid).0 (ask_short first last a b)
    (lit≤ tt) (lit≤ tt) (lit≤ tt) (lit≤ tt))

few_fields : (host text ask : List ℕ) → length (get_head host text ask).fields ≤ 64
unfolding request_head
few_fields host text ask = lit≤ tt

get_begins : (host text : List ℕ) (name : Name) (first last : ℕ) → IsTrue (is_host host) → IsName text name → first < 2 ^ 64 → last < 2 ^ 64
    → BeginsWithHead 8192 64 (get_text host text first last) (get_head host text (ask_text first last))
get_begins host text name first last is_valid is a b = record {
  rest = [];
  reads = (
    get_valid host text (ask_text first last) name is_valid is (ask_passes first last a b),
    sym (get_printed host text first last) ∙ sym (append-nil (print_request (get_head host text (ask_text first last)))),
  );
  short = get_short host text name first last is_valid is a b;
  few = few_fields host text (ask_text first last);
}

ask_trimmed : (first last : ℕ) → last < 2 ^ 64 → trim_ows (32 ∷ ask_text first last) ≡ ask_text first last
ask_trimmed first last small = trimmed (codes "bytes=" ++ decimal first ++ codes "-") (decimal last) refl (decimal_digits last small) (decimal_some last small)

-- what is asked for, served and read back is the slice
pub fetch_gives_slice : FetchGivesSlice
fetch_gives_slice files host name file first last is_valid is there ordered small inside size_small few =
    let text : List ℕ = text_of name in
    let ask : List ℕ = ask_text first last in
    let size : ℕ = length file in
    let end : ℕ = min last (length file - 1) in
    let low : first < 2 ^ 64 = omega arith in
    let asked : ask_of (trim_ows (32 ∷ ask)) size ≡ Part first end = ap (λ v. ask_of v (length file)) (ask_trimmed first last small)
    ∙ ask_of-ask_text first last (length file) ordered small inside in
    let reply : server_response files (get_head host text ask) (Some name) ≡ with_body (head.Part first end size) (slice_range file first (end + 1)) =
    served_get files host text ask file name there ∙ ap (λ a. part_response a file) asked in
    let after : first ≤ min last (length file - 1) = omega arith in
    let within : min last (length file - 1) < length file = omega arith in
    let long : length (slice_range file first (min last (length file - 1) + 1)) ≡ min last (length file - 1) - first + 1 =
    omega (arith, length-take (min last (length file - 1) + 1 - first) (drop first file), length-drop first file) in (
      get_head host text ask,
      get_begins host text name first last is_valid is low small,
      names host text ask name is,
      λ result read. part_reads_back first end size (slice_range file first (end + 1)) result after within size_small few long (rw reply at read),
    )

-- the same of a HEAD
abbrev head_pairs : List (List ℕ × List ℕ)
head_pairs = (codes "Accept-Encoding", codes "identity") ∷ (codes "Connection", codes "close") ∷ []

abbrev head_head : List ℕ → List ℕ → RequestHead
head_head host text = request_head (codes "HEAD") host text (fields_of head_pairs)

head_printed : (host text : List ℕ) → print_request (head_head host text) ≡ head_request_text host text
head_printed host text = request_printed (codes "HEAD") host text (fields_of head_pairs) ∙ ap (start_then (codes "HEAD") host text) (fields_text head_pairs (13 ∷ 10 ∷ []))

head_valid : (host text : List ℕ) (name : Name) → IsTrue (is_host host) → IsName text name → IsRequestHead (head_head host text)
unfolding httparse_on_literals request_head
head_valid host text name is_valid is =
    let bytes = name_passes text name is in
    let closes : List Field = field (codes "Connection") (codes "close") ∷ [] in
    let accepts : List Field = field (codes "Accept-Encoding") (codes "identity") ∷ field (codes "Connection") (codes "close") ∷ [] in
    record {
      method = (omega arith, AllPass-from_list_all is_token_byte (codes "HEAD") refl);
      target = (omega arith, All-cons (λ b. is_uri_byte b ≡ true) 47 text refl (All-weaker Passes (λ b. is_uri_byte b ≡ true) uri_byte text bytes));
      target_text = IsUtf8-from_ascii (47 ∷ text) (IsAscii-from_all (47 ∷ text) (All-cons (λ b. b < 128) 47 text (omega arith) (All-weaker Passes (λ b. b < 128) small_byte text bytes)));
      minor = omega arith;
      fields =
          All-cons IsField (field (codes "Host") host) accepts (number_field (codes "Host") host (omega arith) refl (host_parts host is_valid).1)
          (All-cons IsField (field (codes "Accept-Encoding") (codes "identity")) closes (static_field (codes "Accept-Encoding") (codes "identity") (omega arith) refl refl)
          (All-cons IsField (field (codes "Connection") (codes "close")) [] (static_field (codes "Connection") (codes "close") (omega arith) refl refl) (All-nil IsField)));
    }

head_short : (host text : List ℕ) (name : Name) → IsTrue (is_host host) → IsName text name → length (print_request (head_head host text)) ≤ 8192
unfolding last_text host_text
head_short host text name is_valid is =
    let pieces : print_request (head_head host text) ≡ codes "HEAD /" ++ (text ++ (host_text ++ (host ++ ([] ++ ([] ++ last_text))))) = head_printed host text in
    rw pieces (get_total (codes "HEAD /") text host_text host [] [] last_text (name_short text name is) (host_parts host is_valid).0 (lit≤ tt) (lit≤ tt) (lit≤ tt) (lit≤ tt) (lit≤ tt))

head_fields : (host text : List ℕ) → length (head_head host text).fields ≤ 64
unfolding request_head
head_fields host text = lit≤ tt

head_names : (host text : List ℕ) (name : Name) → IsName text name → IsNamedBy (head_head host text).target (Some name)
unfolding request_head
head_names host text name is = record { text = text; path = refl; is_name = is }

served_head : (files : Files) (host text file : List ℕ) (name : Name) → files name ≡ Some file → server_response files (head_head host text) (Some name) ≡ head_alone (head.Whole (length file))
unfolding request_head field
served_head files host text file name there = rw there refl

-- what a HEAD asks for is the length
pub head_gives_size : HeadGivesSize
head_gives_size files host name file is_valid is there small =
    let text : List ℕ = text_of name in
    let begins : BeginsWithHead 8192 64 (head_request_text host text) (head_head host text) = record {
      rest = [];
      reads = (head_valid host text name is_valid is, sym (head_printed host text) ∙ sym (append-nil (print_request (head_head host text))));
      short = head_short host text name is_valid is;
      few = head_fields host text;
    } in (
      head_head host text,
      begins,
      head_names host text name is,
      λ result read. size_reads_back (length file) result small (rw (served_head files host text file name there) at read),
    )
