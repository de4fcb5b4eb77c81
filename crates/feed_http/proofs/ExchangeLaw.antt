-- The law over both ends: what is asked for, served and read back.
use Rattle.std.proofs.Common.{◌≡◌, ◌≤◌, ◌<◌, ◌+◌, ◌-◌, ◌^◌, ℕ, List, [], ◌∷◌, ◌++◌, length, take, All}
use Rattle.std.proofs.Common.{codes, Some, Result, Ok, Err, true, false, refl, sym, ap, arith, ◌∙◌, append_assoc, subst, inl}
use Rattle.std.proofs.Common.{inr, reverse, lit≤}
use Rattle.std.specs.List.{list_all, flat_map}
use Rattle.std.specs.Char.{is_ascii_digit}
use Rattle.std.specs.Fmt.{decimal}
use Rattle.std.proofs.lemmas.Fmt.{decimal_is_IsNumeral, length-decimal-le}
use Rattle.std.proofs.lemmas.Bool.{false≢true}
use Rattle.std.proofs.lemmas.List.{append-nil, length-append, reverse-append, length-reverse, take_all}
use Rattle.std.proofs.lemmas.Bool.Decides.{nat_tests}
use Rattle.std.proofs.lemmas.List.Sums.{AllPass-from_list_all, list_all-from_AllPass}
use Rattle.httparse.specs.Grammar.{AllPass, ResponseHead, ReadsResponse, IsResponseHead, print_response, Field, IsField, crlf, print_field, trim_ows, skip_ows, is_ows, is_value_byte, is_token_byte}
use Rattle.httparse.proofs.OnLiterals.{httparse_on_literals}
use Rattle.httparse.proofs.TrimLemmas.{trim_ows_space, AllPass-reverse}
use Rattle.httparse.proofs.GrammarLemmas.{response_unique, ReadsResponse-append}
use Rattle.feed_range.specs.Content.{content_range}
use Rattle.feed_range.specs.declared.content.ContentRange.TheVariants as range
use Rattle.feed_range.proofs.Laws.{content_range-text}
use Rattle.feed_http.specs.Responses.{head_text, head_of, line}
use Rattle.feed_http_heads.specs.declared.http_fault.HttpFault.{HttpFault}
use Rattle.feed_http_heads.specs.declared.http_fault.HttpFault.TheVariants.{Read, Memory, Length, Short, HeadTooLong, BadHead}
use Rattle.feed_http.specs.declared.fetching.got.Got.{Got}
use Rattle.feed_http.specs.declared.fetching.got.Got.TheVariants.{Piece, Size}
use Rattle.feed_http.specs.ServerResponses.{with_body, bytes_of_response, head_alone}
use Rattle.feed_http_heads.specs.ResponseHeads.{is_interim, print_heads, IsInterimHead, HasInterimAlone, IsWhyNoResponse}
use Rattle.feed_http.specs.Got.{IsGot, IsResultOf, IsAnnounced, IsHeadFailure}
use Rattle.feed_http_heads.proofs.BufferFilling.{take-behind}
use Rattle.feed_http.specs.Laws.{IsGiven, PartReadsBack, SizeReadsBack}
use Rattle.std.specs.Result.{result_ok}
use Rattle.feed_http.specs.declared.fetching.got.Method.{Method}
use Rattle.feed_http.specs.declared.fetching.got.Method.TheVariants.{Get, Head}
use Rattle.feed_http.specs.Announcements.{announcement_of, part_announcement, framing_by_length, stated_of, size_announcement}
use Rattle.feed_http.specs.declared.serving.response_head.ServerHead.TheVariants.{Part, Whole}
use Rattle.std.proofs.lemmas.List.Elements.{All-append, All-weaker, All-cons, All-nil}
use Rattle.feed_bytes.proofs.Digits.{digit_test, numerals, number_of-digits}
use Rattle.feed_bytes.specs.Split.{number_of}
use borrow.Author.Tests.{eq-eqb, lt-ltb, le-ltb, lt-leb}
use Rattle.feed_http.specs.declared.fetching.validation.Framing.TheVariants.{Sized}
use Rattle.feed_http.specs.declared.fetching.validation.Announcement.TheVariants as announcement

-- a field as both ends write it
unfoldable pub field : List ℕ → List ℕ → Field
field name value = record { name = name; raw = 32 ∷ value; end = crlf }

-- the decimal digits of a number
pub decimal_digits : (n : ℕ) → n < 2 ^ 64 → list_all is_ascii_digit (decimal n) ≡ true
decimal_digits n small = numerals.from (decimal n) (decimal_is_IsNumeral n small).0.1

pub decimal_some : (n : ℕ) → n < 2 ^ 64 → 0 < length (decimal n)
decimal_some n small = (decimal_is_IsNumeral n small).0.0

digit_visible : (d : ℕ) → (48 ≤ d) × (d ≤ 57) → is_ows d ≡ false
digit_visible d range = grind (arith, nat_tests)

-- a text that begins with a digit begins with no white space
visible_front : (ds more : List ℕ) → list_all is_ascii_digit ds ≡ true → 0 < length ds → skip_ows (ds ++ more) ≡ ds ++ more
visible_front [] more all some = absurd (omega arith)
visible_front (d ∷ ds) more all some =
    let parts = digit_test.parts d ds all in
    let visible : is_ows d ≡ false = digit_visible d parts.0 in
    rw visible refl

-- a text that ends in digits ends in no white space
visible_back : (xs ds : List ℕ) → list_all is_ascii_digit ds ≡ true → 0 < length ds → skip_ows (reverse (xs ++ ds)) ≡ reverse (xs ++ ds)
visible_back xs ds all some =
    let back : list_all is_ascii_digit (reverse ds) ≡ true = list_all-from_AllPass is_ascii_digit (reverse ds) (AllPass-reverse is_ascii_digit ds (AllPass-from_list_all is_ascii_digit ds all)) in
    let long : 0 < length (reverse ds) = omega (arith, length-reverse ds) in
    rw (reverse-append xs ds) (visible_front (reverse ds) (reverse xs) back long)

-- so the white space before it is all that is trimmed
pub trimmed : (front ds : List ℕ) → skip_ows (front ++ ds) ≡ front ++ ds → list_all is_ascii_digit ds ≡ true → 0 < length ds → trim_ows (32 ∷ (front ++ ds)) ≡ front ++ ds
trimmed front ds begins all some = trim_ows_space (front ++ ds) begins (visible_back front ds all some)

-- the head of the response with a part, with these values of Content-Range and Content-Length
part_fields : List ℕ → List ℕ → List Field
part_fields places count =
    field (codes "Content-Type") (codes "application/octet-stream") ∷ field (codes "Accept-Ranges") (codes "bytes")
    ∷ field (codes "Content-Range") places ∷ field (codes "Content-Length") count ∷ field (codes "Connection") (codes "close") ∷ []

part_head : List ℕ → List ℕ → ResponseHead
part_head places count = record { blank = []; minor = 1; digits = codes "206"; reason = Some (codes "Partial Content"); line_end = crlf; fields = part_fields places count; last = crlf }

abbrev part_lines : List (List ℕ) → List ℕ → List (List (List ℕ))
part_lines places count =
    line (codes "HTTP/1.1 206 Partial Content") ∷ line (codes "Content-Type: application/octet-stream") ∷ line (codes "Accept-Ranges: bytes")
    ∷ places ∷ (codes "Content-Length: " ∷ count ∷ []) ∷ line (codes "Connection: close") ∷ []

-- fields as their lines
abbrev pub lines_of : List (List ℕ × List ℕ) → List ℕ → List ℕ
lines_of [] rest = rest
lines_of (p ∷ ps) rest = p.0 ++ (58 ∷ 32 ∷ (p.1 ++ (13 ∷ 10 ∷ lines_of ps rest)))

abbrev pub fields_of : List (List ℕ × List ℕ) → List Field
fields_of [] = []
fields_of (p ∷ ps) = field p.0 p.1 ∷ fields_of ps

field_then : (name value rest : List ℕ) → print_field (field name value) ++ rest ≡ name ++ (58 ∷ 32 ∷ (value ++ (13 ∷ 10 ∷ rest)))
unfolding field
field_then name value rest = simp append_assoc refl

pub fields_text : (ps : List (List ℕ × List ℕ)) (rest : List ℕ) → flat_map print_field (fields_of ps) ++ rest ≡ lines_of ps rest
fields_text [] rest = refl
fields_text (p ∷ ps) rest = append_assoc (print_field (field p.0 p.1)) (flat_map print_field (fields_of ps)) rest
    ∙ ap (λ t. print_field (field p.0 p.1) ++ t) (fields_text ps rest) ∙ field_then p.0 p.1 (lines_of ps rest)

abbrev part_pairs : List ℕ → List ℕ → List (List ℕ × List ℕ)
part_pairs places count = (codes "Content-Type", codes "application/octet-stream") ∷ (codes "Accept-Ranges", codes "bytes") ∷ (codes "Content-Range", places) ∷
    (codes "Content-Length", count) ∷
    (codes "Connection", codes "close") ∷ []

part_printed : (places count : List ℕ) → print_response (part_head places count) ≡ head_of (part_lines (codes "Content-Range: " ∷ places ∷ []) count)
unfolding print_response part_head part_fields
part_printed places count = ap (λ t. codes "HTTP/1.1 206 Partial Content" ++ (13 ∷ 10 ∷ t)) (fields_text (part_pairs places count) (13 ∷ 10 ∷ []))

abbrev range_value : List ℕ → List ℕ → List ℕ → List ℕ
range_value first last size = codes "bytes " ++ first ++ codes "-" ++ last ++ codes "/" ++ size

range_split : (first last size rest : List ℕ) → range_value first last size ++ rest ≡ codes "bytes " ++ (first ++ (codes "-" ++ (last ++ (codes "/" ++ (size ++ rest)))))
range_split first last size rest = simp append_assoc refl

range_line : (first last size count : List ℕ) → head_of (part_lines (codes "Content-Range: " ∷ range_value first last size ∷ []) count)
    ≡ head_of (part_lines (codes "Content-Range: bytes " ∷ first ∷ codes "-" ∷ last ∷ codes "/" ∷ size ∷ []) count)
range_line first last size count = ap (λ t. codes "HTTP/1.1 206 Partial Content" ++ (13 ∷ 10 ∷ (codes "Content-Type: application/octet-stream" ++ (13 ∷ 10 ∷ (codes "Accept-Ranges: bytes" ++
    (13 ∷ 10 ∷ (codes "Content-Range: " ++ t))))))) (range_split first last size _)

-- the response's head is the text of that head
abbrev response_head : ℕ → ℕ → ℕ → ResponseHead
response_head first last size = part_head (range_value (decimal first) (decimal last) (decimal size)) (decimal (last - first + 1))

response_printed : (first last size : ℕ) → print_response (response_head first last size) ≡ head_text (Part first last size)
response_printed first last size =
    part_printed (range_value (decimal first) (decimal last) (decimal size)) (decimal (last - first + 1)) ∙ range_line (decimal first) (decimal last) (decimal size) (decimal (last - first + 1))

-- digits may appear in a value
pub digits_pass : (n : ℕ) → n < 2 ^ 64 → AllPass is_value_byte (decimal n)
digits_pass n small = All-weaker (λ b. is_ascii_digit b ≡ true) (λ b. is_value_byte b ≡ true) digit_passes (decimal n) (AllPass-from_list_all is_ascii_digit (decimal n) (decimal_digits n small))
  where
    digit_passes : (b : ℕ) → is_ascii_digit b ≡ true → is_value_byte b ≡ true
    digit_passes b digit = grind (arith, nat_tests)

pub static_field : (name value : List ℕ) → 0 < length name → list_all is_token_byte name ≡ true → list_all is_value_byte (32 ∷ value) ≡ true → IsField (field name value)
unfolding field
static_field name value some token passes = record { name = (some, AllPass-from_list_all is_token_byte name token); raw = AllPass-from_list_all is_value_byte (32 ∷ value) passes }

pub number_field : (name value : List ℕ) → 0 < length name → list_all is_token_byte name ≡ true → AllPass is_value_byte value → IsField (field name value)
unfolding field
number_field name value some token passes = record {
  name = (some, AllPass-from_list_all is_token_byte name token);
  raw = All-append (λ b. is_value_byte b ≡ true) (32 ∷ []) value (AllPass-from_list_all is_value_byte (32 ∷ []) refl) passes;
}

range_passes : (first last size : ℕ) → first < 2 ^ 64 → last < 2 ^ 64 → size < 2 ^ 64 → AllPass is_value_byte (range_value (decimal first) (decimal last) (decimal size))
range_passes first last size a b c =
    let P : ℕ → Type 0 = λ byte. is_value_byte byte ≡ true in
    let lit : (text : List ℕ) → list_all is_value_byte text ≡ true → AllPass is_value_byte text = AllPass-from_list_all is_value_byte in
    let front = All-append P (codes "bytes ") (decimal first) (lit (codes "bytes ") refl) (digits_pass first a) in
    let dashed = All-append P (codes "bytes " ++ decimal first) (codes "-") front (lit (codes "-") refl) in
    let places = All-append P (codes "bytes " ++ decimal first ++ codes "-") (decimal last) dashed (digits_pass last b) in
    let slashed = All-append P (codes "bytes " ++ decimal first ++ codes "-" ++ decimal last) (codes "/") places (lit (codes "/") refl) in
    All-append P (codes "bytes " ++ decimal first ++ codes "-" ++ decimal last ++ codes "/") (decimal size) slashed (digits_pass size c)

fields_valid : (places count : List ℕ) → AllPass is_value_byte places → AllPass is_value_byte count → All IsField (part_fields places count)
unfolding part_fields httparse_on_literals
fields_valid places count p c =
    let close : List Field = field (codes "Connection") (codes "close") ∷ [] in
    let counted : List Field = field (codes "Content-Length") count ∷ field (codes "Connection") (codes "close") ∷ [] in
    let ranged : List Field = field (codes "Content-Range") places ∷ field (codes "Content-Length") count ∷ field (codes "Connection") (codes "close") ∷ [] in
    let accepts : List Field = field (codes "Accept-Ranges") (codes "bytes") ∷ field (codes "Content-Range") places ∷ field (codes "Content-Length") count ∷ field (codes "Connection")
    (codes "close") ∷ [] in
    All-cons IsField (field (codes "Content-Type") (codes "application/octet-stream")) accepts (static_field (codes "Content-Type") (codes "application/octet-stream") (omega arith) refl refl)
    (All-cons IsField (field (codes "Accept-Ranges") (codes "bytes")) ranged (static_field (codes "Accept-Ranges") (codes "bytes") (omega arith) refl refl)
    (All-cons IsField (field (codes "Content-Range") places) counted (number_field (codes "Content-Range") places (omega arith) refl p)
    (All-cons IsField (field (codes "Content-Length") count) close (number_field (codes "Content-Length") count (omega arith) refl c)
    (All-cons IsField (field (codes "Connection") (codes "close")) [] (static_field (codes "Connection") (codes "close") (omega arith) refl refl) (All-nil IsField)))))

head_valid : (places count : List ℕ) → AllPass is_value_byte places → AllPass is_value_byte count → IsResponseHead (part_head places count)
unfolding part_head
head_valid places count p c = record {
  minor = omega arith;
  digits = (refl, AllPass-from_list_all is_ascii_digit (codes "206") refl);
  reason = AllPass-from_list_all is_value_byte (codes "Partial Content") refl;
  fields = fields_valid places count p c;
}

-- what the head says
part_announcement_of : (places count : List ℕ) → announcement_of Get (part_head places count) ≡ part_announcement (result_ok (content_range (trim_ows (32 ∷ places))))
    (framing_by_length (stated_of (trim_ows
    (32 ∷ count) ∷ [])))
unfolding part_head part_fields field
part_announcement_of places count = refl

-- what the values write
range_trimmed : (first last size : ℕ) → size < 2 ^ 64 → trim_ows (32 ∷ range_value (decimal first) (decimal last) (decimal size)) ≡ range_value (decimal first) (decimal last) (decimal size)
range_trimmed first last size small = trimmed (codes "bytes " ++ decimal first ++ codes "-" ++ decimal last ++ codes "/") (decimal size) refl (decimal_digits size small) (decimal_some size small)

count_trimmed : (n : ℕ) → n < 2 ^ 64 → trim_ows (32 ∷ decimal n) ≡ decimal n
count_trimmed n small = trimmed [] (decimal n) (ap skip_ows (sym (append-nil (decimal n))) ∙ visible_front (decimal n) [] (decimal_digits n small) (decimal_some n small)
    ∙ append-nil (decimal n)) (decimal_digits n small) (decimal_some n small)

range_says : (first last size : ℕ) → first ≤ last → last < size → size < 2 ^ 64
    → content_range (range_value (decimal first) (decimal last) (decimal size)) ≡ Ok (range.Part first last (Some size))
range_says first last size ordered inside small =
    content_range-text (range.Part first last (Some size)) (omega arith, omega arith, small)
    ∙ rw (le-ltb last first ordered, lt-leb size last inside) refl

length_says : (n : ℕ) → n < 2 ^ 64 → stated_of (decimal n ∷ []) ≡ Ok (Some n)
length_says n small =
    let number : number_of (decimal n) ≡ Some n = number_of-digits (decimal n) (decimal_digits n small) (decimal_some n small) ∙ ap (λ k. Some k) (decimal_is_IsNumeral n small).1 in
    rw (number, lt-ltb n (2 ^ 64) small, eq-eqb n n refl) refl

head_says : (first last size : ℕ) → first ≤ last → last < size → size < 2 ^ 64 → last - first + 1 ≤ 1048576
    → announcement_of Get (response_head first last size) ≡ Ok (announcement.Part first (Some size) (last - first + 1) (Sized (last - first + 1)))
head_says first last size ordered inside small few =
    let fits : last - first + 1 < 2 ^ 64 = omega arith in
    part_announcement_of (range_value (decimal first) (decimal last) (decimal size)) (decimal (last - first + 1))
    ∙ rw (
      range_trimmed first last size small,
      range_says first last size ordered inside small,
      count_trimmed (last - first + 1) fits,
      length_says (last - first + 1) fits,
      le-ltb 1048576
          (last - first + 1) few,
      eq-eqb (last - first + 1) (last - first + 1) refl,
    ) refl

-- the head is within the limits
total : (a x b y c z d w e : List ℕ) → length x ≤ 20 → length y ≤ 20 → length z ≤ 20 → length w ≤ 20 → length a ≤ 4000 → length b ≤ 100 → length c ≤ 100
    → length d ≤ 100 → length e ≤ 100 → length (a ++ (x ++ (b ++ (y ++ (c ++ (z ++ (d ++ (w ++ e)))))))) ≤ 8192
total a x b y c z d w e lx ly lz lw la lb lc ld le = simp length-append (omega arith)

pub decimal_short : (n : ℕ) → n < 2 ^ 64 → length (decimal n) ≤ 20
decimal_short n small = length-decimal-le 20 n (omega arith) (omega arith) small

start_lines : List ℕ
start_lines = codes "HTTP/1.1 206 Partial Content" ++ (13 ∷ 10 ∷ (codes "Content-Type: application/octet-stream" ++ (13 ∷ 10 ∷ (codes "Accept-Ranges: bytes" ++
    (13 ∷ 10 ∷ codes "Content-Range: bytes ")))))

length_line : List ℕ
length_line = 13 ∷ 10 ∷ codes "Content-Length: "

close_line : List ℕ
close_line = 13 ∷ 10 ∷ (codes "Connection: close" ++ (13 ∷ 10 ∷ 13 ∷ 10 ∷ []))

head_short : (first last size : ℕ) → first ≤ last → last < size → size < 2 ^ 64 → length (print_response (response_head first last size)) ≤ 8192
unfolding start_lines length_line close_line
head_short first last size ordered inside small =
    let pieces : print_response (response_head first last size) ≡ start_lines ++ (decimal first ++ (codes "-" ++ (decimal last ++ (codes "/" ++ (decimal size ++ (length_line ++ (decimal
    (last - first + 1) ++ close_line))))))) = response_printed first last size in
    rw pieces (total start_lines (decimal first) (codes "-") (decimal last) (codes "/") (decimal size) length_line (decimal (last - first + 1)) close_line
    (decimal_short first (omega arith)) (decimal_short last (omega arith)) (decimal_short size small) (decimal_short (last - first + 1) (omega arith)) (lit≤ tt) (lit≤ tt) (lit≤ tt) (lit≤ tt)
    (lit≤ tt))

-- the response begins with this head
response_reads : (first last size : ℕ) (body : List ℕ) → first ≤ last → last < size → size < 2 ^ 64
    → ReadsResponse (bytes_of_response (with_body (Part first last size) body)) (response_head first last size) body
response_reads first last size body ordered inside small =
    let fits : last - first + 1 < 2 ^ 64 = omega arith in (
      head_valid (range_value (decimal first) (decimal last) (decimal size)) (decimal (last - first + 1)) (range_passes first last size (omega arith) (omega arith) small) (digits_pass
          (last - first + 1) fits),
      ap (λ t. t ++ body) (sym (response_printed first last size)),
    )

not_interim : (places count : List ℕ) → is_interim (part_head places count) ≡ false
unfolding part_head
not_interim places count = refl

-- behind no interim head
no_interim : (text : List ℕ) (h : ResponseHead) (body rest : List ℕ) (interim : List ResponseHead) → ReadsResponse text h body → is_interim h ≡ false → All (IsInterimHead 64) interim
    → text ≡ print_heads interim ++ rest → interim ≡ []
no_interim text h body rest [] reads other skipped e = refl
no_interim text h body rest (i ∷ more) reads other skipped e =
    let one : IsInterimHead 64 i = skipped 0 i (omega arith) in
    let same : i ≡ h = (response_unique text i h (print_heads more ++ rest) body (one.valid, e ∙ append_assoc (print_response i) (print_heads more) rest) reads).0 in
    absurd (false≢true (sym other ∙ ap is_interim (sym same) ∙ one.interim))

-- a piece is all of the body
piece_given : (first size count : ℕ) (body : List ℕ) (result : Result Got HttpFault) → length body ≡ count → IsGot (announcement.Part first (Some size) count (Sized count)) body result
    → IsGiven (Piece first (Some size) body) result
piece_given first size count body (Ok given) long is = is.1 ∙ ap (λ b. Piece first (Some size) b) (is.2.1 ∙ take_all count body (omega arith))
piece_given first size count body (Err Read) long is = tt
piece_given first size count body (Err Memory) long is = tt
piece_given first size count body (Err Length) long (inl is) = absurd is
piece_given first size count body (Err Length) long (inr is) = absurd is
piece_given first size count body (Err Short) long is = absurd (omega arith)
piece_given first size count body (Err _) long is = absurd is

few_fields : (places count : List ℕ) → length (part_head places count).fields ≤ 64
unfolding part_head part_fields
few_fields places count = lit≤ tt

-- a head that fits is within this many bytes
reads_front : (bytes : ℕ) (text : List ℕ) (h : ResponseHead) (body : List ℕ) → ReadsResponse text h body → length (print_response h) ≤ bytes
    → ReadsResponse (take bytes text) h (take (bytes - length (print_response h)) body)
reads_front bytes text h body reads short =
    let whole : length (print_response h) + (bytes - length (print_response h)) ≡ bytes = omega arith in (
      reads.0,
      ap (take bytes) reads.1 ∙ ap (λ n. take n (print_response h ++ body)) (sym whole) ∙ take-behind (print_response h) body (length (print_response h)) (bytes - length
          (print_response h)) refl,
    )

-- a text that begins with a head within the limits is at no fault
why_not : (fault : HttpFault) (bytes : ℕ) (text : List ℕ) (h : ResponseHead) (body : List ℕ) → ReadsResponse text h body → length (print_response h) ≤ bytes → length h.fields ≤ 64
    → IsWhyNoResponse bytes 64 fault text → ⊥
why_not Short bytes text h body reads short few why = why.1.not_whole h body reads
why_not HeadTooLong bytes text h body reads short few why = why.1.not_whole h (take (bytes - length (print_response h)) body) (reads_front bytes text h body reads short)
why_not BadHead bytes text h body reads short few why = let front : List ℕ = take (bytes - length (print_response h)) body in
    why [] h (front ++ []) (ReadsResponse-append (take bytes text) h front [] (reads_front bytes text h body reads short)) few
why_not _ bytes text h body reads short few why = why

-- the heads of a text that begins with a head within the limits do not fail
no_failure : (text : List ℕ) (h : ResponseHead) (body : List ℕ) (fault : HttpFault) → ReadsResponse text h body → is_interim h ≡ false → length (print_response h) ≤ 8192
    → length h.fields ≤ 64 → HasInterimAlone 8192 64 text fault → ⊥
no_failure text h body fault reads other short few failed =
    let none : failed.interim ≡ [] = no_interim text h body failed.rest failed.interim reads other failed.skipped failed.text_is in
    let rest : text ≡ failed.rest = failed.text_is ∙ ap (λ i. print_heads i ++ failed.rest) none in
    let R : List ℕ → Type 0 = λ t. ReadsResponse t h body in
    why_not fault (8192 - length (print_heads failed.interim)) failed.rest h body (subst R rest reads) (rw none short) few failed.why

failed_or_given : (text : List ℕ) (h : ResponseHead) (body : List ℕ) (wanted : Got) (result : Result Got HttpFault) → ReadsResponse text h body → is_interim h ≡ false
    → length (print_response h) ≤ 8192 → length h.fields ≤ 64
    → IsHeadFailure text result → IsGiven wanted result
failed_or_given text h body wanted (Ok given) reads other short few failed = absurd failed
failed_or_given text h body wanted (Err Read) reads other short few failed = tt
failed_or_given text h body wanted (Err Memory) reads other short few failed = tt
failed_or_given text h body wanted (Err Short) reads other short few failed = absurd (no_failure text h body Short reads other short few failed)
failed_or_given text h body wanted (Err HeadTooLong) reads other short few failed = absurd (no_failure text h body HeadTooLong reads other short few failed)
failed_or_given text h body wanted (Err BadHead) reads other short few failed = absurd (no_failure text h body BadHead reads other short few failed)
failed_or_given text h body wanted (Err _) reads other short few failed = absurd failed.why

-- what is given of the one head that a text begins with is given of the text
pub one_response : (method : Method) (text : List ℕ) (h : ResponseHead) (body : List ℕ) (wanted : Got) (result : Result Got HttpFault) → ReadsResponse text h body → is_interim h ≡ false
    → length (print_response h) ≤ 8192 → length h.fields ≤ 64
    → (IsAnnounced (announcement_of method h) body result → IsGiven wanted result) → IsResultOf method text result → IsGiven wanted result
one_response method text h body wanted result reads other short few gives (inr failed) = failed_or_given text h body wanted result reads other short few failed
one_response method text h body wanted result reads other short few gives (inl got) =
    let split : text ≡ print_heads got.interim ++ (print_response got.head ++ got.rest) = got.begins.text_is ∙ append_assoc (print_heads got.interim) (print_response got.head) got.rest in
    let none : got.interim ≡ [] = no_interim text h body (print_response got.head ++ got.rest) got.interim reads other got.begins.skipped split in
    let alone : text ≡ print_response got.head ++ got.rest = split ∙ ap (λ i. print_heads i ++ (print_response got.head ++ got.rest)) none in
    let same = response_unique text got.head h got.rest body (got.begins.valid, alone) reads in
    gives (rw (same.0, same.1) at got.is)

-- what a GET gives of the response with a part
pub part_reads_back : PartReadsBack
part_reads_back first last size body result ordered inside small few long =
    one_response Get (bytes_of_response (with_body (Part first last size) body)) (response_head first last size) body (Piece first (Some size) body) result
    (response_reads first last size body ordered inside small)
    (not_interim _ _)
    (head_short first last size ordered inside small) (few_fields _ _)
    (λ is. piece_given first size (last - first + 1) body result long (rw (head_says first last size ordered inside small few) at is))

-- the head of the response to a HEAD
abbrev size_pairs : List ℕ → List (List ℕ × List ℕ)
size_pairs count = (codes "Content-Type", codes "application/octet-stream") ∷ (codes "Accept-Ranges", codes "bytes") ∷ (codes "Content-Length", count) ∷
    (codes "Connection", codes "close") ∷ []

size_head : List ℕ → ResponseHead
size_head count = record { blank = []; minor = 1; digits = codes "200"; reason = Some (codes "OK"); line_end = crlf; fields = fields_of (size_pairs count); last = crlf }

size_printed : (n : ℕ) → print_response (size_head (decimal n)) ≡ head_text (Whole n)
unfolding print_response size_head
size_printed n = ap (λ t. codes "HTTP/1.1 200 OK" ++ (13 ∷ 10 ∷ t)) (fields_text (size_pairs (decimal n)) (13 ∷ 10 ∷ []))

size_valid : (count : List ℕ) → AllPass is_value_byte count → IsResponseHead (size_head count)
unfolding size_head httparse_on_literals
size_valid count c =
    let close : List Field = field (codes "Connection") (codes "close") ∷ [] in
    let counted : List Field = field (codes "Content-Length") count ∷ field (codes "Connection") (codes "close") ∷ [] in
    let accepts : List Field = field (codes "Accept-Ranges") (codes "bytes") ∷ field (codes "Content-Length") count ∷ field (codes "Connection") (codes "close") ∷ [] in
    record {
      minor = omega arith;
      digits = (refl, AllPass-from_list_all is_ascii_digit (codes "200") refl);
      reason = AllPass-from_list_all is_value_byte (codes "OK") refl;
      fields =
          All-cons IsField (field (codes "Content-Type") (codes "application/octet-stream")) accepts (static_field (codes "Content-Type") (codes "application/octet-stream") (omega arith) refl refl)
          (All-cons IsField (field (codes "Accept-Ranges") (codes "bytes")) counted (static_field (codes "Accept-Ranges") (codes "bytes") (omega arith) refl refl)
          (All-cons IsField (field (codes "Content-Length") count) close (number_field (codes "Content-Length") count (omega arith) refl c)
          (All-cons IsField (field (codes "Connection") (codes "close")) [] (static_field (codes "Connection") (codes "close") (omega arith) refl refl) (All-nil IsField))));
    }

size_announcement_of : (count : List ℕ) → announcement_of Head (size_head count) ≡ size_announcement (stated_of (trim_ows (32 ∷ count) ∷ []))
unfolding size_head field
size_announcement_of count = refl

size_interim : (count : List ℕ) → is_interim (size_head count) ≡ false
unfolding size_head
size_interim count = refl

size_fields : (count : List ℕ) → length (size_head count).fields ≤ 64
unfolding size_head
size_fields count = lit≤ tt

size_total : (a x e : List ℕ) → length x ≤ 20 → length a ≤ 4000 → length e ≤ 100 → length (a ++ (x ++ e)) ≤ 8192
size_total a x e lx la le = simp length-append (omega arith)

size_start : List ℕ
size_start = codes "HTTP/1.1 200 OK" ++ (13 ∷ 10 ∷ (codes "Content-Type: application/octet-stream" ++ (13 ∷ 10 ∷ (codes "Accept-Ranges: bytes" ++ (13 ∷ 10 ∷ codes "Content-Length: ")))))

size_short : (n : ℕ) → n < 2 ^ 64 → length (print_response (size_head (decimal n))) ≤ 8192
unfolding size_start close_line
size_short n small =
    let pieces : print_response (size_head (decimal n)) ≡ size_start ++ (decimal n ++ close_line) = size_printed n in
    rw pieces (size_total size_start (decimal n) close_line (decimal_short n small) (lit≤ tt) (lit≤ tt))

size_given : (n : ℕ) (result : Result Got HttpFault) → result ≡ Ok (Size n) → IsGiven (Size n) result
size_given n result is = rw is refl

-- what a HEAD gives of the response with its fields alone
pub size_reads_back : SizeReadsBack
size_reads_back n result small =
    one_response Head (bytes_of_response (head_alone (Whole n))) (size_head (decimal n)) [] (Size n) result
    (size_valid (decimal n) (digits_pass n small), ap (λ t. t ++ []) (sym (size_printed n))) (size_interim (decimal n)) (size_short n small) (size_fields (decimal n))
    (λ is. size_given n result (rw (size_announcement_of (decimal n), count_trimmed n small, length_says n small) at is))
