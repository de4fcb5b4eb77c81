-- The answers on serials are those from before books were read.
use Rattle.std.proofs.Common.{◌≡◌, ◌+◌, ℕ, Bool, true, false, ◌&&◌, ◌||◌, List, [], ◌∷◌, length, Option, Some, None, Ok, Err, option_map, if◌then◌else◌, codes, refl, sym, ap, ◌∙◌}
use Rattle.std.specs.Prelude.{is_none, nat_lt}
use Rattle.std.specs.Option.{option_and_then}
use Rattle.std.specs.List.{cons_option, enumerate_from, filter, filter_map, list_any}
use Rattle.std.specs.Str.{bytes_eq, str_eq_ignore_ascii_case}
use Rattle.std.specs.Cmp.Lexicographic.{bytes_decides}
use Rattle.form_urlencoded.specs.Form as form
use Rattle.feed_bytes.specs.Trim.{trimmed}
use Rattle.feed_kbart.specs.Columns.{columns_of, field_of}
use Rattle.feed_identifiers.specs.Identifier.{issn_in}
use Rattle.feed_identifiers.specs.Issn.{issn_of}
use Rattle.feed_identifiers.specs.declared.identifier.Identifier.TheVariants.{Issn}
use Rattle.feed_kbart.specs.Coverage.{coverage_as, reason_as}
use Rattle.feed_kbart.specs.declared.identifiers.Kind.TheVariants.{Serial, Book}
use Rattle.feed_kbart.specs.Files.{holdings_in, holdings_of}
use Rattle.feed_kbart.specs.Holdings.{holdings_from, row_at}
use Rattle.feed_text.specs.Records.{records_of}
use Rattle.feed_kbart.specs.Rows.{texts_of}
use Rattle.feed_kbart.specs.RowValue.{RowValue, row_with}
use Rattle.feed_kbart.specs.declared.label.Label.TheVariants.{OnlineIdentifier, PrintIdentifier, PublicationType}
use Rattle.feed_answer.specs.Answers.{answer_of, hit_by}
use Rattle.feed_answer.specs.Grades.{grade_as, grade_of}
use Rattle.feed_answer.specs.HitValue.{HitValue}
use Rattle.feed_answer.specs.Limits.{query_limit}
use Rattle.feed_answer.specs.Pairs.{book_format, first_days, first_volume, has_key, is_empty, is_other_format, is_other_version, issns_among, has_format}
use Rattle.feed_answer.specs.Queries.{query_of_pairs, query_isbns, query_of, has_journal_format}
use Rattle.feed_answer.specs.QueryValue.{QueryValue, is_named}
use Rattle.feed_answer.specs.Serials.{SerialAnswersAreUnchanged, SerialQuery, is_listed, is_other_than_journal, is_serial_hit, is_serial_type, serial_answer_of}
use Rattle.feed_answer.specs.Serials.{serial_hit_by, serial_query_by, serial_query_of, serial_row_at, serial_rows_in}
use Rattle.feed_answer.specs.declared.fault.QueryFault.TheVariants.{TooLong}
use Rattle.feed_answer.specs.declared.grade.Grade.{Grade}
use Rattle.feed_answer.proofs.Asked.{issn_among}

-- what a query asks for that asked for serials
abbrev with_isbns : SerialQuery → List (List ℕ) → QueryValue
with_isbns old isbns = record { issns = old.issns; isbns = isbns; days = old.days; volume = old.volume }

-- a hit of a row with a grade, if there is one
abbrev graded : RowValue → Option Grade → Option HitValue
graded row grade = option_map (λ g. record { row = row; grade = g }) grade

-- the hit of a record is kept exactly if it had one
abbrev IsKept : SerialQuery → QueryValue → Option RowValue → Option RowValue → Type 0
IsKept old new now before = (hits : List HitValue)
    → filter is_serial_hit (cons_option (option_and_then (hit_by new) now) hits)
    ≡ cons_option (option_and_then (serial_hit_by old) before) (filter is_serial_hit hits)

serial_kept : (header : List (List ℕ)) (number : ℕ) (fields : List (List ℕ)) (grade : Option Grade) (hits : List HitValue)
    → let row = row_with number (coverage_as Serial (columns_of header) fields) (texts_of (columns_of header) fields) in
    filter is_serial_hit (cons_option (graded row grade) hits) ≡ cons_option (graded row grade) (filter is_serial_hit hits)
serial_kept header number fields None hits = refl
serial_kept header number fields (Some grade) hits = refl

book_dropped : (header : List (List ℕ)) (number : ℕ) (fields : List (List ℕ)) (grade : Option Grade) (hits : List HitValue)
    → let row = row_with number (coverage_as Book (columns_of header) fields) (texts_of (columns_of header) fields) in
    filter is_serial_hit (cons_option (graded row grade) hits) ≡ filter is_serial_hit hits
book_dropped header number fields None hits = refl
book_dropped header number fields (Some grade) hits = refl

-- an ISSN is asked for exactly if it was
named_listed : (old : SerialQuery) (isbns : List (List ℕ)) (issn : Option (List ℕ))
    → is_named (with_isbns old isbns) (option_map Issn issn) ≡ is_listed (option_and_then issn_in (option_map Issn issn)) old.issns
named_listed old isbns None = refl
named_listed old isbns (Some issn) = sym (issn_among issn old.issns isbns)

has_listed : (old : SerialQuery) (isbns : List (List ℕ)) (print online : List ℕ)
    → (is_named (with_isbns old isbns) (option_map Issn (issn_of print)) || is_named (with_isbns old isbns) (option_map Issn (issn_of online)))
    ≡ (is_listed (option_and_then issn_in (option_map Issn (issn_of print))) old.issns || is_listed (option_and_then issn_in (option_map Issn (issn_of online))) old.issns)
has_listed old isbns print online =
    ap (λ b. b || is_named (with_isbns old isbns) (option_map Issn (issn_of online))) (named_listed old isbns (issn_of print))
    ∙ ap (λ b. is_listed (option_and_then issn_in (option_map Issn (issn_of print))) old.issns || b) (named_listed old isbns (issn_of online))

abbrev is_monograph : List ℕ → Bool
is_monograph text = str_eq_ignore_ascii_case (trimmed text) (codes "monograph")

record_kept : (old : SerialQuery) (isbns : List (List ℕ)) (header : List (List ℕ)) (number : ℕ) (fields : List (List ℕ))
    → IsKept old (with_isbns old isbns) (row_at (columns_of header) (number, fields)) (serial_row_at header (number, fields))
record_kept old isbns header number fields =
    go (is_serial_type (field_of (columns_of header) PublicationType fields)) (is_monograph (field_of (columns_of header) PublicationType fields))
    (is_none (reason_as Serial (columns_of header) fields)) (is_none (reason_as Book (columns_of header) fields)) refl refl refl refl
  where
    go : (serial monograph row book : Bool) → is_serial_type (field_of (columns_of header) PublicationType fields) ≡ serial
        → is_monograph (field_of (columns_of header) PublicationType fields) ≡ monograph
        → is_none (reason_as Serial (columns_of header) fields) ≡ row → is_none (reason_as Book (columns_of header) fields) ≡ book
        → IsKept old (with_isbns old isbns) (row_at (columns_of header) (number, fields)) (serial_row_at header (number, fields))
    go true monograph true book s m r b hits =
        let serial = row_with number (coverage_as Serial (columns_of header) fields) (texts_of (columns_of header) fields) in
        rw (s, r)
        (ap (λ b. filter is_serial_hit (cons_option (graded serial (if b then grade_as Serial (with_isbns old isbns) serial else None)) hits))
        (has_listed old isbns (field_of (columns_of header) PrintIdentifier fields) (field_of (columns_of header) OnlineIdentifier fields))
        ∙ serial_kept header number fields _ hits)
    go true monograph false book s m r b hits = rw (s, r) refl
    go false true row true s m r b hits =
        rw (s, m, b) (book_dropped header number fields
        (grade_of (with_isbns old isbns) (row_with number (coverage_as Book (columns_of header) fields) (texts_of (columns_of header) fields))) hits)
    go false true row false s m r b hits = rw (s, m, b) refl
    go false false row book s m r b hits = rw (s, m) refl

filter_map-first : {X Y : Type 0} (f : X → Option Y) (first : Option X) (xs : List X) → filter_map f (cons_option first xs) ≡ cons_option (option_and_then f first) (filter_map f xs)
filter_map-first f None xs = refl
filter_map-first f (Some x) xs = refl

records_kept : (old : SerialQuery) (isbns : List (List ℕ)) (header : List (List ℕ)) (number : ℕ) (records : List (List (List ℕ)))
    → filter is_serial_hit (filter_map (hit_by (with_isbns old isbns)) (filter_map (row_at (columns_of header)) (enumerate_from number records)))
    ≡ filter_map (serial_hit_by old) (filter_map (serial_row_at header) (enumerate_from number records))
records_kept old isbns header number [] = refl
records_kept old isbns header number (fields ∷ records) =
    ap (filter is_serial_hit) (filter_map-first (hit_by (with_isbns old isbns)) (row_at (columns_of header) (number, fields)) _)
    ∙ record_kept old isbns header number fields _
    ∙ ap (cons_option (option_and_then (serial_hit_by old) (serial_row_at header (number, fields)))) (records_kept old isbns header (number + 1) records)
    ∙ sym (filter_map-first (serial_hit_by old) (serial_row_at header (number, fields)) _)

text_kept : (old : SerialQuery) (isbns : List (List ℕ)) (records : List (List (List ℕ)))
    → filter is_serial_hit (filter_map (hit_by (with_isbns old isbns)) (holdings_in records).rows) ≡ filter_map (serial_hit_by old) (serial_rows_in records)
unfolding holdings_from
text_kept old isbns [] = refl
text_kept old isbns (header ∷ records) = records_kept old isbns header 2 records

-- no pair names the format of books if none names another than that of journals
true_is_not_false : ¬ (true ≡ false)
true_is_not_false e = cc

and_false : (b : Bool) → (b && false) ≡ false
and_false true = refl
and_false false = refl

tells_none : (pair : List ℕ × List ℕ) → is_other_than_journal pair ≡ false → has_format book_format pair ≡ false
tells_none (key, value) e = go (bytes_eq value book_format) refl
  where
    and_true : (b : Bool) → (b && true && true) ≡ false → (b && true) ≡ false
    and_true true h = h
    and_true false h = h

    go : (b : Bool) → bytes_eq value book_format ≡ b → has_format book_format (key, value) ≡ false
    go false h = rw h (and_false (has_key (codes "rft_val_fmt") (key, value)))
    go true h =
        let is : value ≡ book_format = (bytes_decides value book_format).0 h in
        rw h (and_true (has_key (codes "rft_val_fmt") (key, value)) (rw is at e))

is_none_other : (pair : List ℕ × List ℕ) → is_other_than_journal pair ≡ false → is_other_format pair ≡ false
is_none_other pair e = rw e refl

none_of : {X : Type 0} (p q : X → Bool) → ((x : X) → p x ≡ false → q x ≡ false) → (xs : List X) → list_any p xs ≡ false → list_any q xs ≡ false
none_of p q follows [] e = refl
none_of p q follows (x ∷ xs) e = rw (follows x (first _ _ e)) (none_of p q follows xs (second _ _ e))
  where
    first : (a b : Bool) → (a || b) ≡ false → a ≡ false
    first true b h = h
    first false b h = refl

    second : (a b : Bool) → (a || b) ≡ false → b ≡ false
    second true b h = absurd (cc)
    second false b h = h

asked_still : (pairs : List (List ℕ × List ℕ)) (old : SerialQuery) → serial_query_by pairs ≡ Some old
    → query_of_pairs pairs ≡ Ok (with_isbns old (query_isbns pairs))
asked_still pairs old asked =
    go (list_any is_other_version pairs) (list_any is_other_than_journal pairs) (is_empty (issns_among pairs)) refl refl refl asked
  where
    go : (version format none : Bool) → list_any is_other_version pairs ≡ version → list_any is_other_than_journal pairs ≡ format
        → is_empty (issns_among pairs) ≡ none
        → (if version || (format || none) then None else Some (record { issns = issns_among pairs; days = first_days pairs; volume = first_volume pairs })) ≡ Some old
        → query_of_pairs pairs ≡ Ok (with_isbns old (query_isbns pairs))
    go true format none v f n e = absurd (cc)
    go false true none v f n e = absurd (cc)
    go false false true v f n e = absurd (cc)
    go false false false v f n e =
        let other = none_of is_other_than_journal is_other_format is_none_other pairs f in
        let book = none_of is_other_than_journal (has_format book_format) tells_none pairs f in
        let same : record { issns = issns_among pairs; days = first_days pairs; volume = first_volume pairs } ≡ old = cc in
        rw (v, other, book, and_false (has_journal_format pairs), n) (ap (λ (o : SerialQuery). Ok (with_isbns o (query_isbns pairs))) same)

query_asked : (query : List ℕ) (old : SerialQuery) → serial_query_of query ≡ Some old → query_of query ≡ Ok (with_isbns old (query_isbns (form.parse query)))
unfolding serial_query_of query_of
query_asked query old asked = go (nat_lt query_limit (length query)) refl asked
  where
    go : (long : Bool) → nat_lt query_limit (length query) ≡ long → (if long then None else serial_query_by (form.parse query)) ≡ Some old
        → (if nat_lt query_limit (length query) then Err TooLong else query_of_pairs (form.parse query)) ≡ Ok (with_isbns old (query_isbns (form.parse query)))
    go true h e = absurd (cc)
    go false h e = rw h (asked_still (form.parse query) old e)

pub answers_stay : SerialAnswersAreUnchanged
unfolding holdings_of serial_answer_of answer_of
answers_stay text query old asked =
    let isbns = query_isbns (form.parse query) in
    (with_isbns old isbns, query_asked query old asked, text_kept old isbns (records_of text))
