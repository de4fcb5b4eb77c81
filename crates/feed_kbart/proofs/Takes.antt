-- The records that are added from a reader.
use Rattle.std.proofs.Common.{◌≡◌, ◌≤◌, ◌<◌, ◌+◌, ◌⊎◌, ◌∙◌, ℕ, List, [], ◌∷◌, ◌++◌, length, Option, true, false, refl, sym, ap, arith, append_assoc, inl, inr}
use Rattle.std.proofs.lemmas.List.{append-nil, length-append}
use Rattle.csv.specs.declared.reader.Reader.{Reader}
use Rattle.feed_limits.specs.Limits.{file_limit}
use Rattle.feed_text.specs.Reader.{HasLeft, IsNextRecord}
use Rattle.feed_text.specs.Records.{records_in}
use Rattle.feed_kbart.specs.Joined.{joined, joined_first}
use Rattle.feed_kbart.specs.ListRecords.{AreRecordsOf, AreRecordsWith}
use Rattle.feed_kbart.specs.RowValue.{RowValue}
use Rattle.feed_kbart.specs.declared.list_records.ListRecords.{ListRecords}
use Rattle.feed_kbart.proofs.Joined.{first-none, length-first, some_fields}

-- these records and those that are left are the ones before and those of a text. None of its records was added, or the first ended the begun one.
pub record AreAdded {K : Type 0} (keeps : List RowValue → K → Type 0) (records : List (List (List ℕ))) (begun : List (List ℕ)) (text left : List ℕ) (now : ListRecords K) : Type 0 where
  pub added : List (List (List ℕ))
  pub next : List (List ℕ)
  pub are : AreRecordsWith keeps added next now
  pub all : added ++ joined_first next (records_in left) ≡ records ++ joined_first begun (records_in text)
  pub first : ((records_in left ≡ records_in text) × (next ≡ begun)) ⊎ (next ≡ [] ∷ [])

-- so many records of a text were added, and the reader has left the others
pub record AreTaken {R K : Type 0} (keeps : List RowValue → K → Type 0) (rem : R → Option (List ℕ)) (rdr : Reader R) (text : List ℕ) (count : ℕ) (before now : ListRecords K) : Type 0 where
  pub left : List ℕ
  pub has : HasLeft rem rdr left
  pub counted : count + length left ≤ length text
  pub grows : (records : List (List (List ℕ))) (begun : List (List ℕ)) → length records + length (records_in text) ≤ file_limit → AreRecordsWith keeps records begun before
      → AreAdded keeps records begun text left now

pub taken_first : {R K : Type 0} (keeps : List RowValue → K → Type 0) (rem : R → Option (List ℕ)) (rdr : Reader R) (text : List ℕ) (list : ListRecords K)
    → HasLeft rem rdr text → AreTaken keeps rem rdr text 0 list list
taken_first keeps rem rdr text list has = record {
  left = text;
  has = has;
  counted = omega arith;
  grows = λ records begun few is. record { added = records; next = begun; are = is; all = refl; first = inl (refl, refl) };
}

pub taken_next : {R K : Type 0} (keeps : List RowValue → K → Type 0) (rem : R → Option (List ℕ)) (a b : Reader R) (text : List ℕ) (count : ℕ) (before now next : ListRecords K) (fields : List (List ℕ))
    → AreTaken keeps rem a text count before now → ((left : List ℕ) → HasLeft rem a left → IsNextRecord rem b true fields left)
    → ((records : List (List (List ℕ))) (begun : List (List ℕ)) → length records < file_limit → 0 < length fields → AreRecordsWith keeps records begun now
    → AreRecordsOf keeps (records ++ joined begun fields ∷ []) next)
    → AreTaken keeps rem b text (count + 1) before next
taken_next keeps rem a b text count before now next fields t found adds =
    let (left, has, shorter, lines) = found t.left t.has in
    record {
      left = left;
      has = has;
      counted = omega (arith, t.counted, shorter);
      grows = λ records begun few is.
          let g = t.grows records begun few is in
          let whole : g.added ++ joined g.next fields ∷ records_in left ≡ records ++ joined_first begun (records_in text) = rw lines at g.all in
          let small : length g.added < file_limit =
          omega (
            arith,
            few,
            ap length whole,
            length-append g.added (joined g.next fields ∷ records_in left),
            length-append records (joined_first begun (records_in text)),
            length-first begun (records_in text),
          ) in
          record {
            added = g.added ++ joined g.next fields ∷ [];
            next = [] ∷ [];
            are = adds g.added g.next small (some_fields t.left fields (records_in left) lines) g.are;
            all = ap (λ rest. (g.added ++ joined g.next fields ∷ []) ++ rest) (first-none left) ∙ append_assoc g.added (joined g.next fields ∷ []) (records_in left) ∙ whole;
            first = inr refl;
          };
    }

-- all records of a text were added
abbrev pub AreAllTaken : {K : Type 0} → (List RowValue → K → Type 0) → List ℕ → ListRecords K → ListRecords K → Type 0
AreAllTaken keeps text before now =
    (records : List (List (List ℕ))) (begun : List (List ℕ)) → length records + length (records_in text) ≤ file_limit
    → (begun ≡ [] ∷ []) ⊎ (0 < length (records_in text)) → AreRecordsWith keeps records begun before → AreRecordsOf keeps (records ++ joined_first begun (records_in text)) now

taken_none : {R K : Type 0} (keeps : List RowValue → K → Type 0) (rem : R → Option (List ℕ)) (a : Reader R) (text : List ℕ) (count : ℕ) (before now : ListRecords K)
    (t : AreTaken keeps rem a text count before now) → records_in t.left ≡ [] → AreAllTaken keeps text before now
taken_none keeps rem a text count before now t none records begun few some is =
    let g = t.grows records begun few is in
    let closed : g.next ≡ [] ∷ [] = elim g.first [
      | inr closed ↦ closed
      | inl same ↦ elim some [ inl closed ↦ same.1 ∙ closed | inr more ↦ absurd (omega (arith, more, ap length (sym same.0 ∙ none))) ]
    ] in
    let whole : g.added ≡ records ++ joined_first begun (records_in text) = sym (append-nil g.added) ∙ rw none at g.all in
    rw (whole, closed) at g.are

pub taken_end : {R K : Type 0} (keeps : List RowValue → K → Type 0) (rem : R → Option (List ℕ)) (a b : Reader R) (text : List ℕ) (count : ℕ) (before now : ListRecords K) (fields : List (List ℕ))
    → AreTaken keeps rem a text count before now → ((left : List ℕ) → HasLeft rem a left → IsNextRecord rem b false fields left) → AreAllTaken keeps text before now
taken_end keeps rem a b text count before now fields t found = taken_none keeps rem a text count before now t (found t.left t.has)

pub taken_full : {R K : Type 0} (keeps : List RowValue → K → Type 0) (rem : R → Option (List ℕ)) (a : Reader R) (text : List ℕ) (count : ℕ) (before now : ListRecords K)
    → AreTaken keeps rem a text count before now → length text ≤ count → AreAllTaken keeps text before now
taken_full keeps rem a text count before now t over = taken_none keeps rem a text count before now t (empty t.left (omega (arith, t.counted)))
  where
    empty : (left : List ℕ) → length left ≤ 0 → records_in left ≡ []
    empty [] h = refl
    empty (b ∷ bytes) h = absurd (omega (arith, h))
