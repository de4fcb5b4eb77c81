-- A list that is read until its reader ends.
use Rattle.std.proofs.Common.{◌≡◌, ◌≤◌, ◌+◌, ◌∙◌, ℕ, List, [], ◌++◌, Option, Some, None, length, take, refl, sym, ap, arith, subst}
use borrow.Rule.Slice.PartMut.{put_mid, post_of}
use Rattle.std.proofs.Math.Seq.{take-append-add}
use Rattle.std.specs.Io.KnownBytes.{Consumes, IsAtEnd}
use Rattle.std.proofs.KnownBytes.{Consumes-nil, Consumes-trans}
use Rattle.std.proofs.lemmas.List.{append-nil, length-append, length-take-le, take-append-le}
use Rattle.feed_limits.specs.Limits.{file_limit}
use Rattle.feed_kbart.specs.ListTexts.{IsTextOf}
use Rattle.feed_kbart.specs.RowValue.{RowValue}
use Rattle.feed_kbart.specs.declared.list_text.ListText.{ListText}

-- the reader has returned a text so far, and the list has it if it is within the limit
pub record IsListedTo {K : Type 0} (keeps : List RowValue → K → Type 0) (given now : Option (List ℕ)) (total : ℕ) (list : ListText K) : Type 0 where
  pub text : List ℕ
  pub read : Consumes given now text
  pub size : total ≡ length text
  pub is : length text ≤ file_limit → IsTextOf keeps text list

pub listed_none : {K : Type 0} (keeps : List RowValue → K → Type 0) (given : Option (List ℕ)) (list : ListText K) → IsTextOf keeps [] list
    → IsListedTo keeps given given 0 list
listed_none keeps given list is = record { text = []; read = Consumes-nil given; size = refl; is = λ small. is }

pub listed_more : {K : Type 0} (keeps : List RowValue → K → Type 0) (given now next : Option (List ℕ)) (total count : ℕ) (bytes : List ℕ) (before after : ListText K)
    → IsListedTo keeps given now total before → Consumes now next bytes → length bytes ≡ count
    → ((text : List ℕ) → length text + length bytes ≤ file_limit → IsTextOf keeps text before → IsTextOf keeps (text ++ bytes) after)
    → IsListedTo keeps given next (total + count) after
listed_more keeps given now next total count bytes before after l come size adds = record {
  text = l.text ++ bytes;
  read = Consumes-trans given now next l.text bytes l.read come;
  size = omega (arith, l.size, size, length-append l.text bytes);
  is = λ small.
      let fits : length l.text + length bytes ≤ file_limit = omega (arith, small, length-append l.text bytes) in
      adds l.text fits (l.is (omega (arith, fits)));
}

-- bytes that were read into a block were added
pub listed_block : {K : Type 0} (keeps : List RowValue → K → Type 0) (given now next : Option (List ℕ)) (total count : ℕ) (read block : List ℕ) (before after : ListText K)
    → IsListedTo keeps given now total before → Consumes now next (take count read) → count ≤ length read → block ≡ read
    → ((text : List ℕ) → length text + length (take count block) ≤ file_limit → IsTextOf keeps text before → IsTextOf keeps (text ++ take count block) after)
    → IsListedTo keeps given next (total + count) after
listed_block keeps given now next total count read block before after l come within same adds =
    let bytes : Consumes now next (take count block) = subst (λ b. Consumes now next (take count b)) (sym same) come in
    let fits : count ≤ length block = omega (arith, within, ap length same) in
    listed_more keeps given now next total count (take count block) before after l bytes (length-take-le count block fits) adds

-- the reader has ended, so the list has the whole text
pub listed_whole : {K : Type 0} (keeps : List RowValue → K → Type 0) (text : List ℕ) (now : Option (List ℕ)) (total : ℕ) (list : ListText K)
    → IsListedTo keeps (Some text) now total list → IsAtEnd now → length text ≤ file_limit → IsTextOf keeps text list
listed_whole keeps text None total list l end small = absurd l.read
listed_whole keeps text (Some rest) total list l end small =
    let same : l.text ≡ text = sym (l.read ∙ ap (λ bytes. l.text ++ bytes) end ∙ append-nil l.text) in
    subst (λ bytes. IsTextOf keeps bytes list) same (l.is (rw same small))

-- a text has all bytes that were read
pub listed_size : {K : Type 0} (keeps : List RowValue → K → Type 0) (text : List ℕ) (now : Option (List ℕ)) (total : ℕ) (list : ListText K)
    → IsListedTo keeps (Some text) now total list → total ≤ length text
listed_size keeps text None total list l = absurd l.read
listed_size keeps text (Some rest) total list l = omega (arith, l.size, ap length l.read, length-append l.text rest)

module _ (filled room count : ℕ) (block part : List ℕ) (within : filled ≤ length block) (few : count ≤ length part) where
  size : length (take filled block) ≡ filled
  size = length-take-le filled block within

  -- bytes that were read behind others stay within the block
  pub block_fits : filled + count ≤ length (put_mid filled room block part)
  block_fits =
      let whole : length (put_mid filled room block part) ≡ length (take filled block) + (length part + length (post_of filled room block)) = simp length-append in
      omega (arith, whole, size, few)

  front : take (filled + count) (put_mid filled room block part) ≡ take filled block ++ take count part
  front =
      subst (λ n. take (n + count) (take filled block ++ (part ++ post_of filled room block)) ≡ take filled block ++ take count (part ++ post_of filled room block)) size
      (take-append-add (take filled block) (part ++ post_of filled room block) count)
      ∙ ap (λ bytes. take filled block ++ bytes) (take-append-le count part (post_of filled room block) few)

-- a read behind the bytes that were read reads more of them
pub block_read : (old mid new : Option (List ℕ)) (filled room count : ℕ) (block part : List ℕ) → filled ≤ length block → count ≤ length part
    → Consumes old mid (take filled block) → Consumes mid new (take count part) → Consumes old new (take (filled + count) (put_mid filled room block part))
block_read old mid new filled room count block part within few first more =
    rw (front filled room count block part within few) (Consumes-trans old mid new (take filled block) (take count part) first more)
