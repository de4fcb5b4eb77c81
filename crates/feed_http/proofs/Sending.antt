-- The bytes of a file that are sent, block by block.
use Rattle.std.proofs.Common.{◌≡◌, ◌≤◌, ◌<◌, inl, inr, ◌+◌, ◌-◌, ℕ, List, ◌++◌, take, drop, length, Option}
use Rattle.std.proofs.Common.{Some, None, IfSome, Result, Ok, Err, sym, ap, arith, ◌∙◌}
use Rattle.std.proofs.Common.{subst}
use Rattle.std.specs.Prelude.{slice_range, IsErrAnd, min, nat_le}
use Rattle.std.specs.Io.KnownBytes.{Appends}
use Rattle.std.proofs.lemmas.Bool.{cases_Bool}
use borrow.Author.Tests.{leb-true, leb-false}
use Rattle.std.proofs.lemmas.List.{drop-drop, take-take, take_all, length-take}
use Rattle.feed_names.specs.ReleaseName.{Name}
use Rattle.feed_http_heads.specs.declared.http_fault.HttpFault.{HttpFault}
use Rattle.feed_http_heads.specs.declared.http_fault.HttpFault.TheVariants.{Write, Memory, Shelf}
use Rattle.feed_http.specs.Shelves.{Files}
use Rattle.feed_http.specs.ServerResponses.{IsSending}
use Rattle.std.proofs.KnownBytes.{Appends-trans}
use Rattle.feed_http_heads.proofs.BufferFilling.{take_both}

-- a part of a file grows by the block behind it
pub range_more : (file : List ℕ) (first at len : ℕ) → first ≤ at
    → slice_range file first at ++ take len (drop at file) ≡ slice_range file first (at + len)
range_more file first at len below =
    let n : ℕ = at - first in
    let there : first + n ≡ at = omega arith in
    let rest : drop at file ≡ drop n (drop first file) = ap (λ k. drop k file) (sym there) ∙ sym (drop-drop n first file) in
    let most : at + len - first ≡ n + len = omega arith in
    rw (rest, most) (take_both n len (drop first file))

-- what holds of the file that is there
pub by_file : (told : Option Files) (name : Name) (P Q R : List ℕ → Type 0) → ((file : List ℕ) → P file → Q file → R file)
    → IfSome told (λ files. IfSome (files name) P) → IfSome told (λ files. IfSome (files name) Q) → IfSome told (λ files. IfSome (files name) R)
by_file None name P Q R step p q = tt
by_file (Some files) name P Q R step p q = at_name (files name) p q
  where
    at_name : (found : Option (List ℕ)) → IfSome found P → IfSome found Q → IfSome found R
    at_name None p q = tt
    at_name (Some file) p q = step file p q

pub sent_more : (told : Option Files) (name : Name) (old mid new : Option (List ℕ)) (first at len : ℕ) → first ≤ at
    → IfSome told (λ files. IfSome (files name) (λ file. Appends old mid (slice_range file first at)))
    → IfSome told (λ files. IfSome (files name) (λ file. Appends mid new (take len (drop at file))))
    → IfSome told (λ files. IfSome (files name) (λ file. Appends old new (slice_range file first (at + len))))
sent_more told name old mid new first at len below = by_file told name
    (λ file. Appends old mid (slice_range file first at)) (λ file. Appends mid new (take len (drop at file))) (λ file. Appends old new (slice_range file first (at + len)))
    (λ file a b. subst (Appends old new) (range_more file first at len below) (Appends-trans old mid new _ _ a b))

take-take-min : (m n : ℕ) (xs : List ℕ) → take m (take n xs) ≡ take (min m n) xs
take-take-min m n xs = elim (cases_Bool (nat_le m n)) [
  | inl t ↦ let below : m ≤ n = leb-true _ _ t in let least : min m n ≡ m = omega arith in rw least (take-take m n xs below)
  | inr f ↦ let above : n < m = leb-false _ _ f in let least : min m n ≡ n = omega arith in
      let short : length (take n xs) ≤ m = omega (arith, length-take n xs) in
      rw least (take_all m (take n xs) short)
]

-- a block that was cut short cuts the part short
cut_part : (file : List ℕ) (first at len end sent : ℕ) → first ≤ at → at + len ≤ end
    → slice_range file first at ++ take sent (take len (drop at file)) ≡ take (at + min sent len - first) (slice_range file first end)
cut_part file first at len end sent below within =
    let fits : at + min sent len - first ≤ end - first = omega arith in
    ap (λ t. slice_range file first at ++ t) (take-take-min sent len (drop at file)) ∙ range_more file first at (min sent len) below
    ∙ sym (take-take (at + min sent len - first) (end - first) (drop first file) fits)

-- the bytes of a part that were sent, with some of a block
cut_sent : (file : List ℕ) (old mid new : Option (List ℕ)) (first at len end : ℕ) → first ≤ at → at + len ≤ end → Appends old mid (slice_range file first at)
    → (sent : ℕ) × Appends mid new (take sent (take len (drop at file))) → (sent : ℕ) × Appends old new (take sent (slice_range file first end))
cut_sent file old mid new first at len end below within a b =
    (at + min b.0 len - first, subst (Appends old new) (cut_part file first at len end b.0 below within) (Appends-trans old mid new _ _ a b.1))

broken_off : (file : List ℕ) (old mid new : Option (List ℕ)) (first at len end : ℕ) (result : Result (Unit {0}) HttpFault) (fault : HttpFault) → first ≤ at → at + len ≤ end
    → IsErrAnd result (λ e. e ≡ fault) → Appends old mid (slice_range file first at) → IsSending (take len (drop at file)) (Err fault) mid new
    → IsSending (slice_range file first end) result old new
broken_off file old mid new first at len end (Ok done) fault below within is a b = absurd is
broken_off file old mid new first at len end (Err e) Write below within is a b = rw is tt
broken_off file old mid new first at len end (Err e) Memory below within is a b = rw is (cut_sent file old mid new first at len end below within a b)
broken_off file old mid new first at len end (Err e) Shelf below within is a b = rw is (cut_sent file old mid new first at len end below within a b)
broken_off file old mid new first at len end (Err e) _ below within is a b = absurd b

pub sent_broken_off : (told : Option Files) (name : Name) (old mid new : Option (List ℕ)) (first at len end : ℕ) (result : Result (Unit {0}) HttpFault) (fault : HttpFault)
    → first ≤ at → at + len ≤ end → IsErrAnd result (λ e. e ≡ fault)
    → IfSome told (λ files. IfSome (files name) (λ file. Appends old mid (slice_range file first at)))
    → IfSome told (λ files. IfSome (files name) (λ file. IsSending (take len (drop at file)) (Err fault) mid new))
    → IfSome told (λ files. IfSome (files name) (λ file. IsSending (slice_range file first end) result old new))
sent_broken_off told name old mid new first at len end result fault below within is = by_file told name
    (λ file. Appends old mid (slice_range file first at)) (λ file. IsSending (take len (drop at file)) (Err fault) mid new) (λ file. IsSending (slice_range file first end) result old new)
    (λ file a b. broken_off file old mid new first at len end result fault below within is a b)
