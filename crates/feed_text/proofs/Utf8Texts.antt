-- The bytes that stand for a text that is read in pieces.
use Rattle.std.proofs.Common.{◌≡◌, ◌≤◌, ◌<◌, ◌+◌, ◌-◌, ℕ, List, [], ◌∷◌, ◌++◌, Option, Some, None, length, take, drop, arith, sym, ap, subst, ◌∙◌, true}
use Rattle.std.proofs.Common.{append_assoc, take-append-drop}
use Rattle.std.specs.Prelude.{IsUtf8}
use Rattle.std.specs.Char.{IsScalar}
use Rattle.std.specs.Str.{IsValidUpTo}
use Rattle.std.proofs.Math.Utf8.{encode, encodes, scalar, scalars}
use Rattle.std.proofs.lemmas.Bool.{and_parts}
use Rattle.std.proofs.lemmas.List.{append-nil, length-append, length-drop, take-append-le, drop-append-le}
use Rattle.std.proofs.lemmas.Str.{IsUtf8-append, IsUtf8-drop, IsUtf8-encode, IsCharBoundary-from_take, length-encode, len_utf8_bounds}
use Rattle.std.proofs.Math.Seq.{drop-append-add, take-add, take-append_seam, drop-append_seam}
use Rattle.feed_text.specs.Utf8.{IsCheckOf, IsSpoiled, StandsFor}

-- what follows a text is UTF-8 where all of it is
rest_of_utf8 : (front rest : List ℕ) → IsUtf8 front → IsUtf8 (front ++ rest) → IsUtf8 rest
rest_of_utf8 front rest is all =
    let within : length front ≤ length (front ++ rest) = omega (arith, length-append front rest) in
    let cut : IsUtf8 (take (length front) (front ++ rest)) = rw (take-append_seam front rest) is in
    rw (drop-append_seam front rest) at (IsUtf8-drop (front ++ rest) (length front) all (IsCharBoundary-from_take (front ++ rest) (length front) all within cut))

-- a text before some bytes does not matter
pub StandsFor-past : (front rest : List ℕ) → IsUtf8 front → StandsFor rest (front ++ rest)
StandsFor-past front rest is next = (
  λ all. rest_of_utf8 front (rest ++ next) is (rw (append_assoc front rest next) at all),
  λ end. rw (append_assoc front rest next) (IsUtf8-append front (rest ++ next) is end),
)

-- what stands for a text stands for it with whatever comes next
pub checked_on : (text kept bytes : List ℕ) (check : Option (List ℕ)) → StandsFor kept text → IsCheckOf (kept ++ bytes) check → IsCheckOf (text ++ bytes) check
checked_on text kept bytes None for spoiled =
    λ next all. spoiled next (rw (append_assoc kept bytes next) ((for (bytes ++ next)).0 (rw (append_assoc text bytes next) at all)))
checked_on text kept bytes (Some end) for is =
    λ next. (
      λ all. (is next).0 (rw (append_assoc kept bytes next) ((for (bytes ++ next)).0 (rw (append_assoc text bytes next) at all))),
      λ all. rw (append_assoc text bytes next) ((for (bytes ++ next)).1 (rw (append_assoc kept bytes next) at ((is next).1 all))),
    )

pub IsSpoiled-append : (text bytes : List ℕ) → IsSpoiled text → IsSpoiled (text ++ bytes)
IsSpoiled-append text bytes spoiled next all = spoiled (bytes ++ next) (rw (append_assoc text bytes next) at all)

first_char : (text : List ℕ) (cs : List ℕ) → scalars cs ≡ true → encodes cs ≡ text → 0 < length text → (c : ℕ) × IsScalar c × ((rest : List ℕ) × (text ≡ encode c ++ rest))
first_char text [] all same some = absurd (omega (arith, ap length same))
first_char text (c ∷ cs) all same some = (c, (and_parts (scalar c) (scalars cs) all).0, (encodes cs, sym same))

-- four bytes in which no character begins
pub IsSpoiled-past : (bytes : List ℕ) (n : ℕ) → IsValidUpTo bytes n → 3 < length bytes - n → IsSpoiled bytes
IsSpoiled-past bytes n valid many next all =
    let front = take n bytes in
    let rest = drop n bytes in
    let split : bytes ++ next ≡ front ++ (rest ++ next) = ap (λ l. l ++ next) (sym (take-append-drop n bytes)) ∙ append_assoc front rest next in
    let after : IsUtf8 (rest ++ next) = rest_of_utf8 front (rest ++ next) valid.front (subst IsUtf8 split all) in
    let some : 0 < length (rest ++ next) = omega (arith, length-append rest next, length-drop n bytes) in
    let (c, is, (tail, same)) = first_char (rest ++ next) after.0 after.1.0 after.1.1 some in
    let size = length (encode c) in
    let bounds = len_utf8_bounds c in
    let room : size ≤ length rest = omega (arith, length-encode c, length-drop n bytes) in
    let char : take size rest ≡ encode c = sym (take-append-le size rest next room) ∙ ap (take size) same ∙ take-append_seam (encode c) tail in
    let longer : take (n + size) bytes ≡ front ++ encode c = take-add n size bytes ∙ ap (λ l. front ++ l) char in
    let more : n < n + size = omega (arith, length-encode c) in
    valid.longest (n + size) more (subst IsUtf8 (sym longer) (IsUtf8-append front (encode c) valid.front (IsUtf8-encode c is)))

-- the bytes after a text at the front stand for all
pub StandsFor-end : (bytes : List ℕ) (count n : ℕ) → IsUtf8 (take n bytes) → n ≤ length bytes → count ≡ length bytes - n → StandsFor (drop (length bytes - count) bytes) bytes
StandsFor-end bytes count n is within same =
    let place : length bytes - count ≡ n = omega arith in
    let past = StandsFor-past (take n bytes) (drop n bytes) is in
    subst (λ (k : ℕ). StandsFor (drop k bytes) bytes) (sym place) (subst (λ (l : List ℕ). StandsFor (drop n bytes) l) (take-append-drop n bytes) past)

-- at the end, the bytes that stand for a text are UTF-8 exactly if the text is
pub StandsFor-whole : (kept text : List ℕ) → StandsFor kept text → (IsUtf8 text → IsUtf8 kept) × (IsUtf8 kept → IsUtf8 text)
StandsFor-whole kept text for = rw (append-nil text, append-nil kept) at (for [])

-- where the end of the kept bytes and some more stands for both, it is checked with what comes after them
pub checked_past : (text kept front back : List ℕ) (count : ℕ) (check : Option (List ℕ)) → StandsFor kept text → count ≤ length front
    → StandsFor (drop (length (kept ++ front) - count) (kept ++ front)) (kept ++ front) → IsCheckOf (drop (length front - count) (front ++ back)) check
    → IsCheckOf (text ++ (front ++ back)) check
checked_past text kept front back count check for few stands is =
    let n = length front - count in
    let place : length (kept ++ front) - count ≡ length kept + n = omega (arith, length-append kept front) in
    let within : n ≤ length front = omega arith in
    let end : drop (length (kept ++ front) - count) (kept ++ front) ≡ drop n front = ap (λ (k : ℕ). drop k (kept ++ front)) place ∙ drop-append-add kept front n in
    let after : IsCheckOf (drop n front ++ back) check = subst (λ (l : List ℕ). IsCheckOf l check) (drop-append-le n front back within) is in
    let all = checked_on (kept ++ front) (drop n front) back check (subst (λ (l : List ℕ). StandsFor l (kept ++ front)) end stands) after in
    checked_on text kept (front ++ back) check for (subst (λ (l : List ℕ). IsCheckOf l check) (append_assoc kept front back) all)

pub not_spoiled : (text : List ℕ) → IsSpoiled text → IsUtf8 text → ⊥
not_spoiled text spoiled utf8 = spoiled [] (rw (append-nil text) utf8)
