-- The first line of bytes that begin with a head has its method, its target and its version.
use Rattle.std.proofs.Common.{append_assoc, ◌≡◌, ◌<◌, ◌≤◌, ℕ, Bool, true, false, List, [], ◌∷◌, ◌++◌, length, Some, zero, suc, refl, ap, sym, subst, ◌∙◌, arith}
use Rattle.std.specs.Prelude.{◌==◌, not, IsTrue}
use Rattle.std.specs.List.{list_all, position, position_or_len}
use Rattle.std.proofs.lemmas.Bool.{false≢true, ne_eqb}
use Rattle.std.proofs.lemmas.List.{take_at, drop_at, length-append}
use Rattle.std.proofs.lemmas.List.Folds.{list_all-append}
use Rattle.std.proofs.lemmas.List.Elements.{All-weaker}
use Rattle.std.proofs.lemmas.List.Sums.{list_all-from_AllPass}
use borrow.Author.Tests.{lt-ltb, not-true}
use Rattle.httparse.specs.Grammar.{RequestHead, LineEnd, crlf, lf, AllPass, is_token_byte, is_uri_byte, print_blank, print_end, print_request, print_section, print_version}
use Rattle.feed_bytes.proofs.Cuts.{split_once-at}
use Rattle.feed_bytes.proofs.Digits.{both}
use Rattle.node_monitoring.specs.Queries.{is_line_end, from_place, first_line, to_place}
use Rattle.node_request.specs.FoundRequests.{BeginsWith}
use Rattle.node_monitoring.specs.ShownLines.{is_version, plain_line, shown_method, shown_target, spaced}

place_of : (test : ℕ → Bool) (front : List ℕ) (b : ℕ) (back : List ℕ) → list_all (λ x. not (test x)) front ≡ true → test b ≡ true
    → position_or_len test (front ++ b ∷ back) ≡ length front
place_of test [] b back none is = rw is refl
place_of test (x ∷ xs) b back none is = let parts = both _ _ none in rw (not-true (test x) parts.0, place_of test xs b back parts.1 is) (omega arith)

placed : (test : ℕ → Bool) (front : List ℕ) (b : ℕ) (back : List ℕ) → list_all (λ x. not (test x)) front ≡ true → test b ≡ true
    → position test (front ++ b ∷ back) ≡ Some (length front)
placed test front b back none is = let more = length-append front (b ∷ back) in
    rw (place_of test front b back none is, lt-ltb (length front) (length (front ++ b ∷ back)) (omega (arith, more))) refl

-- the lines before the first one are empty
blank_lines : (blank : List LineEnd) → list_all (λ b. not (not (is_line_end b))) (print_blank blank) ≡ true
blank_lines [] = refl
blank_lines (crlf ∷ blank) = blank_lines blank
blank_lines (lf ∷ blank) = blank_lines blank

-- it ends before the first end of a line
to_first : (line : List ℕ) (end : LineEnd) (back : List ℕ) → list_all (λ b. not (is_line_end b)) line ≡ true
    → to_place (line ++ (print_end end ++ back)) (position is_line_end (line ++ (print_end end ++ back))) ≡ line
to_first line crlf back clean = rw (placed is_line_end line 13 (10 ∷ back) clean refl) (take_at line (13 ∷ 10 ∷ back) (length line) refl)
to_first line lf back clean = rw (placed is_line_end line 10 back clean refl) (take_at line (10 ∷ back) (length line) refl)

first : (blank : List LineEnd) (method rest : List ℕ) (end : LineEnd) (back : List ℕ) → 0 < length method → list_all (λ b. not (is_line_end b)) (method ++ rest) ≡ true
    → first_line (print_blank blank ++ ((method ++ rest) ++ (print_end end ++ back))) ≡ method ++ rest
first blank [] rest end back some clean = absurd (omega (arith, some))
first blank (b ∷ more) rest end back some clean = let after = b ∷ ((more ++ rest) ++ (print_end end ++ back)) in let front = print_blank blank in
    ap (λ t. to_place t (position is_line_end t)) (ap (from_place (front ++ after)) (placed (λ x. not (is_line_end x)) front b ((more ++ rest) ++ (print_end end ++ back)) (blank_lines blank)
    (both _ _ clean).0) ∙ drop_at front after (length front) refl) ∙ to_first (b ∷ (more ++ rest)) end back clean

-- no byte that passes a test fails it
differs : (test : ℕ → Bool) (s b : ℕ) → test s ≡ false → test b ≡ true → (b == s) ≡ false
differs test s b out passes = ne_eqb b s (λ e. false≢true (sym out ∙ subst (λ (v : ℕ). test v ≡ true) e passes))

lacking : (test other : ℕ → Bool) (text : List ℕ) → ((b : ℕ) → test b ≡ true → other b ≡ false) → AllPass test text → list_all (λ b. not (other b)) text ≡ true
lacking test other text each all =
    list_all-from_AllPass (λ b. not (other b)) text (All-weaker (λ b. IsTrue (test b)) (λ b. not (other b) ≡ true) (λ b passes. rw (each b passes) refl) text all)

unbroken : (test : ℕ → Bool) → test 13 ≡ false → test 10 ≡ false → (b : ℕ) → test b ≡ true → is_line_end b ≡ false
unbroken test cr nl b passes = rw (differs test 13 b cr passes, differs test 10 b nl passes) refl

version : (minor : ℕ) → minor ≤ 1 → (list_all (λ b. not (is_line_end b)) (print_version minor) ≡ true) × (is_version (print_version minor) ≡ true)
version zero small = (refl, refl)
version (suc zero) small = (refl, refl)
version (suc (suc n)) small = absurd (omega (arith, small))

regroup : (text blank method target version end section rest : List ℕ) → text ≡ (blank ++ method ++ target ++ version ++ end ++ section) ++ rest
    → text ≡ blank ++ ((method ++ (target ++ version)) ++ (end ++ (section ++ rest)))
regroup text blank method target version end section rest is = is ∙ simp append_assoc refl

pub head_line : (bytes : List ℕ) (head : RequestHead) → BeginsWith bytes head
    → plain_line (first_line bytes) ≡ spaced (shown_method head.method) (shown_target head.target) (print_version head.minor)
unfolding is_token_byte print_request
head_line bytes head begins =
    let is = begins.reads.0 in let last = 32 ∷ print_version head.minor in
    let clean = list_all-append (λ b. not (is_line_end b)) head.method (32 ∷ (head.target ++ last)) ∙ rw (
      lacking is_token_byte is_line_end head.method (unbroken is_token_byte refl refl) is.method.1,
      list_all-append (λ b. not (is_line_end b)) head.target last,
      lacking is_uri_byte is_line_end head.target (unbroken is_uri_byte refl refl) is.target.1,
      (version head.minor is.minor).0,
    ) refl in
    let text = regroup bytes (print_blank head.blank) head.method (32 ∷ head.target) last (print_end head.line_end) (print_section head.fields head.last) begins.rest begins.reads.1 in
    let line = ap first_line text ∙ first head.blank head.method (32 ∷ (head.target ++ last)) head.line_end (print_section head.fields head.last ++ begins.rest) is.method.0 clean in
    rw (
      line,
      split_once-at 32 head.method (head.target ++ last) (lacking is_token_byte (λ b. b == 32) head.method (λ b. differs is_token_byte 32 b refl) is.method.1),
      split_once-at 32 head.target (print_version head.minor) (lacking is_uri_byte (λ b. b == 32) head.target (λ b. differs is_uri_byte 32 b refl) is.target.1),
      (version head.minor is.minor).1,
    ) refl
