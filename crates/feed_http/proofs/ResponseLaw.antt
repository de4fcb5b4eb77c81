-- A text has one result.
use Rattle.std.proofs.Common.{◌≡◌, ◌≤◌, ◌+◌, ℕ, true, false, List, [], ◌∷◌, ◌++◌, length, take, drop, Some, Result, Ok, Err, refl, sym, ap, arith, ◌∙◌, append_assoc, subst, inl, inr, ◌⊎◌, ◌-◌}
use Rattle.std.specs.Prelude.{slice_range}
use Rattle.std.specs.List.{AllByRecursion}
use Rattle.std.proofs.lemmas.List.{append-nil, length-append, length-take-le, take-append-le, take-take, take_at, drop_at}
use Rattle.std.proofs.lemmas.List.Elements.{recursion_from_All}
use Rattle.httparse.specs.Grammar.{ResponseHead, IsResponseHead, HasNoResponse, print_response}
use Rattle.httparse.proofs.GrammarLemmas.{response_unique}
use Rattle.feed_limits.specs.Limits.{file_limit}
use Rattle.feed_http_heads.specs.Limits.{head_limit, field_limit}
use Rattle.feed_http_heads.specs.ResponseHeads.{BeginsWithHeads, print_heads, is_interim, IsInterimHead, HasInterimAlone, IsNoResponse}
use Rattle.feed_http_heads.proofs.ResponseReading.{part_is}
use Rattle.feed_http_heads.proofs.BufferFilling.{front_of}
use Rattle.feed_http_heads.specs.declared.http_fault.HttpFault.{HttpFault}
use Rattle.feed_http_heads.specs.declared.http_fault.HttpFault.TheVariants.{Read, Short, Length, BodyTooLong, HeadTooLong, BadHead, Memory}
use Rattle.feed_http.specs.declared.fetching.validation.Framing.{Framing}
use Rattle.feed_http.specs.declared.fetching.validation.Framing.TheVariants.{Chunked, Sized, ToEnd}
use Rattle.feed_http.specs.declared.fetching.body_machine.BodyMachine.{BodyMachine}
use Rattle.feed_http.specs.Got.{IsBody, IsResultOf, IsGot, IsAnnounced, IsPartBody}
use Rattle.feed_http.specs.ArrivingBodies.{IsWholeBody}
use Rattle.feed_http.proofs.ChunkLaw.{one_body, never_both, no_front, none_left, no_fault}
use Rattle.feed_http.specs.declared.fetching.got.Method.{Method}
use Rattle.feed_http.specs.declared.fetching.got.Got.{Got}
use Rattle.feed_http.specs.declared.fetching.got.Got.TheVariants as got
use Rattle.feed_http.specs.declared.fetching.validation.Announcement.{Announcement}
use Rattle.feed_http.specs.declared.fetching.validation.Announcement.TheVariants.{Missing, Unsatisfied, Size, Part, Whole}
use Rattle.feed_http.specs.Announcements.{announcement_of}
use Rattle.feed_http.specs.ResponseLaws.{HasPart}
use Rattle.feed_http.specs.declared.fetching.response_machine.Place.{Place}
use Rattle.feed_http.specs.declared.fetching.response_machine.Place.TheVariants as places
use Rattle.feed_http.specs.declared.fetching.response_machine.ResponseMachine.{ResponseMachine}
use Rattle.feed_http.specs.ArrivingResponses.{IsAtPlace, HasPassedResponse, IsWholeInner, IsWholeResponse, file_length}
use Rattle.feed_http.proofs.ResponsePassing.{begins_more}

-- a head in front, and what follows it
opened : (a : ResponseHead) (i : List ResponseHead) (h : ResponseHead) (r : List ℕ)
    → print_heads (a ∷ i) ++ print_response h ++ r ≡ print_response a ++ (print_heads i ++ print_response h ++ r)
opened a i h r =
    ap (λ t. t ++ r) (append_assoc (print_response a) (print_heads i) (print_response h)) ∙ append_assoc (print_response a) (print_heads i ++ print_response h) r

differ : (a k : ResponseHead) (f : ℕ) → IsInterimHead f a → is_interim k ≡ false → a ≡ k → ⊥
differ a k f one other same = let e : true ≡ false = sym one.interim ∙ ap is_interim same ∙ other in absurd (cc)

-- the heads of a text are determined, and what follows them
same_heads : (f : ℕ) (i j : List ResponseHead) (h k : ResponseHead) (t r s : List ℕ) → AllByRecursion (IsInterimHead f) i → AllByRecursion (IsInterimHead f) j
    → IsResponseHead h → IsResponseHead k → is_interim h ≡ false → is_interim k ≡ false
    → t ≡ print_heads i ++ print_response h ++ r → t ≡ print_heads j ++ print_response k ++ s → (h ≡ k) × (r ≡ s)
same_heads f [] [] h k t r s a b vh vk lh lk e g = response_unique t h k r s (vh, e) (vk, g)
same_heads f (x ∷ i) [] h k t r s a b vh vk lh lk e g =
    absurd (differ x k f a.0 lk (response_unique t x k (print_heads i ++ print_response h ++ r) s (a.0.valid, e ∙ opened x i h r) (vk, g)).0)
same_heads f [] (y ∷ j) h k t r s a b vh vk lh lk e g =
    absurd (differ y h f b.0 lh (response_unique t y h (print_heads j ++ print_response k ++ s) r (b.0.valid, g ∙ opened y j k s) (vh, e)).0)
same_heads f (x ∷ i) (y ∷ j) h k t r s a b vh vk lh lk e g =
    let rest = (response_unique t x y (print_heads i ++ print_response h ++ r) (print_heads j ++ print_response k ++ s) (a.0.valid, e ∙ opened x i h r) (b.0.valid, g ∙ opened y j k s)).1 in
    same_heads f i j h k (print_heads i ++ print_response h ++ r) r s a.1 b.1 vh vk lh lk refl rest

pub one_head : (text : List ℕ) (i j : List ResponseHead) (h k : ResponseHead) (r s : List ℕ) → BeginsWithHeads head_limit field_limit text i h r → BeginsWithHeads head_limit field_limit text j k s
    → (h ≡ k) × (r ≡ s)
one_head text i j h k r s a b =
    same_heads field_limit i j h k text r s (recursion_from_All (IsInterimHead field_limit) i a.skipped) (recursion_from_All (IsInterimHead field_limit) j b.skipped)
    a.valid b.valid a.last b.last a.text_is b.text_is

-- the bytes of a body are determined
one_bytes : (framing : Framing) (least most : ℕ) (text one other : List ℕ) → IsBody framing least most text (Ok one) → IsBody framing least most text (Ok other) → one ≡ other
one_bytes (Sized size) least most text one other a b = a.1 ∙ sym b.1
one_bytes ToEnd least most text one other a b = a.2 ∙ sym b.2
one_bytes Chunked least most text one other a b = one_body text one other a.2 b.2

one_given : (a : Announcement) (text : List ℕ) (one other : Got) → IsGot a text (Ok one) → IsGot a text (Ok other) → one ≡ other
one_given Missing text one other x y = cc
one_given (Unsatisfied total) text one other x y = cc
one_given (Size length) text one other x y = cc
one_given (Part first total count framing) text one other (p, e, x) (q, g, y) = e ∙ ap (got.Piece first total) (one_bytes framing count count text p q x y) ∙ sym g
one_given (Whole framing) text one other (p, e, x) (q, g, y) = e ∙ ap got.Whole (one_bytes framing 0 file_limit text p q x y) ∙ sym g

one_announced : (announced : Result Announcement HttpFault) (text : List ℕ) (one other : Got) → IsAnnounced announced text (Ok one) → IsAnnounced announced text (Ok other) → one ≡ other
one_announced (Ok a) text one other x y = one_given a text one other x y
one_announced (Err fault) text one other x y = cc

pub one_result : (method : Method) (text : List ℕ) (one other : Got) → IsResultOf method text (Ok one) → IsResultOf method text (Ok other) → one ≡ other
one_result method text one other (inr x) y = absurd x
one_result method text one other (inl x) (inr y) = absurd y
one_result method text one other (inl x) (inl y) =
    let same = one_head text x.interim y.interim x.head y.head x.rest y.rest x.begins y.begins in
    one_announced (announcement_of method x.head) x.rest one other x.is
    (subst (λ (t : List ℕ). IsAnnounced (announcement_of method x.head) t (Ok other)) (sym same.1)
    (subst (λ (h : ResponseHead). IsAnnounced (announcement_of method h) y.rest (Ok other)) (sym same.0) y.is))

-- the bytes behind others
slice_is : (file body part : List ℕ) → take (length (body ++ part)) file ≡ body ++ part → part ≡ slice_range file (length body) (length body + length part)
slice_is file body part e =
    sym (part_is file (length body) (length body + length part) (omega arith)
    ∙ ap (λ (n : ℕ). drop (length body) (take n file)) (sym (length-append body part)) ∙ ap (drop (length body)) e ∙ drop_at body part (length body) refl)

-- what a machine has last given of a body of a stated length is a part of it
pub given_part : (machine : ResponseMachine) (size : ℕ) (text body part more : List ℕ) → file_length machine.place ≡ Some size → HasPassedResponse machine text (body ++ part)
    → HasPart machine.method (text ++ more) size (length body) part
given_part machine size text body part more announced passed = by machine.place announced passed
  where
    by : (place : Place) → file_length place ≡ Some size → IsAtPlace machine.method place text (body ++ part) → HasPart machine.method (text ++ more) size (length body) part
    by (places.Body (Whole (Sized n)) inner) e at =
        let same : n ≡ size = cc (e) in
        let inside = at.inside.3 in
        let long : length at.inner ≡ length body + length part = ap length (sym inside.0) ∙ length-append body part in
        record {
          interim = at.interim;
          head = at.head;
          inner = at.inner ++ more;
          begins = begins_more text more at.inner at.interim at.head at.begins;
          announced = at.is ∙ ap (λ (k : ℕ). Ok (Whole (Sized k))) same;
          fits = omega (arith, long, inside.1, inside.2, same);
          arrived = (let l = length-append at.inner more in omega (arith, long, l));
          is = slice_is (at.inner ++ more) body part (take_at at.inner more (length (body ++ part)) (ap length (sym inside.0)) ∙ sym inside.0);
        }
    by (places.Body (Whole Chunked) inner) e at = absurd (cc)
    by (places.Body (Whole ToEnd) inner) e at = absurd (cc)
    by (places.Body Missing inner) e at = absurd (cc)
    by (places.Body (Unsatisfied total) inner) e at = absurd (cc)
    by (places.Body (Size n) inner) e at = absurd (cc)
    by (places.Body (Part first total count framing) inner) e at = absurd (cc)
    by (places.Heads heads) e at = absurd (cc)

-- the places of a list up to one that both have
same_slice : (inner more file : List ℕ) (size first end : ℕ) → file ≡ take size (inner ++ more) → first ≤ end → end ≤ size → end ≤ length inner
    → slice_range inner first end ≡ slice_range file first end
same_slice inner more file size first end is ordered fits arrived =
    part_is inner first end ordered
    ∙ ap (drop first) (sym (ap (take end) is ∙ take-take end size (inner ++ more) fits ∙ take-append-le end inner more arrived))
    ∙ sym (part_is file first end ordered)

-- a part that has arrived is of the file with which the response is complete
pub part_of_file : (method : Method) (text : List ℕ) (size first : ℕ) (part more file : List ℕ) → HasPart method text size first part
    → IsResultOf method (text ++ more) (Ok (got.Whole file)) → (size ≡ length file) × (part ≡ slice_range file first (first + length part))
part_of_file method text size first part more file p (inr x) = absurd x
part_of_file method text size first part more file p (inl x) =
    let same = one_head (text ++ more) p.interim x.interim p.head x.head (p.inner ++ more) x.rest (begins_more text more p.inner p.interim p.head p.begins) x.begins in
    let announced = subst (λ (r : Result Announcement HttpFault). IsAnnounced r (p.inner ++ more) (Ok (got.Whole file))) p.announced
    (subst (λ (t : List ℕ). IsAnnounced (announcement_of method p.head) t (Ok (got.Whole file))) (sym same.1)
    (subst (λ (h : ResponseHead). IsAnnounced (announcement_of method h) x.rest (Ok (got.Whole file))) (sym same.0) x.is)) in
    let file_is : file ≡ announced.0 = cc (announced.1) in
    let whole = file_is ∙ announced.2.1 in (
      sym (ap length whole ∙ length-take-le size (p.inner ++ more) announced.2.0),
      p.is ∙ same_slice p.inner more file size first (first + length part) whole (omega arith) p.fits p.arrived,
    )

-- behind interim heads of a text that has heads, a head follows
no_heads : (f : ℕ) (i j : List ResponseHead) (h : ResponseHead) (t r rest : List ℕ) → AllByRecursion (IsInterimHead f) i → AllByRecursion (IsInterimHead f) j → IsResponseHead h
    → is_interim h ≡ false → t ≡ print_heads i ++ print_response h ++ r → t ≡ print_heads j ++ rest → HasNoResponse rest → ⊥
no_heads f [] [] h t r rest a b vh lh e g none = none h r (vh, sym g ∙ e)
no_heads f (x ∷ i) [] h t r rest a b vh lh e g none = none x (print_heads i ++ print_response h ++ r) (a.0.valid, sym g ∙ e ∙ opened x i h r)
no_heads f [] (y ∷ j) h t r rest a b vh lh e g none =
    differ y h f b.0 lh (response_unique t y h (print_heads j ++ rest) r (b.0.valid, g ∙ append_assoc (print_response y) (print_heads j) rest) (vh, e)).0
no_heads f (x ∷ i) (y ∷ j) h t r rest a b vh lh e g none =
    let same = (response_unique t x y (print_heads i ++ print_response h ++ r) (print_heads j ++ rest) (a.0.valid, e ∙ opened x i h r)
    (b.0.valid, g ∙ append_assoc (print_response y) (print_heads j) rest)).1 in
    no_heads f i j h (print_heads i ++ print_response h ++ r) r rest a.1 b.1 vh lh refl same none

-- a body is not both complete and broken off
not_both : (framing : Framing) (least most : ℕ) (text body : List ℕ) → IsBody framing least most text (Ok body) → IsBody framing least most text (Err Short) → ⊥
not_both (Sized size) least most text body a b = omega (arith, a.0, b)
not_both ToEnd least most text body a b = omega (arith, a.0, b)
not_both Chunked least most text body a b = never_both least most text body a.2 b

not_given : (a : Announcement) (text : List ℕ) (given : Got) → IsGot a text (Ok given) → IsGot a text (Err Short) → ⊥
not_given Missing text given x y = cc
not_given (Unsatisfied total) text given x y = cc
not_given (Size length) text given x y = cc
not_given (Part first total count framing) text given (p, e, x) y = not_both framing count count text p x y
not_given (Whole framing) text given (p, e, x) y = not_both framing 0 file_limit text p x y

not_announced : (announced : Result Announcement HttpFault) (text : List ℕ) (given : Got) → IsAnnounced announced text (Ok given) → IsAnnounced announced text (Err Short) → ⊥
not_announced (Ok a) text given x y = not_given a text given x y
not_announced (Err fault) text given x y = cc

pub never_short : (method : Method) (text : List ℕ) (given : Got) → IsResultOf method text (Ok given) → IsResultOf method text (Err Short) → ⊥
never_short method text given (inr x) y = absurd x
never_short method text given (inl x) (inr y) =
    no_heads field_limit x.interim y.interim x.head text x.rest y.rest (recursion_from_All (IsInterimHead field_limit) x.interim x.begins.skipped)
    (recursion_from_All (IsInterimHead field_limit) y.interim y.skipped) x.begins.valid x.begins.last x.begins.text_is y.text_is y.why.1.not_whole
never_short method text given (inl x) (inl y) =
    let same = one_head text x.interim y.interim x.head y.head x.rest y.rest x.begins y.begins in
    not_announced (announcement_of method x.head) x.rest given x.is
    (subst (λ (t : List ℕ). IsAnnounced (announcement_of method x.head) t (Err Short)) (sym same.1)
    (subst (λ (h : ResponseHead). IsAnnounced (announcement_of method h) y.rest (Err Short)) (sym same.0) y.is))

-- no shorter front of a whole body has a result
body_left : (framing : Framing) (least most : ℕ) (r more body : List ℕ) → IsBody framing least most r (Ok body) → IsWholeBody framing (r ++ more) → more ≡ []
body_left (Sized size) least most r more body a b = nothing more (let l = length-append r more in omega (arith, l, a.0, b))
  where
    nothing : (xs : List ℕ) → length xs ≡ 0 → xs ≡ []
    nothing [] e = refl
    nothing (x ∷ xs) e = absurd (omega (arith, e))
body_left ToEnd least most r more body a b = absurd b
body_left Chunked least most r more body a (other, b) = no_front r more body other a.2 b

rest_left : (announced : Result Announcement HttpFault) (r more : List ℕ) (given : Got) → IsAnnounced announced r (Ok given) → IsWholeInner announced (r ++ more) → more ≡ []
rest_left (Ok Missing) r more given x y = none_left r more y
rest_left (Ok (Unsatisfied total)) r more given x y = none_left r more y
rest_left (Ok (Size length)) r more given x y = none_left r more y
rest_left (Ok (Part first total count framing)) r more given (p, e, x) y = body_left framing count count r more p x y
rest_left (Ok (Whole framing)) r more given (p, e, x) y = body_left framing 0 file_limit r more p x y
rest_left (Err fault) r more given x y = absurd y

pub no_shorter : (method : Method) (front more : List ℕ) (given : Got) → IsWholeResponse method (front ++ more) → IsResultOf method front (Ok given) → more ≡ []
no_shorter method front more given w (inr x) = absurd x
no_shorter method front more given w (inl x) =
    let same = one_head (front ++ more) x.interim w.interim x.head w.head (x.rest ++ more) w.inner (begins_more front more x.rest x.interim x.head x.begins) w.begins in
    rest_left (announcement_of method x.head) x.rest more given x.is
    (subst (λ (t : List ℕ). IsWholeInner (announcement_of method x.head) t) (sym same.1)
    (subst (λ (h : ResponseHead). IsWholeInner (announcement_of method h) w.inner) (sym same.0) w.whole))

-- a head that follows the interim heads, within the limit
pub record IsHeadAhead (f k : ℕ) (rest : List ℕ) : Type 0 where
  pub head : ResponseHead
  pub tail : List ℕ
  pub valid : IsResponseHead head
  pub few : length head.fields ≤ f
  pub front : take k rest ≡ print_response head ++ tail

ahead : (f k : ℕ) (x : ResponseHead) (rest more : List ℕ) → IsResponseHead x → length x.fields ≤ f → rest ≡ print_response x ++ more → length (print_response x) ≤ k → IsHeadAhead f k rest
ahead f k x rest more valid few e fits = record {
  head = x;
  tail = take (k - length (print_response x)) more;
  valid = valid;
  few = few;
  front = ap (take k) e ∙ front_of k (print_response x) more fits;
}

heads_ahead : (f k : ℕ) (i j : List ResponseHead) (h : ResponseHead) (t r rest : List ℕ) → AllByRecursion (IsInterimHead f) i → AllByRecursion (IsInterimHead f) j → IsResponseHead h
    → is_interim h ≡ false → length h.fields ≤ f → length (print_heads i) + length (print_response h) ≤ k + length (print_heads j)
    → t ≡ print_heads i ++ print_response h ++ r → t ≡ print_heads j ++ rest → IsHeadAhead f k rest
heads_ahead f k [] [] h t r rest a b vh lh few fits e g = ahead f k h rest r vh few (sym g ∙ e) (omega (arith, fits))
heads_ahead f k (x ∷ i) [] h t r rest a b vh lh few fits e g =
    ahead f k x rest (print_heads i ++ print_response h ++ r) a.0.valid a.0.few (sym g ∙ e ∙ opened x i h r) (let l = length-append (print_response x) (print_heads i) in omega (arith, l, fits))
heads_ahead f k [] (y ∷ j) h t r rest a b vh lh few fits e g =
    absurd (differ y h f b.0 lh (response_unique t y h (print_heads j ++ rest) r (b.0.valid, g ∙ append_assoc (print_response y) (print_heads j) rest) (vh, e)).0)
heads_ahead f k (x ∷ i) (y ∷ j) h t r rest a b vh lh few fits e g =
    let same = response_unique t x y (print_heads i ++ print_response h ++ r) (print_heads j ++ rest) (a.0.valid, e ∙ opened x i h r)
    (b.0.valid, g ∙ append_assoc (print_response y) (print_heads j) rest) in
    let l = length-append (print_response x) (print_heads i) in
    let m = length-append (print_response y) (print_heads j) in
    let n : length (print_response x) ≡ length (print_response y) = ap (λ (z : ResponseHead). length (print_response z)) same.0 in
    heads_ahead f k i j h (print_heads i ++ print_response h ++ r) r rest a.1 b.1 vh lh few (omega (arith, l, m, n, fits)) refl same.1

-- the faults that any text may have
abbrev pub IsOutside : HttpFault → Type 0
IsOutside fault = (fault ≡ Read) ⊎ (fault ≡ Memory)

head_ahead : (text : List ℕ) (i : List ResponseHead) (h : ResponseHead) (r : List ℕ) (fault : HttpFault) → BeginsWithHeads head_limit field_limit text i h r
    → (z : HasInterimAlone head_limit field_limit text fault) → IsHeadAhead field_limit (head_limit - length (print_heads z.interim)) z.rest
head_ahead text i h r fault x z =
    heads_ahead field_limit (head_limit - length (print_heads z.interim)) i z.interim h text r z.rest (recursion_from_All (IsInterimHead field_limit) i x.skipped)
    (recursion_from_All (IsInterimHead field_limit) z.interim z.skipped) x.valid x.last x.few (omega (arith, x.short)) x.text_is z.text_is

only_heads : (text : List ℕ) (i : List ResponseHead) (h : ResponseHead) (r : List ℕ) (fault : HttpFault) → BeginsWithHeads head_limit field_limit text i h r
    → IsNoResponse head_limit field_limit fault text → IsOutside fault
only_heads text i h r Read x z = inl refl
only_heads text i h r Short x z =
    absurd (no_heads field_limit i z.interim h text r z.rest (recursion_from_All (IsInterimHead field_limit) i x.skipped) (recursion_from_All (IsInterimHead field_limit) z.interim z.skipped)
    x.valid x.last x.text_is z.text_is z.why.1.not_whole)
only_heads text i h r HeadTooLong x z = let a = head_ahead text i h r HeadTooLong x z in absurd (z.why.1.not_whole a.head a.tail (a.valid, a.front))
only_heads text i h r BadHead x z =
    let a = head_ahead text i h r BadHead x z in
    absurd (z.why [] a.head a.tail (a.valid, append-nil (take (head_limit - length (print_heads z.interim)) z.rest) ∙ a.front) a.few)
only_heads text i h r _ x z = absurd z.why

-- a body with a fault
only_body : (framing : Framing) (least most : ℕ) (text body : List ℕ) (fault : HttpFault) → IsBody framing least most text (Ok body) → IsBody framing least most text (Err fault) → IsOutside fault
only_body framing least most text body Read a b = inl refl
only_body (Sized size) least most text body Memory a b = inr refl
only_body (Sized size) least most text body Short a b = absurd (omega (arith, a.0, b))
only_body (Sized size) least most text body _ a b = absurd b
only_body ToEnd least most text body Memory a b = inr refl
only_body ToEnd least most text body Short a b = absurd (omega (arith, a.0, b))
only_body ToEnd least most text body BodyTooLong a b = absurd (omega (arith, a.1, b))
only_body ToEnd least most text body _ a b = absurd b
only_body Chunked least most text body _ a b = inr (no_fault least most text body _ a.0 a.1 a.2 b)

-- a result with a fault
only_part : (framing : Framing) (count : ℕ) (text body : List ℕ) (fault : HttpFault) → IsBody framing count count text (Ok body) → IsPartBody framing count text (Err fault) → IsOutside fault
only_part framing count text body Length a (inl b) = only_body framing count count text body Length a b
only_part framing count text body Length a (inr b) = not_long (only_body framing count count text body BodyTooLong a b)
  where
    not_long : IsOutside BodyTooLong → IsOutside Length
    not_long (inl e) = absurd (cc)
    not_long (inr e) = absurd (cc)
only_part framing count text body BodyTooLong a b = absurd b
only_part framing count text body _ a b = only_body framing count count text body _ a b

only_given : (a : Announcement) (text : List ℕ) (given : Got) (fault : HttpFault) → IsGot a text (Ok given) → IsGot a text (Err fault) → IsOutside fault
only_given Missing text given fault x y = absurd (cc)
only_given (Unsatisfied total) text given fault x y = absurd (cc)
only_given (Size length) text given fault x y = absurd (cc)
only_given (Part first total count framing) text given fault (p, e, x) y = only_part framing count text p fault x y
only_given (Whole framing) text given fault (p, e, x) y = only_body framing 0 file_limit text p fault x y

only_announced : (announced : Result Announcement HttpFault) (text : List ℕ) (given : Got) (fault : HttpFault) → IsAnnounced announced text (Ok given) → IsAnnounced announced text (Err fault)
    → IsOutside fault
only_announced (Ok a) text given fault x y = only_given a text given fault x y
only_announced (Err e) text given fault x y = absurd (cc)

-- a text that has a result has no fault but those that any text may have
pub only_result : (method : Method) (text : List ℕ) (given : Got) (fault : HttpFault) → IsResultOf method text (Ok given) → IsResultOf method text (Err fault) → IsOutside fault
only_result method text given fault (inr x) y = absurd x
only_result method text given fault (inl x) (inr y) = only_heads text x.interim x.head x.rest fault x.begins y
only_result method text given fault (inl x) (inl y) =
    let same = one_head text x.interim y.interim x.head y.head x.rest y.rest x.begins y.begins in
    only_announced (announcement_of method x.head) x.rest given fault x.is
    (subst (λ (t : List ℕ). IsAnnounced (announcement_of method x.head) t (Err fault)) (sym same.1)
    (subst (λ (h : ResponseHead). IsAnnounced (announcement_of method h) y.rest (Err fault)) (sym same.0) y.is))
