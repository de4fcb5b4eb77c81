-- The history of a feed that receives the events of a fetch.
use Rattle.std.proofs.Common.{◌≡◌, ◌≤◌, ◌+◌, ◌⊎◌, ℕ, Bool, true, false, List, [], ◌∷◌, ◌++◌, Option, Some, None, Result, Ok, Err, inl, inr, refl, sym}
use Rattle.std.proofs.Common.{◌∙◌, ◌-◌, ◌||◌, min, IsTrue, ap, subst, append_assoc, get_or, arith}
use Rattle.std.specs.Prelude.{IfErr, MatchResult}
use Rattle.std.proofs.lemmas.List.Elements.{All-append, All-cons, All-nil}
use Rattle.feed_names.specs.ReleaseName.{Name}
use Rattle.feed_http.specs.declared.fetching.got.Got.{Got}
use Rattle.feed_http.specs.declared.fetching.got.Got.TheVariants.{Whole}
use Rattle.feed_http.specs.declared.fetching.got.Got.TheVariants as got
use Rattle.feed_model.specs.declared.reply.Reply.TheVariants as replies
use Rattle.feed_model.specs.declared.reply.Refusal.TheVariants as refusals
use Rattle.feed_kbart.specs.declared.fault.BadFile.{BadFile}
use Rattle.feed_model.specs.declared.reply.Reply.{Reply}
use Rattle.feed_model.specs.History.{Event, Offered, Piece, Lost, History, Answer, is_noted, is_taken, IsPassed}
use Rattle.feed_model.specs.Reply.{IsRight, IsRightWith, verdict}
use Rattle.feed_model.specs.Content.{Recorded, IsContent}
use Rattle.feed_model.proofs.Goods.{IsStill, goods_still, passed_same}
use Rattle.feed_dial.specs.declared.DialFault.{DialFault}
use Rattle.feed_http_heads.specs.declared.http_fault.HttpFault.{HttpFault}
use Rattle.feed_http_heads.specs.declared.http_fault.HttpFault.TheVariants as http
use Rattle.feed_fetch.specs.declared.stop.RequestFault.{RequestFault}
use Rattle.feed_fetch.specs.declared.stop.RequestFault.TheVariants.{Dial, Http}
use Rattle.feed_fetch.specs.declared.stop.Stop.{Stop}
use Rattle.feed_fetch.specs.declared.stop.Stop.TheVariants as stops
use Rattle.feed_fetch.specs.Answers.{status_of, IsExcused, response_or_stop, piece_result, offer_result, round_result, HasRightAnswer, HasCause, IsStoppedAt}
use Rattle.feed_fetch.specs.Effects.{IsExtension, IsCurrent, IsReported, IsStatusAfter, EndsWithStatus, IsPieceOf, IsTakenFrom}

still_idle : (h : History) (e : Event) (a : Answer) → is_noted a ≡ false → is_taken a ≡ false → IsStill h ((e, a) ∷ h)
still_idle h (Offered m s) a noted taken = record { size = λ n. rw noted refl; bytes = λ n place. refl }
still_idle h (Piece m f t b) a noted taken = record { size = λ n. refl; bytes = λ n place. rw taken refl }
still_idle h (Lost m) a noted taken = record { size = λ n. refl; bytes = λ n place. refl }

-- what is answered older is passed
passed_offer : (most : ℕ) (h : History) (n : Name) (s : ℕ) → IsRightWith most h (Offered n s) (Ok replies.Older) → IsPassed h n
passed_offer most h n s (inl x) = absurd (let e = x.1 in cc)
passed_offer most h n s (inr (x, inl y)) = y.0
passed_offer most h n s (inr (x, inr (y, inl (z, inl w)))) = absurd (let e = w.1 in cc)
passed_offer most h n s (inr (x, inr (y, inl (z, inr w)))) = absurd (let e = w.1 in cc)
passed_offer most h n s (inr (x, inr (y, inr (z, inl w)))) = absurd (let e = w.1 in cc)
passed_offer most h n s (inr (x, inr (y, inr (z, inr (w, inl (v, inl e)))))) = absurd (cc)
passed_offer most h n s (inr (x, inr (y, inr (z, inr (w, inl (v, inr (inl e))))))) = absurd (cc)
passed_offer most h n s (inr (x, inr (y, inr (z, inr (w, inl (v, inr (inr e))))))) = absurd (cc)
passed_offer most h n s (inr (x, inr (y, inr (z, inr (w, inr (v, inl e)))))) = absurd (cc)
passed_offer most h n s (inr (x, inr (y, inr (z, inr (w, inr (v, inr (inl e))))))) = absurd (cc)
passed_offer most h n s (inr (x, inr (y, inr (z, inr (w, inr (v, inr (inr e))))))) = absurd (cc)

verdict_not_older : (o : Option BadFile) (a : Answer) → a ≡ Ok replies.Older → a ≡ Ok (verdict o) → ⊥
verdict_not_older None a e f = cc
verdict_not_older (Some why) a e f = cc

passed_piece : (h : History) (n : Name) (f : ℕ) (t : Option ℕ) (b : List ℕ) → IsRight h (Piece n f t b) (Ok replies.Older) → IsPassed h n
passed_piece h n f t b (inl x) = absurd (let e = x.1 in cc)
passed_piece h n f t b (inr (x, inl y)) = y.0
passed_piece h n f t b (inr (x, inr (y, inl z))) = absurd (let e = z.1 in cc)
passed_piece h n f t b (inr (x, inr (y, inr (z, inl w)))) = absurd (let e = w.1 in cc)
passed_piece h n f t b (inr (x, inr (y, inr (z, inr (w, inl v))))) = absurd (let e = v.1 in cc)
passed_piece h n f t b (inr (x, inr (y, inr (z, inr (w, inr (v, inl u)))))) = absurd (let e = u.1 in cc)
passed_piece h n f t b (inr (x, inr (y, inr (z, inr (w, inr (v, inr (u, inl p))))))) = absurd (let e = p.1 in cc)
passed_piece h n f t b (inr (x, inr (y, inr (z, inr (w, inr (v, inr (u, inr (p, inl (size, s, inl q))))))))) = absurd (let e = q.1 in cc)
passed_piece h n f t b (inr (x, inr (y, inr (z, inr (w, inr (v, inr (u, inr (p, inl (size, s, inr (q, (text, len, at, e))))))))))) = absurd (verdict_not_older _ (Ok replies.Older) refl e)
passed_piece h n f t b (inr (x, inr (y, inr (z, inr (w, inr (v, inr (u, inr (p, inr (inl e))))))))) = absurd (cc)
passed_piece h n f t b (inr (x, inr (y, inr (z, inr (w, inr (v, inr (u, inr (p, inr (inr e))))))))) = absurd (cc)

passed_after : (h : History) (e : Event) (n : Name) → IsPassed h n → IsPassed ((e, Ok replies.Older) ∷ h) n
passed_after h e n p = passed_same h ((e, Ok replies.Older) ∷ h) (goods_still h ((e, Ok replies.Older) ∷ h) (still_idle h e (Ok replies.Older) refl refl)) n p

-- where an answer stops a fetch, it was the last one
stands : (h : History) (n : Name) (e : Event) (a : Answer) → (a ≡ Ok replies.Older → IsPassed ((e, a) ∷ h) n) → IfErr (response_or_stop a) (λ stop. IsStoppedAt n stop ((e, a) ∷ h))
stands h n e (Ok replies.Noted) older = tt
stands h n e (Ok replies.Known) older = tt
stands h n e (Ok (replies.Stored m)) older = tt
stands h n e (Ok replies.Repeated) older = tt
stands h n e (Ok replies.Activated) older = tt
stands h n e (Ok (replies.Broken why)) older = (e, why, (h, refl))
stands h n e (Ok replies.Older) older = older refl
stands h n e (Ok replies.Nothing) older = tt
stands h n e (Err r) older = (e, (h, refl))

pub stands_told : (h : History) (n : Name) (e : Event) (a : Answer) (result : Result Reply Stop) → (a ≡ Ok replies.Older → IsPassed ((e, a) ∷ h) n)
    → (result ≡ response_or_stop a) ⊎ (result ≡ Err stops.Print) → IfErr result (λ stop. IsStoppedAt n stop ((e, a) ∷ h))
stands_told h n e a result older (inl same) = subst (λ (r : Result Reply Stop). IfErr r (λ stop. IsStoppedAt n stop ((e, a) ∷ h))) (sym same) (stands h n e a older)
stands_told h n e a result older (inr same) = subst (λ (r : Result Reply Stop). IfErr r (λ stop. IsStoppedAt n stop ((e, a) ∷ h))) (sym same) tt

pub stands_news : (h : History) (n : Name) (e : Event) (a : Answer) (result : Result Bool Stop) → (a ≡ Ok replies.Older → IsPassed ((e, a) ∷ h) n)
    → (result ≡ piece_result (response_or_stop a)) ⊎ (result ≡ Err stops.Print) → IfErr result (λ stop. IsStoppedAt n stop ((e, a) ∷ h))
stands_news h n e a result older (inl same) = subst (λ (r : Result Bool Stop). IfErr r (λ stop. IsStoppedAt n stop ((e, a) ∷ h))) (sym same) (by (response_or_stop a) (stands h n e a older))
  where
    by : (r : Result Reply Stop) → IfErr r (λ stop. IsStoppedAt n stop ((e, a) ∷ h)) → IfErr (piece_result r) (λ stop. IsStoppedAt n stop ((e, a) ∷ h))
    by (Ok reply) so = tt
    by (Err stop) so = so
stands_news h n e a result older (inr same) = subst (λ (r : Result Bool Stop). IfErr r (λ stop. IsStoppedAt n stop ((e, a) ∷ h))) (sym same) tt

pub stands_done : (h : History) (n : Name) (e : Event) (a : Answer) (result : Result (Unit {0}) Stop) → (a ≡ Ok replies.Older → IsPassed ((e, a) ∷ h) n)
    → (result ≡ offer_result (response_or_stop a)) ⊎ (result ≡ Err stops.Print) → IfErr result (λ stop. IsStoppedAt n stop ((e, a) ∷ h))
stands_done h n e a result older (inl same) = subst (λ (r : Result (Unit {0}) Stop). IfErr r (λ stop. IsStoppedAt n stop ((e, a) ∷ h))) (sym same) (by (response_or_stop a) (stands h n e a older))
  where
    by : (r : Result Reply Stop) → IfErr r (λ stop. IsStoppedAt n stop ((e, a) ∷ h)) → IfErr (offer_result r) (λ stop. IsStoppedAt n stop ((e, a) ∷ h))
    by (Ok reply) so = tt
    by (Err stop) so = so
stands_done h n e a result older (inr same) = subst (λ (r : Result (Unit {0}) Stop). IfErr r (λ stop. IsStoppedAt n stop ((e, a) ∷ h))) (sym same) tt

pub older_piece : (h : History) (n : Name) (f : ℕ) (t : Option ℕ) (b : List ℕ) (a : Answer) → IsRight h (Piece n f t b) a → a ≡ Ok replies.Older → IsPassed ((Piece n f t b, a) ∷ h) n
older_piece h n f t b a right e =
    subst (λ (x : Answer). IsPassed ((Piece n f t b, x) ∷ h) n) (sym e) (passed_after h (Piece n f t b) n (passed_piece h n f t b (subst (λ (x : Answer). IsRight h (Piece n f t b) x) e right)))

pub older_offer : (most : ℕ) (h : History) (n : Name) (s : ℕ) (a : Answer) → IsRightWith most h (Offered n s) a → a ≡ Ok replies.Older → IsPassed ((Offered n s, a) ∷ h) n
older_offer most h n s a right e =
    subst (λ (x : Answer). IsPassed ((Offered n s, x) ∷ h) n) (sym e) (passed_after h (Offered n s) n (passed_offer most h n s (subst (λ (x : Answer). IsRightWith most h (Offered n s) x) e right)))

abbrev pub one_event : Event → Answer → History
one_event e a = (e, a) ∷ []

-- one piece, as a response gave it
pub taken_piece : (c c' : Recorded) (n : Name) (given : Got) (first : ℕ) (total : Option ℕ) (bytes : List ℕ) (result : Result Bool Stop)
    → IsPieceOf given first total bytes
    → HasRightAnswer (λ answer. (result ≡ piece_result (response_or_stop answer)) ⊎ (result ≡ Err stops.Print)) c (Piece n first total bytes) c'
    → IsExtension (IsTakenFrom n given) (λ k. IfErr result (λ stop. IsStoppedAt n stop k)) c c'
taken_piece c c' n given first total bytes result of answered h is =
    let t = answered h is in (
      one_event (Piece n first total bytes) t.0,
      All-cons (λ event. IsTakenFrom n given event.0) (Piece n first total bytes, t.0) [] (refl, of) (All-nil (λ event. IsTakenFrom n given event.0)),
      stands_news h n (Piece n first total bytes) t.0 result (older_piece h n first total bytes t.0 t.1) t.2,
      t.3,
    )

-- a loss is reported to the feed, and the request is the reason for the stop, or the output failed
pub lost_stops : (c c' : Recorded) (n : Name) (why : RequestFault) (fault : HttpFault) (result : Result Reply Stop) (stop : Stop) → why ≡ Http fault
    → MatchResult result (λ reply. stop ≡ stops.Request why) (λ unprinted. stop ≡ unprinted)
    → HasRightAnswer (λ answer. (result ≡ response_or_stop answer) ⊎ (result ≡ Err stops.Print)) c (Lost n) c'
    → (h : History) → IsContent c h
    → (answer : Answer) × (((stop ≡ stops.Request why) ⊎ (stop ≡ stops.Print)) × IsStoppedAt n stop ((Lost n, answer) ∷ h)) × IsContent c' ((Lost n, answer) ∷ h)
lost_stops c c' n why fault result stop is_http so answered h is = let t = answered h is in (t.0, by t.0 result t.1 t.2 so, t.3)
  where
    at : (a : Answer) (s : Stop) → a ≡ Ok replies.Nothing → s ≡ stops.Request why → IsStoppedAt n s ((Lost n, a) ∷ h)
    at a s nothing e =
        let http : s ≡ stops.Request (Http fault) = e ∙ ap (λ (w : RequestFault). stops.Request w) is_http in
        subst (λ (x : Stop). IsStoppedAt n x ((Lost n, a) ∷ h)) (sym http) (h, ap (λ (x : Answer). (Lost n, x) ∷ h) nothing)

    by : (a : Answer) (r : Result Reply Stop) → a ≡ Ok replies.Nothing → (r ≡ response_or_stop a) ⊎ (r ≡ Err stops.Print)
        → MatchResult r (λ reply. stop ≡ stops.Request why) (λ unprinted. stop ≡ unprinted)
        → ((stop ≡ stops.Request why) ⊎ (stop ≡ stops.Print)) × IsStoppedAt n stop ((Lost n, a) ∷ h)
    by a (Ok reply) nothing printed e = (inl e, at a stop nothing e)
    by a (Err unprinted) nothing (inl same) e = absurd (let f : Err unprinted ≡ response_or_stop (Ok replies.Nothing) = same ∙ ap response_or_stop nothing in cc)
    by a (Err unprinted) nothing (inr same) e = (let f : unprinted ≡ stops.Print = cc in (inr (e ∙ f), subst (λ (s : Stop). IsStoppedAt n s ((Lost n, a) ∷ h)) (sym (e ∙ f)) tt))

pub extends_more : (A : Event → Type 0) (P Q : History → Type 0) (c d e : Recorded) → IsExtension A P c d → IsExtension A Q d e → IsExtension A Q c e
extends_more A P Q c d e first second h is =
    let x = first h is in
    let y = second (x.0 ++ h) x.3 in
    let same : (y.0 ++ x.0) ++ h ≡ y.0 ++ (x.0 ++ h) = append_assoc y.0 x.0 h in
    (y.0 ++ x.0, All-append (λ event. A event.0) y.0 x.0 y.1 x.1, subst Q (sym same) y.2, subst (IsContent e) (sym same) y.3)

pub extends_none : (A : Event → Type 0) (P : History → Type 0) (c : Recorded) → ((h : History) → P h) → IsExtension A P c c
extends_none A P c all h is = ([], All-nil (λ event. A event.0), all h, is)

pub extends_so : (A B : Event → Type 0) (P Q : History → Type 0) (c d : Recorded) → ((e : Event) → A e → B e) → ((k : History) → P k → Q k) → IsExtension A P c d → IsExtension B Q c d
extends_so A B P Q c d more so extends h is = let x = extends h is in (x.0, λ i d lt. more (get_or x.0 i d).0 (x.1 i d lt), so (x.0 ++ h) x.2, x.3)

pub extends_any : (A : Event → Type 0) (P : History → Type 0) (c d : Recorded) → IsExtension A P c d → IsExtension A (λ k. Unit {0}) c d
extends_any A P c d extends h is = let x = extends h is in (x.0, x.1, tt, x.3)

-- a part of at most what is left is within the file
pub part_within : (first total count most : ℕ) → first ≤ total → count ≡ min (total - first) most → first + count ≤ total
part_within first total count most le is = omega (arith, is, le)

-- a piece is passed to the feed as the response gave it
pub piece_as_given : (c d : Recorded) (n : Name) (f g : ℕ) (t u : Option ℕ) (bytes read slice : List ℕ) (r : Result Bool Stop) → got.Piece f t bytes ≡ got.Piece g u read → slice ≡ bytes
    → HasRightAnswer (λ answer. (r ≡ piece_result (response_or_stop answer)) ⊎ (r ≡ Err stops.Print)) c (Piece n f t slice) d
    → HasRightAnswer (λ answer. (r ≡ piece_result (response_or_stop answer)) ⊎ (r ≡ Err stops.Print)) c (Piece n g u read) d
piece_as_given c d n f g t u bytes read slice r same is answered =
    let event : Piece n f t slice ≡ Piece n g u read = cc in
    subst (λ (e : Event). HasRightAnswer (λ answer. (r ≡ piece_result (response_or_stop answer)) ⊎ (r ≡ Err stops.Print)) c e d) event answered

-- the status of a fetch that found nothing missing
pub ends_done : (A : Event → Type 0) (n : Name) (c d : Recorded) (status : ℕ) (unprinted : Bool) (refused : Option DialFault)
    → ((k : History) → IsContent d k → IsStatusAfter n (Ok tt) status k)
    → IsExtension A (λ k. Unit {0}) c d → IsExtension A (EndsWithStatus n status unprinted refused) c d
ends_done A n c d status unprinted refused is extends h at = let x = extends h at in (x.0, x.1, (current (x.0 ++ h) (is (x.0 ++ h) x.3).1, (Ok tt, tt, is (x.0 ++ h) x.3)), x.3)
  where
    current : (k : History) → ((status ≡ 0) × IsReported n k) ⊎ ((status ≡ 1) × ¬ (IsReported n k)) → status ≡ 0 → IsCurrent n k
    current k (inl reported) zero = inl reported.1
    current k (inr not) zero = absurd (let one = not.0 in omega (arith, one, zero))

-- a stop with status 0 is that of a later release
older_status : (stop : Stop) → status_of stop ≡ 0 → stop ≡ stops.Older
older_status stops.Older zero = refl
older_status stops.Broken zero = absurd (omega (arith, zero))
older_status stops.Missing zero = absurd (omega (arith, zero))
older_status stops.Unsatisfied zero = absurd (omega (arith, zero))
older_status stops.NoProgress zero = absurd (omega (arith, zero))
older_status stops.Print zero = absurd (omega (arith, zero))
older_status (stops.Refused refusals.TooLarge) zero = absurd (omega (arith, zero))
older_status (stops.Refused refusals.WrongSize) zero = absurd (omega (arith, zero))
older_status (stops.Refused refusals.Full) zero = absurd (omega (arith, zero))
older_status (stops.Refused refusals.BadPiece) zero = absurd (omega (arith, zero))
older_status (stops.Refused refusals.Unknown) zero = absurd (omega (arith, zero))
older_status (stops.Refused refusals.Outside) zero = absurd (omega (arith, zero))
older_status (stops.Refused refusals.Conflict) zero = absurd (omega (arith, zero))
older_status (stops.Refused refusals.Memory) zero = absurd (omega (arith, zero))
older_status (stops.Refused refusals.Device) zero = absurd (omega (arith, zero))
older_status (stops.Request (Dial f)) zero = absurd (omega (arith, zero))
older_status (stops.Request (Http http.HeadTooLong)) zero = absurd (omega (arith, zero))
older_status (stops.Request (Http http.BadHead)) zero = absurd (omega (arith, zero))
older_status (stops.Request (Http (http.Status n))) zero = absurd (omega (arith, zero))
older_status (stops.Request (Http http.Coding)) zero = absurd (omega (arith, zero))
older_status (stops.Request (Http http.Length)) zero = absurd (omega (arith, zero))
older_status (stops.Request (Http http.Range)) zero = absurd (omega (arith, zero))
older_status (stops.Request (Http http.BodyTooLong)) zero = absurd (omega (arith, zero))
older_status (stops.Request (Http http.Shelf)) zero = absurd (omega (arith, zero))
older_status (stops.Request (Http http.Read)) zero = absurd (omega (arith, zero))
older_status (stops.Request (Http http.Write)) zero = absurd (omega (arith, zero))
older_status (stops.Request (Http http.Short)) zero = absurd (omega (arith, zero))
older_status (stops.Request (Http http.Memory)) zero = absurd (omega (arith, zero))

-- an excused stop has status 3
pub excused_status : (stop : Stop) → IsExcused stop → status_of stop ≡ 3
excused_status (stops.Refused refusals.Memory) is = refl
excused_status (stops.Refused refusals.Device) is = refl
excused_status (stops.Request (Dial f)) is = refl
excused_status (stops.Request (Http http.Read)) is = refl
excused_status (stops.Request (Http http.Write)) is = refl
excused_status (stops.Request (Http http.Memory)) is = refl
excused_status stops.Print is = refl
excused_status stops.Older is = absurd is
excused_status stops.Broken is = absurd is
excused_status stops.Missing is = absurd is
excused_status stops.Unsatisfied is = absurd is
excused_status stops.NoProgress is = absurd is
excused_status (stops.Refused refusals.TooLarge) is = absurd is
excused_status (stops.Refused refusals.WrongSize) is = absurd is
excused_status (stops.Refused refusals.Full) is = absurd is
excused_status (stops.Refused refusals.BadPiece) is = absurd is
excused_status (stops.Refused refusals.Unknown) is = absurd is
excused_status (stops.Refused refusals.Outside) is = absurd is
excused_status (stops.Refused refusals.Conflict) is = absurd is
excused_status (stops.Request (Http http.HeadTooLong)) is = absurd is
excused_status (stops.Request (Http http.BadHead)) is = absurd is
excused_status (stops.Request (Http (http.Status n))) is = absurd is
excused_status (stops.Request (Http http.Coding)) is = absurd is
excused_status (stops.Request (Http http.Length)) is = absurd is
excused_status (stops.Request (Http http.Range)) is = absurd is
excused_status (stops.Request (Http http.BodyTooLong)) is = absurd is
excused_status (stops.Request (Http http.Shelf)) is = absurd is
excused_status (stops.Request (Http http.Short)) is = absurd is

-- the status of a stop
pub ends_stopped : (A : Event → Type 0) (n : Name) (c d : Recorded) (stop : Stop) (status : ℕ) (unprinted : Bool) (refused : Option DialFault)
    → HasCause unprinted refused stop → status ≡ status_of stop
    → IsExtension A (IsStoppedAt n stop) c d → IsExtension A (EndsWithStatus n status unprinted refused) c d
ends_stopped A n c d stop status unprinted refused caused is extends h at = let x = extends h at in (x.0, x.1, (current (x.0 ++ h) x.2, (Err stop, (x.2, caused), is)), x.3)
  where
    current : (k : History) → IsStoppedAt n stop k → status ≡ 0 → IsCurrent n k
    current k at zero = inr (subst (λ (s : Stop). IsStoppedAt n s k) (older_status stop (sym is ∙ zero)) at)

-- a print that failed ends a fetch with its own status
pub ends_unprinted : (A : Event → Type 0) (n : Name) (c d : Recorded) (P : History → Type 0) (status : ℕ) (unprinted : Bool) (refused : Option DialFault)
    → IsTrue unprinted → status ≡ 3
    → IsExtension A P c d → IsExtension A (EndsWithStatus n status unprinted refused) c d
ends_unprinted A n c d P status unprinted refused failed is extends =
    ends_stopped A n c d stops.Print status unprinted refused failed is (extends_so A A P (IsStoppedAt n stops.Print) c d (λ e one. one) (λ k p. tt) extends)

-- a print that failed is remembered
failed_first : (a b : Bool) → IsTrue a → IsTrue (a || b)
failed_first true b is = is
failed_first false b is = absurd (cc)

failed_second : (a b : Bool) → IsTrue b → IsTrue (a || b)
failed_second true b is = refl
failed_second false b is = is

pub caused_more : (u v : Bool) (refused : Option DialFault) (stop : Stop) → (IsTrue u → IsTrue v) → HasCause u refused stop → HasCause v refused stop
caused_more u v refused stops.Print more is = more is
caused_more u v refused (stops.Request (Dial f)) more is = is
caused_more u v refused (stops.Request (Http f)) more is = tt
caused_more u v refused (stops.Refused r) more is = tt
caused_more u v refused stops.Older more is = tt
caused_more u v refused stops.Broken more is = tt
caused_more u v refused stops.Missing more is = tt
caused_more u v refused stops.Unsatisfied more is = tt
caused_more u v refused stops.NoProgress more is = tt

-- output that was not flushed ends a fetch
pub ends_unflushed : (A : Event → Type 0) (n : Name) (c d : Recorded) (P : History → Type 0) (out faults : Bool) (refused : Option DialFault)
    → IsTrue out → IsExtension A P c d → IsExtension A (EndsWithStatus n 3 (out || faults) refused) c d
ends_unflushed A n c d P out faults refused failed extends = ends_unprinted A n c d P 3 (out || faults) refused (failed_first out faults failed) refl extends

-- a stop whose fault is printed, or not
pub ends_told : (A : Event → Type 0) (n : Name) (c d : Recorded) (stop : Stop) (status : ℕ) (out flushed faults : Bool) (refused : Option DialFault)
    → HasCause out refused stop → flushed ≡ out → (status ≡ status_of stop) ⊎ ((status ≡ 3) × IsTrue faults)
    → IsExtension A (IsStoppedAt n stop) c d → IsExtension A (EndsWithStatus n status (flushed || faults) refused) c d
ends_told A n c d stop status out flushed faults refused caused same (inl is) extends =
    ends_stopped A n c d stop status (flushed || faults) refused
    (caused_more out (flushed || faults) refused stop (λ u. failed_first flushed faults (subst IsTrue (sym same) u)) caused) is extends
ends_told A n c d stop status out flushed faults refused caused same (inr (is, failed)) extends =
    ends_unprinted A n c d (IsStoppedAt n stop) status (flushed || faults) refused (failed_second flushed faults failed) is extends

-- a stop without a connection has its cause, whatever the connections are
pub has_cause : (unprinted : Bool) (refused : Option DialFault) (stop : Stop) → HasCause unprinted None stop → HasCause unprinted refused stop
has_cause unprinted refused stops.Print is = is
has_cause unprinted refused (stops.Request (Dial f)) is = absurd (cc)
has_cause unprinted refused (stops.Request (Http f)) is = tt
has_cause unprinted refused (stops.Refused r) is = tt
has_cause unprinted refused stops.Older is = tt
has_cause unprinted refused stops.Broken is = tt
has_cause unprinted refused stops.Missing is = tt
has_cause unprinted refused stops.Unsatisfied is = tt
has_cause unprinted refused stops.NoProgress is = tt

pub any_cause : {T : Type 0} (unprinted : Bool) (refused : Option DialFault) (r : Result T Stop) → IfErr r (λ stop. HasCause unprinted None stop) → IfErr r (λ stop. HasCause unprinted refused stop)
any_cause unprinted refused (Ok x) is = tt
any_cause unprinted refused (Err stop) is = has_cause unprinted refused stop is

pub round_cause : (unprinted : Bool) (refused : Option DialFault) (taken : Result Bool Stop) → IfErr taken (λ stop. HasCause unprinted None stop)
    → IfErr (round_result taken) (λ stop. HasCause unprinted refused stop)
round_cause unprinted refused (Ok true) is = tt
round_cause unprinted refused (Ok false) is = tt
round_cause unprinted refused (Err stop) is = has_cause unprinted refused stop is
