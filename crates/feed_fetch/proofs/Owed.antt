-- The steps that a response owes, one after another.
use Rattle.std.proofs.Common.{◌≡◌, ◌≤◌, ◌<◌, ◌+◌, ◌-◌, ◌⊎◌, ℕ, Bool, true, false, List, [], ◌∷◌, ◌++◌, length, take, drop, min}
use Rattle.std.proofs.Common.{Option, Some, None, Result, Ok, Err, inl, inr, refl, sym, ap, subst, ◌∙◌, arith}
use Rattle.std.specs.Prelude.{slice_range, IfErr, IsTrue, MatchResult, All, nat_lt}
use Rattle.std.proofs.lemmas.Bool.Decides.{nat_tests}
use Rattle.std.proofs.lemmas.List.{take_all, length-drop, length-take}
use Rattle.std.proofs.lemmas.List.Elements.{All-cons, All-nil}
use Rattle.httparse.proofs.RunLemmas.{length-slice_range}
use Rattle.feed_limits.specs.Limits.{piece_limit}
use Rattle.feed_names.specs.ReleaseName.{Name}
use Rattle.feed_http.specs.declared.fetching.got.Got.{Got}
use Rattle.feed_http.specs.declared.fetching.got.Got.TheVariants as got
use Rattle.feed_http_heads.specs.declared.http_fault.HttpFault.{HttpFault}
use Rattle.feed_model.specs.Content.{Recorded, IsContent}
use Rattle.feed_model.specs.Handles.{Handles}
use Rattle.feed_model.specs.History.{Event, Offered, Piece, Lost, Answer, History}
use Rattle.feed_model.specs.declared.reply.Reply.{Reply}
use Rattle.feed_model.specs.declared.reply.Reply.TheVariants as replies
use Rattle.feed_fetch.specs.declared.machine.Phase.{Phase}
use Rattle.feed_fetch.specs.declared.machine.Phase.TheVariants as phases
use Rattle.feed_fetch.specs.declared.stop.RequestFault.{RequestFault}
use Rattle.feed_fetch.specs.declared.stop.RequestFault.TheVariants.{Dial, Http}
use Rattle.feed_fetch.specs.declared.stop.Stop.{Stop}
use Rattle.feed_fetch.specs.declared.stop.Stop.TheVariants as stops
use Rattle.feed_fetch.specs.Answers.{HasCause, HasRightAnswer, IsExcused, IsStoppedAt, add_news, first_stop, offer_result, piece_result, response_or_stop, round_result}
use Rattle.feed_fetch.specs.Effects.{IsExtension, IsFilled, IsOpened, IsPieceOf}
use Rattle.feed_fetch.specs.Owed.{AreSteps, IsSubmitted, end_of, is_followed, may_follow, owed_event, piece_at}
use Rattle.feed_fetch.specs.Steps.{IsResponseEvent, without_news}
use Rattle.feed_fetch.proofs.Extensions.{caused_more, lost_stops, older_offer, older_piece, stands_done, stands_news, stands_told}

abbrev pub StopsAt : {T : Type 0} → Name → Result T Stop → History → Type 0
StopsAt n result k = IfErr result (λ stop. IsStoppedAt n stop k)

-- no more than there are
take_most : (most count : ℕ) (xs : List ℕ) → count ≡ min (length xs) most → take count xs ≡ take most xs
take_most most count xs is = by (nat_lt most (length xs)) refl
  where
    by : (b : Bool) → nat_lt most (length xs) ≡ b → take count xs ≡ take most xs
    by true e = let lt : most < length xs = grind (arith, nat_tests) in let same : count ≡ most = omega (arith, is, lt) in ap (λ k. take k xs) same
    by false e =
        let le : length xs ≤ most = grind (arith, nat_tests) in
        let same : count ≡ length xs = omega (arith, is, le) in
        ap (λ k. take k xs) same ∙ take_all (length xs) xs (omega arith) ∙ sym (take_all most xs le)

-- the piece at a place of a whole file is the one that is owed there
piece_owed : (n : Name) (all : List ℕ) (first count : ℕ) → first < length all → count ≡ min (length all - first) piece_limit
    → piece_at n all first ≡ Some (Piece n first (Some (length all)) (slice_range all first (first + count)))
piece_owed n all first count lt is =
    let inside : nat_lt first (length all) ≡ true = grind (arith, nat_tests) in
    let same : first + count - first ≡ count = omega arith in
    let some : count ≡ min (length (drop first all)) piece_limit = omega (arith, is, length-drop first all) in
    rw inside (ap (λ (bytes : List ℕ). Some (Piece n first (Some (length all)) bytes)) (sym (ap (λ k. take k (drop first all)) same ∙ take_most piece_limit count (drop first all) some)))

-- none is owed behind the last place
none_owed_at : (n : Name) (all : List ℕ) (first : ℕ) → length all ≤ first → piece_at n all first ≡ None
none_owed_at n all first le = let outside : nat_lt first (length all) ≡ false = grind (arith, nat_tests) in rw outside refl

-- the pieces of a whole file up to this place were passed
abbrev pub IsUnderWay : Name → List ℕ → ℕ → Recorded → Recorded → Type 0
IsUnderWay n all first c d =
    (h : History) → IsContent c h
    → (steps : History) × AreSteps n phases.Offered (Ok (got.Whole all)) steps × (may_follow steps ≡ true) × (first ≡ end_of steps) × IsContent d (steps ++ h)

pub under_way : (n : Name) (all : List ℕ) (c : Recorded) → IsUnderWay n all 0 c c
under_way n all c h is = ([], tt, refl, refl, is)

-- the next piece
pub next_piece : (b c d : Recorded) (n : Name) (all : List ℕ) (first count : ℕ) (answer : Answer) → first < length all → count ≡ min (length all - first) piece_limit
    → is_followed answer ≡ true → IsUnderWay n all first b c → Handles c (Piece n first (Some (length all)) (slice_range all first (first + count))) answer d
    → IsUnderWay n all (first + count) b d
next_piece b c d n all first count answer lt is followed before handled h at =
    let x = before h at in
    let bytes = slice_range all first (first + count) in
    let len : length bytes ≡ first + count - first = length-slice_range all first (first + count) (omega arith) (omega (arith, is, lt)) in (
      (Piece n first (Some (length all)) bytes, answer) ∷ x.0,
      (subst (λ place. piece_at n all place ≡ Some (Piece n first (Some (length all)) bytes)) x.3 (piece_owed n all first count lt is), x.2, x.1),
      followed,
      omega (arith, len),
      (handled (x.0 ++ h) x.4).1,
    )

news_stop : (n : Name) (k : History) (was : Result Bool Stop) (reply : Result Reply Stop) → IfErr was (λ stop. stop ≡ stops.Print) → StopsAt n reply k → StopsAt n (add_news was reply) k
news_stop n k (Err stop) reply print is = subst (λ (s : Stop). IsStoppedAt n s k) (sym print) tt
news_stop n k (Ok was) (Ok reply) print is = tt
news_stop n k (Ok was) (Err stop) print is = is

print_stop : (n : Name) (k : History) (was : Result Bool Stop) → IfErr was (λ stop. stop ≡ stops.Print) → StopsAt n was k
print_stop n k (Ok was) print = tt
print_stop n k (Err stop) print = subst (λ (s : Stop). IsStoppedAt n s k) (sym print) tt

-- an answer that a piece follows stops nothing
followed_goes_on : (answer : Answer) (stop : Stop) → is_followed answer ≡ true → Err stop ≡ response_or_stop answer → ⊥
followed_goes_on (Ok (replies.Stored missing)) stop followed is = cc (is)
followed_goes_on (Ok replies.Repeated) stop followed is = cc (is)
followed_goes_on (Ok replies.Noted) stop followed is = cc (followed)
followed_goes_on (Ok replies.Known) stop followed is = cc (followed)
followed_goes_on (Ok replies.Activated) stop followed is = cc (followed)
followed_goes_on (Ok (replies.Broken why)) stop followed is = cc (followed)
followed_goes_on (Ok replies.Older) stop followed is = cc (followed)
followed_goes_on (Ok replies.Nothing) stop followed is = cc (followed)
followed_goes_on (Err refusal) stop followed is = cc (followed)

pub news_printed : (answer : Answer) (was : Result Bool Stop) (reply : Result Reply Stop) → is_followed answer ≡ true → IfErr was (λ stop. stop ≡ stops.Print)
    → (reply ≡ response_or_stop answer) ⊎ (reply ≡ Err stops.Print) → IfErr (add_news was reply) (λ stop. stop ≡ stops.Print)
news_printed answer (Err stop) reply followed print so = print
news_printed answer (Ok was) (Ok reply) followed print so = tt
news_printed answer (Ok was) (Err stop) followed print (inl is) = absurd (followed_goes_on answer stop followed is)
news_printed answer (Ok was) (Err stop) followed print (inr is) = cc (is)

pub news_caused : (old new : Bool) (was : Result Bool Stop) (reply : Result Reply Stop) → (IsTrue old → IsTrue new) → IfErr was (λ stop. HasCause old None stop)
    → IfErr reply (λ stop. HasCause new None stop) → IfErr (add_news was reply) (λ stop. HasCause new None stop)
news_caused old new (Err stop) reply kept before now = caused_more old new None stop kept before
news_caused old new (Ok was) (Ok reply) kept before now = tt
news_caused old new (Ok was) (Err stop) kept before now = now

pub answered_so : {A B C : Type 0} → (A × B) ⊎ C → A ⊎ C
answered_so (inl x) = inl x.0
answered_so (inr y) = inr y

-- the piece that no other follows
pub last_piece : (b c d : Recorded) (n : Name) (all : List ℕ) (first count : ℕ) (answer : Answer) (was : Result Bool Stop) (reply : Result Reply Stop) → first < length all
    → count ≡ min (length all - first) piece_limit → is_followed answer ≡ false → IfErr was (λ stop. stop ≡ stops.Print) → (reply ≡ response_or_stop answer) ⊎ (reply ≡ Err stops.Print)
    → IsUnderWay n all first b c → Handles c (Piece n first (Some (length all)) (slice_range all first (first + count))) answer d
    → IsSubmitted n phases.Offered (Ok (got.Whole all)) (StopsAt n (add_news was reply)) b d
last_piece b c d n all first count answer was reply lt is last print so before handled h at =
    let x = before h at in
    let bytes = slice_range all first (first + count) in
    let y = handled (x.0 ++ h) x.4 in (
      (Piece n first (Some (length all)) bytes, answer) ∷ x.0,
      ((subst (λ place. piece_at n all place ≡ Some (Piece n first (Some (length all)) bytes)) x.3 (piece_owed n all first count lt is), x.2, x.1), inr last),
      news_stop n ((Piece n first (Some (length all)) bytes, answer) ∷ (x.0 ++ h)) was reply print
          (stands_told (x.0 ++ h) n (Piece n first (Some (length all)) bytes) answer reply (older_piece (x.0 ++ h) n first (Some (length all)) bytes answer y.0) so),
      y.1,
    )

-- all of them
pub all_pieces : (b c : Recorded) (n : Name) (all : List ℕ) (first : ℕ) (was : Result Bool Stop) → length all ≤ first → IfErr was (λ stop. stop ≡ stops.Print) → IsUnderWay n all first b c
    → IsSubmitted n phases.Offered (Ok (got.Whole all)) (StopsAt n was) b c
all_pieces b c n all first was le print before h at =
    let x = before h at in
    (x.0, (x.1, inl (subst (λ place. piece_at n all place ≡ None) x.3 (none_owed_at n all first le))), print_stop n (x.0 ++ h) was print, x.4)

-- one piece
pub one_piece : (c d : Recorded) (n : Name) (first : ℕ) (total : Option ℕ) (bytes : List ℕ) (result : Result Bool Stop)
    → HasRightAnswer (λ answer. (result ≡ piece_result (response_or_stop answer)) ⊎ (result ≡ Err stops.Print)) c (Piece n first total bytes) d
    → IsSubmitted n phases.Offered (Ok (got.Piece first total bytes)) (StopsAt n result) c d
one_piece c d n first total bytes result answered h is =
    let t = answered h is in (
      (Piece n first total bytes, t.0) ∷ [],
      ((refl, refl, tt), inl refl),
      stands_news h n (Piece n first total bytes) t.0 result (older_piece h n first total bytes t.0 t.1) t.2,
      t.3,
    )

-- the offer
pub one_offer : (c d : Recorded) (n : Name) (size : ℕ) (result : Result (Unit {0}) Stop)
    → HasRightAnswer (λ answer. (result ≡ offer_result (response_or_stop answer)) ⊎ (result ≡ Err stops.Print)) c (Offered n size) d
    → IsSubmitted n phases.New (Ok (got.Size size)) (StopsAt n result) c d
one_offer c d n size result answered h is =
    let t = answered h is in (
      (Offered n size, t.0) ∷ [],
      ((refl, refl, tt), inl refl),
      stands_done h n (Offered n size) t.0 result (older_offer c.most h n size t.0 t.1) t.2,
      t.3,
    )

-- a response that owes nothing
pub none_owed : (P : History → Type 0) (n : Name) (phase : Phase) (reply : Result Got RequestFault) (c : Recorded) → owed_event n phase reply [] ≡ None → ((h : History) → P h)
    → IsSubmitted n phase reply P c c
none_owed P n phase reply c none all h is = ([], (tt, inl none), all h, is)

-- a loss owes its event while the fetch has not stopped
pub one_loss : (P : History → Type 0) (n : Name) (phase : Phase) (fault : HttpFault) (c d : Recorded) → (phase ≡ phases.Stopped → ⊥)
    → ((h : History) → IsContent c h → (answer : Answer) × P ((Lost n, answer) ∷ h) × IsContent d ((Lost n, answer) ∷ h))
    → IsSubmitted n phase (Err (Http fault)) P c d
one_loss P n phases.New fault c d runs lost h is = let t = lost h is in ((Lost n, t.0) ∷ [], ((refl, refl, tt), inl refl), t.1, t.2)
one_loss P n phases.Offered fault c d runs lost h is = let t = lost h is in ((Lost n, t.0) ∷ [], ((refl, refl, tt), inl refl), t.1, t.2)
one_loss P n phases.Stopped fault c d runs lost h is = absurd (runs refl)

pub lost_steps : (c d : Recorded) (n : Name) (why : RequestFault) (fault : HttpFault) (result : Result Reply Stop) (stop : Stop) (phase : Phase) → why ≡ Http fault
    → MatchResult result (λ reply. stop ≡ stops.Request why) (λ unprinted. stop ≡ unprinted)
    → HasRightAnswer (λ answer. (result ≡ response_or_stop answer) ⊎ (result ≡ Err stops.Print)) c (Lost n) d → (phase ≡ phases.Stopped → ⊥)
    → IsSubmitted n phase (Err why) (λ k. ((stop ≡ stops.Request why) ⊎ (stop ≡ stops.Print)) × IsStoppedAt n stop k) c d
lost_steps c d n why fault result stop phase http so answered runs =
    subst (λ (w : RequestFault). IsSubmitted n phase (Err w) (λ k. ((stop ≡ stops.Request why) ⊎ (stop ≡ stops.Print)) × IsStoppedAt n stop k) c d) (sym http)
    (one_loss (λ k. ((stop ≡ stops.Request why) ⊎ (stop ≡ stops.Print)) × IsStoppedAt n stop k) n phase fault c d runs (lost_stops c d n why fault result stop http so answered))

-- a print that failed before the offer is the reason for the stop
pub offer_reported : (c d : Recorded) (n : Name) (given : Got) (size : ℕ) (X : Stop → Type 0) (reported offered : Result (Unit {0}) Stop) → given ≡ got.Size size
    → IfErr reported (λ stop. (stop ≡ stops.Print) ⊎ (((size : ℕ) → given ≡ got.Size size → ⊥) × X stop))
    → HasRightAnswer (λ answer. (offered ≡ offer_result (response_or_stop answer)) ⊎ (offered ≡ Err stops.Print)) c (Offered n size) d
    → HasRightAnswer (λ answer. (first_stop reported offered ≡ offer_result (response_or_stop answer)) ⊎ (first_stop reported offered ≡ Err stops.Print)) c (Offered n size) d
offer_reported c d n given size X (Ok done) offered is printed answered h at = answered h at
offer_reported c d n given size X (Err stop) offered is (inl print) answered h at = let t = answered h at in (t.0, t.1, inr (ap (λ (s : Stop). Err s) print), t.3)
offer_reported c d n given size X (Err stop) offered is (inr other) answered h at = absurd (other.0 size is)

-- a loss that is excused
lost_excused : (why : RequestFault) (stop : Stop) → IsExcused (stops.Request why) → (stop ≡ stops.Request why) ⊎ (stop ≡ stops.Print) → IsExcused stop
lost_excused why stop excused (inl is) = subst IsExcused (sym is) excused
lost_excused why stop excused (inr is) = subst IsExcused (sym is) tt

pub loss_opens : (c d : Recorded) (n : Name) (file : List ℕ) (phase : Phase) (why : RequestFault) (stop : Stop) → IsExcused (stops.Request why)
    → IsSubmitted n phase (Err why) (λ k. ((stop ≡ stops.Request why) ⊎ (stop ≡ stops.Print)) × IsStoppedAt n stop k) c d → IsOpened n file (Err stop) c d
loss_opens c d n file phase why stop excused submitted h is ready = let x = submitted h is in (x.0 ++ h, lost_excused why stop excused x.2.0, x.3)

pub loss_fills : (c d : Recorded) (n : Name) (file : List ℕ) (piece first last : ℕ) (phase : Phase) (why : RequestFault) (stop : Stop) → IsExcused (stops.Request why)
    → IsSubmitted n phase (Err why) (λ k. ((stop ≡ stops.Request why) ⊎ (stop ≡ stops.Print)) × IsStoppedAt n stop k) c d → IsFilled n file piece first last (Err stop) c d
loss_fills c d n file piece first last phase why stop excused submitted h is ready = let x = submitted h is in (x.0 ++ h, lost_excused why stop excused x.2.0, x.3)

pub submitted_so : (P Q : History → Type 0) (n : Name) (phase : Phase) (reply : Result Got RequestFault) (c d : Recorded) → ((k : History) → P k → Q k)
    → IsSubmitted n phase reply P c d → IsSubmitted n phase reply Q c d
submitted_so P Q n phase reply c d so submitted h is = let x = submitted h is in (x.0, x.1, so (x.0 ++ h) x.2, x.3)

-- a round without news stops the fetch
pub round_submitted : (n : Name) (phase : Phase) (reply : Result Got RequestFault) (c d : Recorded) (taken : Result Bool Stop)
    → IsSubmitted n phase reply (λ k. IfErr taken (λ stop. IsStoppedAt n stop k)) c d
    → IsSubmitted n phase reply (λ k. IfErr (round_result taken) (λ stop. IsStoppedAt n stop k)) c d
round_submitted n phase reply c d taken submitted =
    submitted_so (λ k. IfErr taken (λ stop. IsStoppedAt n stop k)) (λ k. IfErr (round_result taken) (λ stop. IsStoppedAt n stop k)) n phase reply c d (λ k is. by k taken is) submitted
  where
    by : (k : History) (r : Result Bool Stop) → IfErr r (λ stop. IsStoppedAt n stop k) → IfErr (round_result r) (λ stop. IsStoppedAt n stop k)
    by k (Ok true) is = tt
    by k (Ok false) is = tt
    by k (Err stop) is = is

-- a piece without news does not, if its file is read again
pub again_submitted : (n : Name) (phase : Phase) (reply : Result Got RequestFault) (c d : Recorded) (taken : Result Bool Stop)
    → IsSubmitted n phase reply (λ k. IfErr taken (λ stop. IsStoppedAt n stop k)) c d
    → IsSubmitted n phase reply (λ k. IfErr (without_news taken) (λ stop. IsStoppedAt n stop k)) c d
again_submitted n phase reply c d taken submitted =
    submitted_so (λ k. IfErr taken (λ stop. IsStoppedAt n stop k)) (λ k. IfErr (without_news taken) (λ stop. IsStoppedAt n stop k)) n phase reply c d (λ k is. by k taken is) submitted
  where
    by : (k : History) (r : Result Bool Stop) → IfErr r (λ stop. IsStoppedAt n stop k) → IfErr (without_news r) (λ stop. IsStoppedAt n stop k)
    by k (Ok is_new) is = tt
    by k (Err stop) is = is

-- a request that got no answer stops the fetch
pub lost_submitted : (n : Name) (phase : Phase) (c d : Recorded) (stop : Stop) (why : RequestFault) → (phase ≡ phases.Stopped → ⊥)
    → ((phase : Phase) → (phase ≡ phases.Stopped → ⊥)
    → IsSubmitted n phase (Err why) (λ k. ((stop ≡ stops.Request why) ⊎ (stop ≡ stops.Print)) × IsStoppedAt n stop k) c d)
    → IsSubmitted n phase (Err why) (IsStoppedAt n stop) c d
lost_submitted n phase c d stop why runs submitted =
    submitted_so (λ k. ((stop ≡ stops.Request why) ⊎ (stop ≡ stops.Print)) × IsStoppedAt n stop k) (IsStoppedAt n stop) n phase (Err why) c d (λ k is. is.1) (submitted phase runs)

-- the bytes of an owed piece are a range of the file
piece_in : (all : List ℕ) (first : ℕ) → first < length all → IsPieceOf (got.Whole all) first (Some (length all)) (take piece_limit (drop first all))
piece_in all first lt =
    let len = length-take piece_limit (drop first all) in
    let rest = length-drop first all in
    let count : length (take piece_limit (drop first all)) ≡ min (length (drop first all)) piece_limit = omega (arith, len) in
    let same : first + length (take piece_limit (drop first all)) - first ≡ length (take piece_limit (drop first all)) = omega arith in
    (refl, omega (arith, count, rest, lt), sym (ap (λ k. take k (drop first all)) same ∙ take_most piece_limit (length (take piece_limit (drop first all))) (drop first all) count))

whole_event : (n : Name) (all : List ℕ) (first : ℕ) (event : Event) → piece_at n all first ≡ Some event → IsResponseEvent n phases.Offered (Ok (got.Whole all)) event
whole_event n all first event is = by (nat_lt first (length all)) refl
  where
    by : (b : Bool) → nat_lt first (length all) ≡ b → IsResponseEvent n phases.Offered (Ok (got.Whole all)) event
    by false outside = absurd (let none : piece_at n all first ≡ None = rw outside refl in cc (none, is))
    by true inside =
        let lt : first < length all = grind (arith, nat_tests) in
        let piece : piece_at n all first ≡ Some (Piece n first (Some (length all)) (take piece_limit (drop first all))) = rw inside refl in
        let same : Piece n first (Some (length all)) (take piece_limit (drop first all)) ≡ event = cc (piece, is) in
        subst (IsResponseEvent n phases.Offered (Ok (got.Whole all))) same (refl, piece_in all first lt)

-- an owed event is one that the response gives
step_event : (n : Name) (phase : Phase) (reply : Result Got RequestFault) (earlier : History) (event : Event) → owed_event n phase reply earlier ≡ Some event → IsResponseEvent n phase reply event
step_event n phases.New (Ok (got.Size size)) [] event is = let same : Offered n size ≡ event = cc (is) in subst (IsResponseEvent n phases.New (Ok (got.Size size))) same (refl, refl)
step_event n phases.New (Ok (got.Size size)) (step ∷ more) event is = absurd (cc (is))
step_event n phases.New (Ok (got.Piece first total bytes)) earlier event is = absurd (cc (is))
step_event n phases.New (Ok (got.Whole all)) earlier event is = absurd (cc (is))
step_event n phases.New (Ok got.Missing) earlier event is = absurd (cc (is))
step_event n phases.New (Ok (got.Unsatisfied total)) earlier event is = absurd (cc (is))
step_event n phases.New (Err (Http fault)) [] event is = let same : Lost n ≡ event = cc (is) in subst (IsResponseEvent n phases.New (Err (Http fault))) same refl
step_event n phases.New (Err (Http fault)) (step ∷ more) event is = absurd (cc (is))
step_event n phases.New (Err (Dial fault)) earlier event is = absurd (cc (is))
step_event n phases.Offered (Ok (got.Piece first total bytes)) [] event is =
    let same : Piece n first total bytes ≡ event = cc (is) in subst (IsResponseEvent n phases.Offered (Ok (got.Piece first total bytes))) same (refl, (refl, refl, refl))
step_event n phases.Offered (Ok (got.Piece first total bytes)) (step ∷ more) event is = absurd (cc (is))
step_event n phases.Offered (Ok (got.Whole all)) earlier event is = whole_event n all (end_of earlier) event is
step_event n phases.Offered (Ok (got.Size size)) earlier event is = absurd (cc (is))
step_event n phases.Offered (Ok got.Missing) earlier event is = absurd (cc (is))
step_event n phases.Offered (Ok (got.Unsatisfied total)) earlier event is = absurd (cc (is))
step_event n phases.Offered (Err (Http fault)) [] event is = let same : Lost n ≡ event = cc (is) in subst (IsResponseEvent n phases.Offered (Err (Http fault))) same refl
step_event n phases.Offered (Err (Http fault)) (step ∷ more) event is = absurd (cc (is))
step_event n phases.Offered (Err (Dial fault)) earlier event is = absurd (cc (is))
step_event n phases.Stopped reply earlier event is = absurd (cc (is))

-- the steps that a response owes are events that it gives
pub steps_given : (n : Name) (phase : Phase) (reply : Result Got RequestFault) (steps : History) → AreSteps n phase reply steps → All (λ step. IsResponseEvent n phase reply step.0) steps
steps_given n phase reply [] are = All-nil (λ step. IsResponseEvent n phase reply step.0)
steps_given n phase reply ((event, answer) ∷ earlier) are =
    All-cons (λ step. IsResponseEvent n phase reply step.0) (event, answer) earlier (step_event n phase reply earlier event are.0) (steps_given n phase reply earlier are.2)

pub submitted_extends : (P : History → Type 0) (n : Name) (phase : Phase) (reply : Result Got RequestFault) (c d : Recorded) → IsSubmitted n phase reply P c d
    → IsExtension (IsResponseEvent n phase reply) P c d
submitted_extends P n phase reply c d submitted h is = let x = submitted h is in (x.0, steps_given n phase reply x.0 x.1.0, x.2, x.3)
