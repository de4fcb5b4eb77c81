-- The responses that a fetch takes.
use Rattle.std.proofs.Common.{◌≡◌, ◌≤◌, ◌<◌, ◌+◌, ◌⊎◌, ℕ, List, length, Bool, Option, Some, None, Result, Ok, Err, refl, sym, subst, get_or, arith}
use Rattle.std.specs.Prelude.{slice_range, IsTrue}
use Rattle.feed_names.specs.ReleaseName.{Name}
use Rattle.feed_dial.specs.Responses.{Responses}
use Rattle.feed_http.specs.RequestTexts.{is_host}
use Rattle.feed_http.specs.declared.fetching.got.Got.{Got}
use Rattle.feed_http.specs.declared.fetching.got.Got.TheVariants as got
use Rattle.feed_model.specs.History.{Event, Offered, Piece, Lost, History}
use Rattle.feed_model.specs.Content.{Recorded, IsContent}
use Rattle.feed_limits.specs.Limits.{file_limit}
use Rattle.feed_model.specs.Reply.{max_piece}
use Rattle.feed_fetch.specs.declared.machine.Phase.{Phase}
use Rattle.feed_fetch.specs.declared.machine.Phase.TheVariants as phases
use Rattle.feed_fetch.specs.declared.machine.FetchRequest.{FetchRequest}
use Rattle.feed_fetch.specs.declared.machine.FetchRequest.TheVariants as requests
use Rattle.feed_fetch.specs.declared.machine.Next.TheVariants.{Ask, Done}
use Rattle.feed_fetch.specs.declared.stop.RequestFault.{RequestFault}
use Rattle.feed_fetch.specs.declared.stop.Stop.{Stop}
use Rattle.feed_fetch.specs.declared.stop.Stop.TheVariants as stops
use Rattle.feed_fetch.specs.Answers.{HasRightAnswer, offer_result, piece_result, round_result, response_or_stop}
use Rattle.feed_fetch.specs.Effects.{IsOpenTo, IsExtension, IsFetchEvent, IsTakenFrom, ServesFile, IsFetchable, IsOpened, IsFilled, IsFilledAfter, IsFetched, IsFilling, OrExcused}
use Rattle.feed_fetch.specs.Exchanges.{Opens, Fills}
use Rattle.feed_fetch.specs.Steps.{IsNextStep, IsResponseEvent, IsResponseOf, HasLength, HasRange}
use Rattle.feed_fetch.specs.Effects.{IsAllFetched}
use Rattle.feed_fetch.proofs.Fetches.{IsFilledBy, all_fetched, size_opens, piece_filled, asked_size, asked_places, pieces_are_events, size_is_event, fill_start, fill_counts}
use Rattle.feed_fetch.proofs.Filling.{asked_next, few_places, nothing_next}

-- a piece as the response gave it is an event of the response
pub piece_event : (n : Name) (given : Got) (e : Event) → IsTakenFrom n given e → IsResponseEvent n phases.Offered (Ok given) e
piece_event n given (Piece m f t b) of = of
piece_event n given (Offered m s) of = absurd of
piece_event n given (Lost m) of = absurd of

-- the stated length is offered
pub length_opens : (c d : Recorded) (n : Name) (file : List ℕ) (given : Got) (size : ℕ) (r : Result (Unit {0}) Stop) → IsFetchable file → given ≡ got.Size size → HasLength file (Ok given)
    → HasRightAnswer (λ answer. (r ≡ offer_result (response_or_stop answer)) ⊎ (r ≡ Err stops.Print)) c (Offered n size) d → IsOpened n file r c d
length_opens c d n file given size r fit is has answered = let e : given ≡ got.Size (length file) = has in size_opens c d n size file r fit (cc) answered

-- the next piece
pub range_fills : (c d : Recorded) (n : Name) (file : List ℕ) (piece first last : ℕ) (given : Got) (taken : Result Bool Stop) → IsFetchable file → HasRange file first last (Ok given)
    → ((f : ℕ) (t : Option ℕ) (b : List ℕ) → given ≡ got.Piece f t b → HasRightAnswer (λ answer. (taken ≡ piece_result (response_or_stop answer)) ⊎ (taken ≡ Err stops.Print)) c (Piece n f t b) d)
    → IsFilled n file piece first last (round_result taken) c d
range_fills c d n file piece first last given taken fit has answered =
    piece_filled c d n piece first last file taken fit (answered first (Some (length file)) (slice_range file first (last + 1)) has)

-- the events of a response are those of a fetch, if the response is one to the request that was made
pub reply_events : (known : Responses) (host : List ℕ) (n : Name) (piece : ℕ) (phase : Phase) (h : History) (request : FetchRequest) (reply : Result Got RequestFault)
    → IsNextStep n piece phase h (Ask request) → IsResponseOf known host n request reply
    → (e : Event) → IsResponseEvent n phase reply e → IsFetchEvent known host n e
reply_events known host n piece phases.New h requests.Length (Ok given) next of (Offered m s) is = (is.0, (size_is_event known host n given s is.1 of).1)
reply_events known host n piece phases.New h requests.Length (Ok given) next of (Piece m f t b) is = absurd is
reply_events known host n piece phases.New h requests.Length (Ok given) next of (Lost m) is = absurd is
reply_events known host n piece phases.New h requests.Length (Err why) next of (Lost m) is = is
reply_events known host n piece phases.New h requests.Length (Err why) next of (Offered m s) is = absurd is
reply_events known host n piece phases.New h requests.Length (Err why) next of (Piece m f t b) is = absurd is
reply_events known host n piece phases.New h (requests.Range first last) reply next of e is = absurd (cc)
reply_events known host n piece phases.Offered h requests.Length reply next of e is = absurd next
reply_events known host n piece phases.Offered h (requests.Range first last) (Ok given) next of (Piece m f t b) is = pieces_are_events known host n first last given of (Piece m f t b) is
reply_events known host n piece phases.Offered h (requests.Range first last) (Ok given) next of (Offered m s) is = absurd is
reply_events known host n piece phases.Offered h (requests.Range first last) (Ok given) next of (Lost m) is = absurd is
reply_events known host n piece phases.Offered h (requests.Range first last) (Err why) next of (Lost m) is = is
reply_events known host n piece phases.Offered h (requests.Range first last) (Err why) next of (Offered m s) is = absurd is
reply_events known host n piece phases.Offered h (requests.Range first last) (Err why) next of (Piece m f t b) is = absurd is
reply_events known host n piece phases.Stopped h request reply next of e is = absurd (cc)

-- a fetch of this file after so many responses
abbrev pub IsRun : Name → List ℕ → ℕ → Phase → ℕ → Recorded → Recorded → Type 0
IsRun n file piece phases.New count b c = (count ≡ 0) × (c ≡ b)
IsRun n file piece phases.Offered count b c = (m : ℕ) × (count ≡ m + 1) × IsFilledAfter n file piece m b c
IsRun n file piece phases.Stopped count b c = ⊥

-- the exchange of a fetch with an honest server
pub record IsHonest (known : Responses) (host : List ℕ) (n : Name) (file : List ℕ) (piece : ℕ) : Type 0 where
  pub serves : ServesFile known n file
  pub hosted : IsTrue (is_host host)
  pub fit : IsFetchable file
  pub least : 1 ≤ piece
  pub most : piece ≤ max_piece

-- what `take` makes of a response, for a file
pub record IsTakenOf (n : Name) (file : List ℕ) (piece : ℕ) (phase : Phase) (reply : Result Got RequestFault) (result : Result (Unit {0}) Stop) (c d : Recorded) : Type 0 where
  pub opens : phase ≡ phases.New → HasLength file reply → IsOpened n file result c d
  pub fills : (first last : ℕ) → phase ≡ phases.Offered → HasRange file first last reply → IsFilled n file piece first last result c d

pub taken_of : (n : Name) (file : List ℕ) (piece : ℕ) (phase : Phase) (reply : Result Got RequestFault) (result : Result (Unit {0}) Stop) (c d : Recorded) → IsFetchable file
    → Opens n phase reply result c d → Fills n phase reply result c d → IsTakenOf n file piece phase reply result c d
taken_of n file piece phase reply result c d fit opens fills = record {
  opens = λ new has. opens file new has fit;
  fills = λ first last offered has. fills file piece first last offered has fit;
}

-- the first response of an honest server
first_response : (known : Responses) (host : List ℕ) (n : Name) (file : List ℕ) (piece : ℕ) (request : FetchRequest) (reply : Result Got RequestFault) (result : Result (Unit {0}) Stop)
    (b c d : Recorded)
    → IsHonest known host n file piece → ((h : History) → IsContent c h → IsNextStep n piece phases.New h (Ask request)) → IsResponseOf known host n request reply
    → IsTakenOf n file piece phases.New reply result c d → c ≡ b → (h : History) → IsContent b h → IsOpened n file result c d
first_response known host n file piece request reply result b c d honest next of taken same h at =
    let e : Ask request ≡ Ask requests.Length = next h (subst (λ (x : Recorded). IsContent x h) (sym same) at) in
    let is : request ≡ requests.Length = cc in
    taken.opens refl (asked_size known host n file reply honest.serves honest.hosted honest.fit (subst (λ (r : FetchRequest). IsResponseOf known host n r reply) is of))

-- each further one
further_response : (known : Responses) (host : List ℕ) (n : Name) (file : List ℕ) (piece : ℕ) (request : FetchRequest) (reply : Result Got RequestFault) (result : Result (Unit {0}) Stop)
    (c d : Recorded)
    → IsHonest known host n file piece → ((h : History) → IsContent c h → IsNextStep n piece phases.Offered h (Ask request)) → IsResponseOf known host n request reply
    → IsTakenOf n file piece phases.Offered reply result c d → (h : History) → IsContent c h → IsFilling n file h
    → (k : History) × OrExcused result (IsFilledBy n file piece h k) × IsContent d k
further_response known host n file piece request reply result c d honest next of taken h at fill = by request (next h at) of
  where
    by : (r : FetchRequest) → IsNextStep n piece phases.Offered h (Ask r) → IsResponseOf known host n r reply → (k : History) × OrExcused result (IsFilledBy n file piece h k) × IsContent d k
    by requests.Length ask of = absurd ask
    by (requests.Range first last) ask of =
        let asked = asked_next h n file piece first last (Some (first, last)) refl honest.least honest.most fill ask in
        taken.fills first last refl (asked_places known host n file first last reply honest.serves honest.hosted honest.fit asked.next.order asked.next.within
        (few_places h n file piece first last asked) of) h at asked

-- after each response of an honest server that does not stop the fetch, one request fewer is needed
pub run_more : (known : Responses) (host : List ℕ) (n : Name) (file : List ℕ) (piece count : ℕ) (phase : Phase) (request : FetchRequest) (reply : Result Got RequestFault) (b c d : Recorded)
    → IsHonest known host n file piece → ((h : History) → IsContent c h → IsNextStep n piece phase h (Ask request)) → IsResponseOf known host n request reply
    → IsTakenOf n file piece phase reply (Ok tt) c d → IsRun n file piece phase count b c → IsRun n file piece phases.Offered (count + 1) b d
run_more known host n file piece count phases.New request reply b c d honest next of taken (zero, same) = (0, omega (arith, zero), filled)
  where
    filled : IsFilledAfter n file piece 0 b d
    filled h at ready =
        fill_start c d n file piece (first_response known host n file piece request reply (Ok tt) b c d honest next of taken same h at) h (subst (λ (x : Recorded). IsContent x h) (sym same) at)
        (subst (λ (x : Recorded). IsOpenTo x.most n file h) (sym same) ready)
run_more known host n file piece count phases.Offered request reply b c d honest next of taken (m, is, before) = (m + 1, omega (arith, is), filled)
  where
    filled : IsFilledAfter n file piece (m + 1) b d
    filled h at ready =
        let x = before h at ready in
        let y = further_response known host n file piece request reply (Ok tt) c d honest next of taken x.0 x.2 x.1.0 in
        let fewer = y.1.2 in
        (y.0, (y.1.0, omega (arith, fewer, x.1.1)), y.2)
run_more known host n file piece count phases.Stopped request reply b c d honest next of taken run = absurd run

-- a stop, after any response of an honest server, is excused
pub run_stops : (known : Responses) (host : List ℕ) (n : Name) (file : List ℕ) (piece count : ℕ) (phase : Phase) (request : FetchRequest) (reply : Result Got RequestFault) (stop : Stop)
    (b c d : Recorded)
    → IsHonest known host n file piece → ((h : History) → IsContent c h → IsNextStep n piece phase h (Ask request)) → IsResponseOf known host n request reply
    → IsTakenOf n file piece phase reply (Err stop) c d → IsRun n file piece phase count b c → IsFetched n file (Err stop) b d
run_stops known host n file piece count phases.New request reply stop b c d honest next of taken (zero, same) h at ready =
    first_response known host n file piece request reply (Err stop) b c d honest next of taken same h at h (subst (λ (x : Recorded). IsContent x h) (sym same) at)
    (subst (λ (x : Recorded). IsOpenTo x.most n file h) (sym same) ready)
run_stops known host n file piece count phases.Offered request reply stop b c d honest next of taken (m, is, before) h at ready =
    let x = before h at ready in further_response known host n file piece request reply (Err stop) c d honest next of taken x.0 x.2 x.1.0
run_stops known host n file piece count phases.Stopped request reply stop b c d honest next of taken run h at ready = absurd run

-- a fetch that needs nothing more has the file
pub run_ends : (n : Name) (file : List ℕ) (piece count : ℕ) (phase : Phase) (b c : Recorded) → 1 ≤ piece
    → ((h : History) → IsContent c h → IsNextStep n piece phase h Done) → IsRun n file piece phase count b c → IsFetched n file (Ok tt) b c
run_ends n file piece count phases.New b c least next (zero, same) h at ready =
    let e : Done ≡ Ask requests.Length = next h (subst (λ (x : Recorded). IsContent x h) (sym same) at) in absurd (cc)
run_ends n file piece count phases.Offered b c least next (m, is, before) h at ready =
    let x = before h at ready in (x.0, (x.1.0, nothing_next x.0 n file piece None refl least x.1.0 (next x.0 x.2)), x.2)
run_ends n file piece count phases.Stopped b c least next run h at ready = absurd run

-- there are at most as many responses as places, and one
pub run_counts : (n : Name) (file : List ℕ) (piece count : ℕ) (phase : Phase) (b c : Recorded) (result : Result (Unit {0}) Stop) → IsFetchable file → 1 ≤ piece → file_limit + 1 < count
    → IsRun n file piece phase count b c → IsFetched n file result b c
run_counts n file piece count phases.New b c result fit least most (zero, same) = absurd (omega (arith, zero, most))
run_counts n file piece count phases.Offered b c result fit least most (m, is, before) = fill_counts b c n file piece m result fit least (omega (arith, is, most)) before
run_counts n file piece count phases.Stopped b c result fit least most run = absurd run

-- a fetch begins without a response
pub run_start : (n : Name) (file : List ℕ) (piece : ℕ) (phase : Phase) (b : Recorded) → phase ≡ phases.New → IsRun n file piece phase 0 b b
run_start n file piece phase b is = subst (λ (p : Phase). IsRun n file piece p 0 b b) (sym is) (refl, refl)

-- a fetch that needs nothing more, and has not stopped, has no range to request
pub done_fetched : (h : History) (n : Name) (piece : ℕ) (phase : Phase) → 1 ≤ piece → (phase ≡ phases.Stopped → ⊥) → IsNextStep n piece phase h Done → IsAllFetched n h
done_fetched h n piece phases.New least running next = absurd (cc)
done_fetched h n piece phases.Offered least running next = all_fetched h n piece least next
done_fetched h n piece phases.Stopped least running next = absurd (running refl)

-- the feed's new events are those of a fetch
pub run_extends : (known : Responses) (host : List ℕ) (n : Name) (piece : ℕ) (phase : Phase) (request : FetchRequest) (reply : Result Got RequestFault) (P : History → Type 0) (c d : Recorded)
    → ((h : History) → IsContent c h → IsNextStep n piece phase h (Ask request)) → IsResponseOf known host n request reply
    → IsExtension (IsResponseEvent n phase reply) P c d → IsExtension (IsFetchEvent known host n) P c d
run_extends known host n piece phase request reply P c d next of extends h is =
    let x = extends h is in (x.0, λ i d lt. reply_events known host n piece phase h request reply (next h is) of (get_or x.0 i d).0 (x.1 i d lt), x.2, x.3)
