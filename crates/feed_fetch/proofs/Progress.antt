-- A fetch from an honest server, exchange by exchange.
use Rattle.std.proofs.Common.{◌≡◌, ◌<◌, ◌≤◌, ◌+◌, ℕ, zero, suc, List, length, Some, None, IsSome, Ok, Err, refl, sym, ◌∙◌, subst, arith}
use Rattle.feed_names.specs.ReleaseName.{Name}
use Rattle.feed_dial.specs.Responses.{Responses}
use Rattle.feed_model.specs.History.{History, kept, IsFile}
use Rattle.feed_model.specs.Content.{Recorded, IsContent}
use Rattle.feed_model.proofs.Bytes.{slice_some}
use Rattle.feed_model.proofs.Tests.{record_good}
use Rattle.feed_fetch.specs.declared.machine.Next.{Next}
use Rattle.feed_fetch.specs.declared.machine.Next.TheVariants.{Ask, Done}
use Rattle.feed_fetch.specs.declared.machine.Phase.{Phase}
use Rattle.feed_fetch.specs.declared.machine.Phase.TheVariants as phases
use Rattle.feed_fetch.specs.declared.machine.FetchRequest.TheVariants as requests
use Rattle.feed_fetch.specs.Effects.{IsFetchable, IsOpenTo, IsFilling, IsReported}
use Rattle.feed_fetch.specs.Exchanges.{AreExchanges, IsHonestFetch, IsBounded, IsEnding, IsExcusedAlone, NeedsWhole}
use Rattle.feed_fetch.specs.Gaps.{requests_of}
use Rattle.feed_fetch.specs.Steps.{IsNextStep}
use Rattle.feed_fetch.proofs.Gaps.{ceil_none, needed_before, needed_missing, needed_run}
use Rattle.feed_fetch.proofs.Filling.{asked_next, nothing_next}
use Rattle.feed_fetch.proofs.Runs.{IsRun, IsHonest, taken_of, run_more, run_stops}

honest_of : (replies : Responses) (host : List ℕ) (n : Name) (file : List ℕ) (piece : ℕ) (c : Recorded) (h : History) → IsHonestFetch replies host n file piece c h
    → IsHonest replies host n file piece
honest_of replies host n file piece c h fetch = record { serves = fetch.serves; hosted = fetch.host_is; fit = fetch.fit; least = fetch.least; most = fetch.most }

run_of : (replies : Responses) (host : List ℕ) (n : Name) (file : List ℕ) (piece count : ℕ) (c d : Recorded) (phase : Phase) → IsHonest replies host n file piece
    → AreExchanges replies host n piece count phases.New c phase d → IsRun n file piece phase count c d
run_of replies host n file piece zero c d phase honest (at, same) = subst (λ (p : Phase). IsRun n file piece p 0 c d) (sym at) (refl, same)
run_of replies host n file piece (suc count) c d phase honest (before, between, earlier, one, at) =
    let more = run_more replies host n file piece count before one.request one.reply c between d honest one.asks one.replied
    (taken_of n file piece before one.reply (Ok tt) between d honest.fit one.opens one.fills) (run_of replies host n file piece count c between before honest earlier) in
    let next : count + 1 ≡ suc count = omega arith in
    subst (λ (p : Phase). IsRun n file piece p (suc count) c d) (sym at) (subst (λ (k : ℕ). IsRun n file piece phases.Offered k c d) next more)

run_bounded : (n : Name) (file : List ℕ) (piece count : ℕ) (phase : Phase) (c d : Recorded) (h : History) → IsContent c h → IsOpenTo c.most n file h → IsRun n file piece phase count c d
    → count ≤ 1 + requests_of n file piece h
run_bounded n file piece count phases.New c d h at ready (none, same) = omega (arith, none)
run_bounded n file piece count phases.Offered c d h at ready (m, is, before) = let x = before h at ready in let left = x.1.1 in omega (arith, is, left)
run_bounded n file piece count phases.Stopped c d h at ready run = absurd run

-- a range that is asked for has a missing place
needs_more : (n : Name) (file : List ℕ) (piece first last : ℕ) (k : History) → 1 ≤ piece → piece ≤ 1048576 → IsFilling n file k
    → IsNextStep n piece phases.Offered k (Ask (requests.Range first last)) → 0 < requests_of n file piece k
needs_more n file piece first last k least most fill next =
    let asked = asked_next k n file piece first last (Some (first, last)) refl least most fill next in
    let order = asked.next.order in
    let within = asked.next.within in
    needed_missing piece (kept k n) (length file) 0 first least (omega (arith, order, within)) (asked.next.missing first (omega arith) order)

-- a whole file needs no request
needs_nothing : (n : Name) (file : List ℕ) (piece : ℕ) (k : History) → 1 ≤ piece → IsFile k n file → requests_of n file piece k ≡ 0
needs_nothing n file piece k least whole =
    needed_before piece (kept k n) (length file) 0 least (λ place lt. subst IsSome (sym (whole.1 place lt)) (slice_some file place lt)) ∙ ceil_none piece least

-- what follows the last exchange
abbrev Ends : Name → List ℕ → ℕ → ℕ → Recorded → History → Next → Type 0
Ends n file piece count d h next =
    (count ≡ 1 + requests_of n file piece h → next ≡ Done)
    × (next ≡ Done → (count ≡ 1 + requests_of n file piece h) × ((k : History) × IsContent d k × IsReported n k))

run_ending : (n : Name) (file : List ℕ) (piece count : ℕ) (phase : Phase) (c d : Recorded) (h : History) (next : Next) → IsFetchable file → 1 ≤ piece → piece ≤ 1048576
    → IsContent c h → IsOpenTo c.most n file h → IsRun n file piece phase count c d → ((k : History) → IsContent d k → IsNextStep n piece phase k next) → Ends n file piece count d h next
run_ending n file piece count phases.New c d h next fit least most at ready (none, same) step =
    let asks : next ≡ Ask requests.Length = step h (subst (λ (x : Recorded). IsContent x h) (sym same) at) in
    (λ all. absurd (omega (arith, none, all)), λ done. absurd (let e : Done ≡ Ask requests.Length = sym done ∙ asks in cc))
run_ending n file piece count phases.Offered c d h next fit least most at ready (m, is, before) step = by next (step x.0 x.2)
  where
    x : (k : History) × (IsFilling n file k × (m + requests_of n file piece k ≡ requests_of n file piece h)) × IsContent d k
    x = before h at ready

    by : (next : Next) → IsNextStep n piece phases.Offered x.0 next → Ends n file piece count d h next
    by (Ask requests.Length) asks = absurd asks
    by (Ask (requests.Range first last)) asks =
        (λ all. absurd (let more = needs_more n file piece first last x.0 least most x.1.0 asks in let left = x.1.1 in omega (arith, is, all, more, left)), λ done. absurd (cc))
    by Done asks =
        let whole : IsFile x.0 n file = nothing_next x.0 n file piece None refl least x.1.0 asks in
        let none = needs_nothing n file piece x.0 least whole in
        let left = x.1.1 in
        (λ all. refl, λ done. (omega (arith, is, none, left), (x.0, x.2, (refl, (record_good d.content x.0 x.2 n (file, whole, fit.good) x.1.0.current).3))))
run_ending n file piece count phases.Stopped c d h next fit least most at ready run step = absurd run

pub bounded : (replies : Responses) → IsBounded replies
bounded replies host n file piece count c d phase h fetch exchanges =
    run_bounded n file piece count phase c d h fetch.content fetch.ready (run_of replies host n file piece count c d phase (honest_of replies host n file piece c h fetch) exchanges)

pub ending : (replies : Responses) → IsEnding replies
ending replies host n file piece count c d phase h fetch exchanges next step =
    run_ending n file piece count phase c d h next fetch.fit fetch.least fetch.most fetch.content fetch.ready
    (run_of replies host n file piece count c d phase (honest_of replies host n file piece c h fetch) exchanges) step

pub excused_alone : (replies : Responses) → IsExcusedAlone replies
excused_alone replies host n file piece count c d e phase h stop fetch exchanges last =
    let honest = honest_of replies host n file piece c h fetch in
    let stops = run_stops replies host n file piece count phase last.request last.reply stop c d e honest last.asks last.replied
    (taken_of n file piece phase last.reply (Err stop) d e fetch.fit last.opens last.fills) (run_of replies host n file piece count c d phase honest exchanges) in
    (stops h fetch.content fetch.ready).1

pub needs_whole : NeedsWhole
needs_whole n file piece h none =
    let from : 0 + length file ≡ length file = omega arith in
    let all : length file + 0 ≡ length file = omega arith in
    let run = needed_run piece (kept h n) 0 (length file) 0 (λ place low high. none place) in
    let e = rw from at run in
    let f = rw all at e in
    omega (arith, f)
