-- The result of one request to a server.
use Rattle.std.proofs.Common.{◌≡◌, ◌<◌, ◌≤◌, ◌+◌, ◌-◌, ◌^◌, ◌⊎◌, ◌≤ℤ◌, ◌<ℤ◌, ℕ, suc, Bool, true, List, ◌∷◌, length, min, Some}
use Rattle.std.proofs.Common.{None, Result, Ok, Err, inl, inr, refl, sym, ◌∙◌, ap, subst, arith, lit<}
use Rattle.std.specs.Prelude.{slice_range, nat_eq, IsTrue, MatchResult}
use Rattle.std.proofs.lemmas.Bool.Decides.{nat_tests}
use Rattle.feed_names.specs.ReleaseName.{Name, text_of}
use Rattle.feed_http_heads.specs.declared.http_fault.HttpFault.{HttpFault}
use Rattle.feed_http_heads.specs.declared.http_fault.HttpFault.TheVariants as http
use Rattle.feed_http.specs.declared.fetching.got.Method.{Method}
use Rattle.feed_http.specs.declared.fetching.got.Method.TheVariants.{Get, Head}
use Rattle.feed_http.specs.declared.fetching.got.Got.{Got}
use Rattle.feed_http.specs.declared.fetching.got.Got.TheVariants as got
use Rattle.feed_http.specs.RequestTexts.{is_host, get_text, head_request_text}
use Rattle.feed_http.specs.Got.{IsResultOf}
use Rattle.feed_http.specs.Laws.{IsGiven}
use Rattle.feed_http.proofs.RequestLaw.{fetch_gives_slice, head_gives_size}
use Rattle.feed_model.specs.declared.reply.Reply.TheVariants as replies
use Rattle.feed_model.specs.declared.reply.Refusal.TheVariants as refusals
use Rattle.feed_model.specs.History.{Event, Offered, Piece, Lost, History, Answer, kept, IsGood, IsPassed, Reports}
use Rattle.feed_model.proofs.Names.{day_cases}
use Rattle.std.proofs.lemmas.Int.{ints}
use Rattle.feed_model.specs.Reply.{max_piece}
use Rattle.feed_limits.specs.Limits.{file_limit}
use Rattle.feed_model.specs.Content.{Recorded, IsContent}
use Rattle.feed_releases.specs.NextRange.{IsNextRange}
use Rattle.feed_fetch.specs.declared.stop.RequestFault.{RequestFault}
use Rattle.feed_fetch.specs.declared.stop.RequestFault.TheVariants.{Dial, Http}
use Rattle.feed_fetch.specs.declared.stop.Stop.{Stop}
use Rattle.feed_fetch.specs.declared.stop.Stop.TheVariants as stops
use Rattle.feed_dial.specs.Responses.{Responses, Unknown, Known, IfKnown}
use Rattle.feed_fetch.specs.Servers.{IsResponded, IsReadOf}
use Rattle.feed_fetch.specs.Answers.{HasRightAnswer, response_or_stop, offer_result, piece_result, round_result, IsExcused}
use Rattle.feed_fetch.specs.Effects.{IsFetchEvent, IsTakenFrom, ServesFile, IsFetchable, IsOpenTo, IsFilling, OrExcused, IsOpened, IsFilled, IsFilledAfter}
use Rattle.feed_fetch.specs.Effects.{IsFetched, IsReported, IsAllFetched, missing_of}
use Rattle.feed_fetch.specs.Gaps.{requests_of}
use Rattle.feed_fetch.proofs.Gaps.{needed_same, needed_most, needed_fewer}
use Rattle.feed_fetch.proofs.Filling.{offer_fills, piece_fills, IsFilledWith, IsRefusedFor}

given_fault : (wanted : Got) (fault : HttpFault) → IsGiven wanted (Err fault) → IsExcused (stops.Request (Http fault))
given_fault wanted http.Read g = tt
given_fault wanted http.Write g = tt
given_fault wanted http.HeadTooLong g = absurd g
given_fault wanted http.BadHead g = absurd g
given_fault wanted (http.Status n) g = absurd g
given_fault wanted http.Coding g = absurd g
given_fault wanted http.Length g = absurd g
given_fault wanted http.Range g = absurd g
given_fault wanted http.Short g = absurd g
given_fault wanted http.BodyTooLong g = absurd g
given_fault wanted http.Memory g = tt
given_fault wanted http.Shelf g = absurd g

unwritten : (fault : HttpFault) → fault ≡ http.Write → IsExcused (stops.Request (Http fault))
unwritten fault e = subst (λ (f : HttpFault). IsExcused (stops.Request (Http f))) (sym e) tt

small_enough : (n : ℕ) → n ≤ file_limit → n < 2 ^ 64
small_enough n le = let top : file_limit < 2 ^ 64 = lit< tt in omega (arith, le, top)

-- the result of a request whose responses are all this text, by a law about that text
read_given : (IsResponseTo : List ℕ → List ℕ → Type 0) (method : Method) (text server_response : List ℕ) (wanted : Got) (result : Result Got RequestFault)
    → ((reply : List ℕ) → IsResponseTo text reply → reply ≡ server_response)
    → ((r : Result Got HttpFault) → IsResultOf method server_response r → IsGiven wanted r)
    → IsReadOf IsResponseTo method text result → MatchResult result (λ given. given ≡ wanted) (λ why. IsExcused (stops.Request why))
read_given IsResponseTo method text server_response wanted (Ok given) same law (reply, to, is) =
    law (Ok given) (subst (λ (t : List ℕ). IsResultOf method t (Ok given)) (same reply to) is)
read_given IsResponseTo method text server_response wanted (Err (Dial fault)) same law is = tt
read_given IsResponseTo method text server_response wanted (Err (Http fault)) same law (inl e) = unwritten fault e
read_given IsResponseTo method text server_response wanted (Err (Http fault)) same law (inr (reply, to, is)) =
    given_fault wanted fault (law (Err fault) (subst (λ (t : List ℕ). IsResultOf method t (Err fault)) (same reply to) is))

-- of a server a HEAD gives the length of its file
pub asked_size : (known : Responses) (host : List ℕ) (n : Name) (file : List ℕ) (result : Result Got RequestFault) → ServesFile known n file → IsTrue (is_host host) → IsFetchable file
    → IfKnown known (λ IsResponseTo. IsReadOf IsResponseTo Head (head_request_text host (text_of n)) result)
    → MatchResult result (λ given. given ≡ got.Size (length file)) (λ why. IsExcused (stops.Request why))
asked_size Unknown host n file result serves hosted fit read = absurd serves
asked_size (Known IsResponseTo) host n file result (files, server, on, named) hosted fit read =
    let law = head_gives_size files host n file hosted named on (small_enough (length file) fit.small) in
    read_given IsResponseTo Head (head_request_text host (text_of n)) _ (got.Size (length file)) result
    (λ reply to. server (head_request_text host (text_of n)) reply to law.0 (Some n) law.1 law.2)
    law.3 read

-- and a GET the places that are asked for
pub asked_places : (known : Responses) (host : List ℕ) (n : Name) (file : List ℕ) (first last : ℕ) (result : Result Got RequestFault) → ServesFile known n file → IsTrue (is_host host)
    → IsFetchable file
    → first ≤ last → last < length file → last < first + max_piece
    → IfKnown known (λ IsResponseTo. IsReadOf IsResponseTo Get (get_text host (text_of n) first last) result)
    → MatchResult result (λ given. given ≡ got.Piece first (Some (length file)) (slice_range file first (last + 1))) (λ why. IsExcused (stops.Request why))
asked_places Unknown host n file first last result serves hosted fit order within few read = absurd serves
asked_places (Known IsResponseTo) host n file first last result (files, server, on, named) hosted fit order within few read =
    let small : length file < 2 ^ 64 = small_enough (length file) fit.small in
    let end : min last (length file - 1) ≡ last = omega (arith, within) in
    let law = fetch_gives_slice files host n file first last hosted named on order (omega (arith, within, small)) (omega (arith, order, within)) small (omega (arith, within, few, order)) in
    let P : ℕ → Type 0 = λ m. MatchResult result (λ given. given ≡ got.Piece first (Some (length file)) (slice_range file first (m + 1))) (λ why. IsExcused (stops.Request why)) in
    subst P end
    (read_given IsResponseTo Get (get_text host (text_of n) first last) _ (got.Piece first (Some (length file)) (slice_range file first (min last (length file - 1) + 1))) result
    (λ reply to. server (get_text host (text_of n) first last) reply to law.0 (Some n) law.1 law.2)
    law.3 read)

-- the offer of the file
pub size_opens : (c d : Recorded) (n : Name) (size : ℕ) (file : List ℕ) (r : Result (Unit {0}) Stop) → IsFetchable file → size ≡ length file
    → HasRightAnswer (λ answer. (r ≡ offer_result (response_or_stop answer)) ⊎ (r ≡ Err stops.Print)) c (Offered n size) d
    → IsOpened n file r c d
size_opens c d n size file r fit is answered h at ready =
    let t = (rw is at answered) h at in
    ((Offered n (length file), t.0) ∷ h, by t.0 (offer_fills h n file t.0 fit ready t.1) t.2, t.3)
  where
    by : (a : Answer) → (((a ≡ Ok replies.Noted) ⊎ (a ≡ Ok replies.Known)) × IsFilling n file ((Offered n (length file), a) ∷ h)) ⊎ IsRefusedFor a
        → (r ≡ offer_result (response_or_stop a)) ⊎ (r ≡ Err stops.Print)
        → OrExcused r (IsFilling n file ((Offered n (length file), a) ∷ h) × ((place : ℕ) → kept ((Offered n (length file), a) ∷ h) n place ≡ kept h n place))
    by a so (inr e) = rw e tt
    by a (inl (inl e, f)) (inl same) = let done : r ≡ Ok tt = same ∙ ap (λ (x : Answer). offer_result (response_or_stop x)) e in rw done (f, λ place. refl)
    by a (inl (inr e, f)) (inl same) = let done : r ≡ Ok tt = same ∙ ap (λ (x : Answer). offer_result (response_or_stop x)) e in rw done (f, λ place. refl)
    by a (inr (inl e)) (inl same) = let done : r ≡ Err (stops.Refused refusals.Memory) = same ∙ ap (λ (x : Answer). offer_result (response_or_stop x)) e in rw done tt
    by a (inr (inr e)) (inl same) = let done : r ≡ Err (stops.Refused refusals.Device) = same ∙ ap (λ (x : Answer). offer_result (response_or_stop x)) e in rw done tt

-- the requested range is filled
abbrev pub IsFilledBy : Name → List ℕ → ℕ → History → History → Type 0
IsFilledBy n file piece h k = IsFilling n file k × (missing_of n file k < missing_of n file h) × (requests_of n file piece h ≡ suc (requests_of n file piece k))

-- the next piece of the file
pub piece_filled : (c d : Recorded) (n : Name) (piece first last : ℕ) (file : List ℕ) (taken : Result Bool Stop) → IsFetchable file
    → HasRightAnswer (λ answer. (taken ≡ piece_result (response_or_stop answer)) ⊎ (taken ≡ Err stops.Print)) c (Piece n first (Some (length file)) (slice_range file first (last + 1))) d
    → IsFilled n file piece first last (round_result taken) c d
piece_filled c d n piece first last file taken fit answered h at asked =
    let t = answered h at in
    ((event, t.0) ∷ h, by t.0 (piece_fills h n file piece first last (slice_range file first (last + 1)) t.0 fit asked refl t.1) t.2, t.3)
  where
    event : Event
    event = Piece n first (Some (length file)) (slice_range file first (last + 1))

    filled : (a : Answer) → IsFilledWith n file first last h ((event, a) ∷ h) → IsFilledBy n file piece h ((event, a) ∷ h)
    filled a f = (f.filling, f.fewer, needed_fewer piece (length file) first last (kept h n) (kept ((event, a) ∷ h) n) asked.least asked.next f.next)

    by : (a : Answer) → ((((missing : ℕ) × (a ≡ Ok (replies.Stored missing))) ⊎ (a ≡ Ok replies.Activated)) × IsFilledWith n file first last h ((event, a) ∷ h)) ⊎ IsRefusedFor a
        → (taken ≡ piece_result (response_or_stop a)) ⊎ (taken ≡ Err stops.Print)
        → OrExcused (round_result taken) (IsFilledBy n file piece h ((event, a) ∷ h))
    by a so (inr e) = rw e tt
    by a (inl (inl (m, e), f)) (inl same) = let done : taken ≡ Ok true = same ∙ ap (λ (x : Answer). piece_result (response_or_stop x)) e in rw done (filled a f)
    by a (inl (inr e, f)) (inl same) = let done : taken ≡ Ok true = same ∙ ap (λ (x : Answer). piece_result (response_or_stop x)) e in rw done (filled a f)
    by a (inr (inl e)) (inl same) = let done : taken ≡ Err (stops.Refused refusals.Memory) = same ∙ ap (λ (x : Answer). piece_result (response_or_stop x)) e in rw done tt
    by a (inr (inr e)) (inl same) = let done : taken ≡ Err (stops.Refused refusals.Device) = same ∙ ap (λ (x : Answer). piece_result (response_or_stop x)) e in rw done tt

-- the events made from a response are as it gave them
pub pieces_are_events : (known : Responses) (host : List ℕ) (n : Name) (first last : ℕ) (given : Got)
    → IfKnown known (λ IsResponseTo. IsReadOf IsResponseTo Get (get_text host (text_of n) first last) (Ok given))
    → (e : Event) → IsTakenFrom n given e → IsFetchEvent known host n e
pieces_are_events Unknown host n first last given read (Piece m f t b) of = (of.0, tt)
pieces_are_events (Known IsResponseTo) host n first last given read (Piece m f t b) of = (of.0, (first, last, given, read, of.1))
pieces_are_events known host n first last given read (Offered m s) of = absurd of
pieces_are_events known host n first last given read (Lost m) of = absurd of

-- the length that a response gave is offered
pub size_is_event : (known : Responses) (host : List ℕ) (n : Name) (given : Got) (size : ℕ) → given ≡ got.Size size
    → IfKnown known (λ IsResponseTo. IsReadOf IsResponseTo Head (head_request_text host (text_of n)) (Ok given)) → IsFetchEvent known host n (Offered n size)
size_is_event Unknown host n given size is read = (refl, tt)
size_is_event (Known IsResponseTo) host n given size is read = (refl, subst (λ (g : Got). IsResponded IsResponseTo Head (head_request_text host (text_of n)) (Ok g)) is read)

-- the requests
pub fill_start : (c d : Recorded) (n : Name) (file : List ℕ) (piece : ℕ) → IsOpened n file (Ok tt) c d → IsFilledAfter n file piece 0 c d
fill_start c d n file piece opened h at ready =
    let x = opened h at ready in
    let same = needed_same piece (kept x.0 n) (kept h n) (length file) 0 x.1.1 in
    (x.0, (x.1.0, omega (arith, same)), x.2)

-- what is complete by requests of some length is complete by those of any length
pub all_fetched : (h : History) (n : Name) (max : ℕ) → 1 ≤ max → IsNextRange h n max None → IsAllFetched n h
all_fetched h n max least (inl x) = inl x
all_fetched h n max least (inr (held, size, of, inl zero)) = absurd (omega (arith, zero, least))
all_fetched h n max least (inr (held, size, of, inr all)) = inr (held, size, of, inr all)

-- there are at most as many requests as places
pub fill_counts : (b c : Recorded) (n : Name) (file : List ℕ) (piece count : ℕ) (result : Result (Unit {0}) Stop) → IsFetchable file → 1 ≤ piece → file_limit < count
    → IsFilledAfter n file piece count b c → IsFetched n file result b c
fill_counts b c n file piece count result fit least most filled h at ready =
    let x = filled h at ready in
    let all = needed_most piece (kept h n) (length file) 0 least in
    absurd (let small = fit.small in let all_of = x.1.1 in omega (arith, small, all_of, all, most))

-- a good release that is not passed is the one that is reported
pub reported_none : (h : History) (n : Name) → IsGood h n → Reports h n.package_name None → ⊥
reported_none h n good none = none n refl good

pub reported_day : (h : History) (n a : Name) → ¬ (IsPassed h n) → IsGood h n → Reports h n.package_name (Some a) → a.day ≡ n.day
reported_day h n a ahead good is = by (day_cases a.day n.day)
  where
    by : (a.day ≤ℤ n.day) ⊎ (n.day <ℤ a.day) → a.day ≡ n.day
    by (inl le) = let least = is.1.1 n (sym is.0) good in omega (arith, ints)
    by (inr lt) = absurd (ahead (a, is.1, (sym is.0, lt)))

-- a release that is reported is good, and not passed
pub reported_good : (h : History) (n : Name) → IsReported n h → IsGood h n
reported_good h n is = is.1.0

pub reported_current : (h : History) (n : Name) → IsReported n h → ¬ (IsPassed h n)
reported_current h n is p = let latest = p.1.0 in let lt : n.day <ℤ p.0.day = p.2.1 in let le : p.0.day ≤ℤ n.day = is.1.1 p.0 (sym p.2.0) latest in absurd (omega (arith, ints))

-- the file of a feed that got it is good
pub got_good : (c d : Recorded) (n : Name) (file : List ℕ) → IsFetchable file → IsFetched n file (Ok tt) c d → (h : History) → IsContent c h → IsOpenTo c.most n file h
    → (k : History) × IsContent d k × (¬ (IsPassed k n)) × IsGood k n
got_good c d n file fit gets h at ready = let x = gets h at ready in (x.0, x.2, x.1.0.current, (file, x.1.1, fit.good))

pub same_day : (a b : ℕ) → a ≡ b → IsTrue (nat_eq a b)
same_day a b e = grind (arith, nat_tests)
