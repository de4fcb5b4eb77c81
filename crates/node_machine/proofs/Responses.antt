-- The responses of a node to the requests of its connections.
use Rattle.std.proofs.Common.{◌≡◌, ℕ, Bool, true, false, List, [], ◌∷◌, ◌++◌, Option, inl, inr, refl, sym, ap, subst, eqb-true}
use Rattle.std.specs.Prelude.{◌==◌, if◌then◌else◌}
use Rattle.httparse.specs.Grammar.{RequestHead}
use Rattle.node_connection.specs.Requests.{Request, Persistent, Last, Invalid}
use Rattle.node_connection.specs.Events.{Event, Received, Sent, Responded, Continued, Resumed, Elapsed, received_bytes, sent_bytes}
use Rattle.node_connection.specs.Responses.{Responses, Exchange, IsResponseOf, HasWantedBody, IsRespondedTo, AreRespondedTo, IsServed}
use Rattle.node_connection.specs.States.{HasState}
use Rattle.node_connection.specs.Streams.{AreResponses}
use Rattle.node_connection.proofs.States.{all_served}
use Rattle.node_machine.specs.NodeEvents.{NodeEvent, Accepted, Served, Passed, DayBegan, Asked, Began, Finished, Took, TookPart, Exchanged, Reopened, events_of, IsMoment}
use Rattle.node_machine.specs.NodeEvents.{AskedSites, SitesBegan, SitesKept}
use Rattle.node_machine.specs.Rules.{Rules, IsShare, AreAllowed}
use Rattle.node_machine.specs.Promise.{IsMadeFor, responses_in}

-- a relation of responses that has more of them
module _ (wanted : RequestHead → ℕ) (some more : List ℕ → List ℕ → Bool → Option (List ℕ) → Type 0)
    (f : (head body : List ℕ) (keeps : Bool) (reply : Option (List ℕ)) → some head body keeps reply → more head body keeps reply) where
  reply_more : (request : Request) (reply : List ℕ) → IsResponseOf (wanted, some) request reply → IsResponseOf (wanted, more) request reply
  reply_more (Persistent head body) reply is = f _ _ _ _ is
  reply_more (Last head body) reply (inl is) = inl (is.0, f _ _ _ _ is.1)
  reply_more (Last head body) reply (inr ((keeps, none), is)) = inr ((keeps, f _ _ _ _ none), is)
  reply_more (Invalid text) reply (inl is) = inl (f _ _ _ _ is)
  reply_more (Invalid text) reply (inr ((keeps, none), is)) = inr ((keeps, f _ _ _ _ none), is)

  wanted_more : (request : Request) → HasWantedBody (wanted, some) request → HasWantedBody (wanted, more) request
  wanted_more (Persistent head body) is = is
  wanted_more (Last head body) is = is
  wanted_more (Invalid text) is = is

  pub replied_more : (request : Request) (reply : List ℕ) → IsRespondedTo (wanted, some) request reply → IsRespondedTo (wanted, more) request reply
  replied_more request reply is = record { wanted = wanted_more request is.wanted; reply_of = reply_more request reply is.reply_of; says = is.says }

  pub are_more : (events : List Event) → AreResponses (wanted, some) events → AreResponses (wanted, more) events
  are_more [] are = tt
  are_more (Received bytes ∷ events) are = are_more events are
  are_more (Sent bytes ∷ events) are = are_more events are
  are_more (Responded request reply ∷ events) are = (replied_more request reply are.0, are_more events are.1)
  are_more (Continued ∷ events) are = are_more events are
  are_more (Resumed idle ∷ events) are = are_more events are
  are_more (Elapsed millis ∷ events) are = are_more events are

  exchanged_more : (exchanges : List Exchange) → AreRespondedTo (wanted, some) exchanges → AreRespondedTo (wanted, more) exchanges
  exchanged_more [] are = tt
  exchanged_more (exchange ∷ exchanges) are = (are.0, replied_more exchange.request exchange.reply are.1, exchanged_more exchanges are.2)

  pub served_more : (received sent : List ℕ) → IsServed (wanted, some) received sent → IsServed (wanted, more) received sent
  served_more received sent is = record {
    exchanges = is.exchanges;
    rest = is.rest;
    pending = is.pending;
    unsent = is.unsent;
    in_order = is.in_order;
    replied = exchanged_more is.exchanges is.replied;
    expected = is.expected;
    front = is.front;
  }

-- the responses of two periods
are_both : (replies : Responses) (later earlier : List Event) → AreResponses replies later → AreResponses replies earlier → AreResponses replies (later ++ earlier)
are_both replies [] earlier first second = second
are_both replies (Received bytes ∷ later) earlier first second = are_both replies later earlier first second
are_both replies (Sent bytes ∷ later) earlier first second = are_both replies later earlier first second
are_both replies (Responded request reply ∷ later) earlier first second = (first.0, are_both replies later earlier first.1 second)
are_both replies (Continued ∷ later) earlier first second = are_both replies later earlier first second
are_both replies (Resumed idle ∷ later) earlier first second = are_both replies later earlier first second
are_both replies (Elapsed millis ∷ later) earlier first second = are_both replies later earlier first second

-- a moment stays one
moment_more : {V : Type 0} (event : NodeEvent V) (moment history : List (NodeEvent V)) → IsMoment moment history → IsMoment moment (event ∷ history)
moment_more event moment history (later, is) = (event ∷ later, ap (λ h. event ∷ h) is)

module _ {V : Type 0} (rules : Rules V) (token : Option (List ℕ)) (key : ℕ) where
  made_more : (event : NodeEvent V) (history : List (NodeEvent V)) (head body : List ℕ) (keeps : Bool) (reply : Option (List ℕ))
      → IsMadeFor rules token key history head body keeps reply → IsMadeFor rules token key (event ∷ history) head body keeps reply
  made_more event history head body keeps reply is = record {
    share = is.share;
    earlier = is.earlier;
    moment = moment_more event (Served key is.share ∷ is.earlier) history is.moment;
    is_local = is.is_local;
    today = is.today;
    day = is.day;
    sites = is.sites;
    had = is.had;
    made = is.made;
  }

  more_in : (event : NodeEvent V) (history : List (NodeEvent V)) (events : List Event) → AreResponses (responses_in rules token key history) events
      → AreResponses (responses_in rules token key (event ∷ history)) events
  more_in event history events are = are_more rules.0 _ (IsMadeFor rules token key (event ∷ history)) (made_more event history) events are

  served_in : (event : NodeEvent V) (history : List (NodeEvent V)) (received sent : List ℕ) → IsServed (responses_in rules token key history) received sent
      → IsServed (responses_in rules token key (event ∷ history)) received sent
  served_in event history received sent is = served_more rules.0 _ (IsMadeFor rules token key (event ∷ history)) (made_more event history) received sent is

  -- the responses of a share are made in it
  of_share : (share : List Event) (earlier : List (NodeEvent V)) → IsShare rules token key share earlier
      → AreResponses (responses_in rules token key (Served key share ∷ earlier)) share
  of_share share earlier is =
      are_more rules.0 _ (IsMadeFor rules token key (Served key share ∷ earlier))
      (λ head body keeps reply made.
      record { share = share; earlier = earlier; moment = ([], refl); is_local = is.is_local; today = is.today; day = is.day; sites = is.sites; had = is.had; made = made })
      share is.replied

  -- what holds of the events under this key, by whether the share was its own
  by_key : (other : ℕ) (P : List Event → Type 0) (one two : List Event) → (other ≡ key → P one) → P two → P (if other == key then one else two)
  by_key other P one two same differs = by (other == key) refl
    where
      by : (b : Bool) → (other == key) ≡ b → P (if b then one else two)
      by true is = same (eqb-true other key is)
      by false is = differs

  -- each response to the connection with this key was made in one of its shares
  pub all_made : (history : List (NodeEvent V)) → AreAllowed rules token history → AreResponses (responses_in rules token key history) (events_of key history)
  all_made [] allowed = tt
  all_made (Accepted other ∷ earlier) allowed =
      by_key other (AreResponses (responses_in rules token key (Accepted other ∷ earlier))) [] (events_of key earlier) (λ same. tt)
      (more_in (Accepted other) earlier (events_of key earlier) (all_made earlier allowed))
  all_made (Served other share ∷ earlier) allowed =
      let rest = more_in (Served other share) earlier (events_of key earlier) (all_made earlier allowed.1) in
      by_key other (AreResponses (responses_in rules token key (Served other share ∷ earlier))) (share ++ events_of key earlier) (events_of key earlier)
      (λ same. are_both (responses_in rules token key (Served other share ∷ earlier)) share (events_of key earlier)
      (subst (λ n. AreResponses (responses_in rules token key (Served n share ∷ earlier)) share) (sym same)
      (of_share share earlier (subst (λ n. IsShare rules token n share earlier) same allowed.0))) rest)
      rest
  all_made (Passed millis ∷ earlier) allowed = more_in (Passed millis) earlier (events_of key earlier) (all_made earlier allowed)
  all_made (DayBegan today ∷ earlier) allowed = more_in (DayBegan today) earlier (events_of key earlier) (all_made earlier allowed)
  all_made (Asked other bytes asked ∷ earlier) allowed = more_in (Asked other bytes asked) earlier (events_of key earlier) (all_made earlier allowed.2)
  all_made (Began asked ∷ earlier) allowed = more_in (Began asked) earlier (events_of key earlier) (all_made earlier allowed.2)
  all_made (Finished ∷ earlier) allowed = more_in Finished earlier (events_of key earlier) (all_made earlier allowed.1)
  all_made (Took name phase reply steps ∷ earlier) allowed = more_in (Took name phase reply steps) earlier (events_of key earlier) (all_made earlier allowed.1)
  all_made (TookPart name first size bytes answer ∷ earlier) allowed =
      more_in (TookPart name first size bytes answer) earlier (events_of key earlier) (all_made earlier allowed.1)
  all_made (Exchanged event ∷ earlier) allowed = more_in (Exchanged event) earlier (events_of key earlier) (all_made earlier allowed.1)
  all_made (AskedSites other bytes asked ∷ earlier) allowed = more_in (AskedSites other bytes asked) earlier (events_of key earlier) (all_made earlier allowed.2)
  all_made (SitesBegan begun ∷ earlier) allowed = more_in (SitesBegan begun) earlier (events_of key earlier) (all_made earlier allowed.1)
  all_made (SitesKept ∷ earlier) allowed = more_in SitesKept earlier (events_of key earlier) (all_made earlier allowed.1)
  all_made (Reopened ∷ earlier) allowed = tt

  nothing_served : (history : List (NodeEvent V)) → IsServed (responses_in rules token key history) [] []
  nothing_served history = record { exchanges = []; rest = []; pending = []; unsent = []; in_order = refl; replied = tt; expected = inl refl; front = refl }

  -- the bytes sent on the connection are the beginning of the responses to the requests in the bytes received
  pub all_served_in : (history : List (NodeEvent V)) → AreAllowed rules token history
      → IsServed (responses_in rules token key history) (received_bytes (events_of key history)) (sent_bytes (events_of key history))
  all_served_in [] allowed = nothing_served []
  all_served_in (Accepted other ∷ earlier) allowed =
      by_key other (λ events. IsServed (responses_in rules token key (Accepted other ∷ earlier)) (received_bytes events) (sent_bytes events)) [] (events_of key earlier)
      (λ same. nothing_served (Accepted other ∷ earlier)) (served_in (Accepted other) earlier _ _ (all_served_in earlier allowed))
  all_served_in (Served other share ∷ earlier) allowed =
      by_key other (λ events. IsServed (responses_in rules token key (Served other share ∷ earlier)) (received_bytes events) (sent_bytes events))
      (share ++ events_of key earlier) (events_of key earlier)
      (λ same. all_served (responses_in rules token key (Served other share ∷ earlier)) allowed.0.connection (share ++ events_of key earlier)
      (subst (λ n. HasState allowed.0.connection (share ++ events_of n earlier)) same allowed.0.state)
      (mine same))
      (served_in (Served other share) earlier _ _ (all_served_in earlier allowed.1))
    where
      mine : other ≡ key → AreResponses (responses_in rules token key (Served other share ∷ earlier)) (share ++ events_of key earlier)
      mine same =
          are_both (responses_in rules token key (Served other share ∷ earlier)) share (events_of key earlier)
          (subst (λ n. AreResponses (responses_in rules token key (Served n share ∷ earlier)) share) (sym same)
          (of_share share earlier (subst (λ n. IsShare rules token n share earlier) same allowed.0)))
          (more_in (Served other share) earlier (events_of key earlier) (all_made earlier allowed.1))
  all_served_in (Passed millis ∷ earlier) allowed = served_in (Passed millis) earlier _ _ (all_served_in earlier allowed)
  all_served_in (DayBegan today ∷ earlier) allowed = served_in (DayBegan today) earlier _ _ (all_served_in earlier allowed)
  all_served_in (Asked other bytes asked ∷ earlier) allowed = served_in (Asked other bytes asked) earlier _ _ (all_served_in earlier allowed.2)
  all_served_in (Began asked ∷ earlier) allowed = served_in (Began asked) earlier _ _ (all_served_in earlier allowed.2)
  all_served_in (Finished ∷ earlier) allowed = served_in Finished earlier _ _ (all_served_in earlier allowed.1)
  all_served_in (Took name phase reply steps ∷ earlier) allowed = served_in (Took name phase reply steps) earlier _ _ (all_served_in earlier allowed.1)
  all_served_in (TookPart name first size bytes answer ∷ earlier) allowed =
      served_in (TookPart name first size bytes answer) earlier _ _ (all_served_in earlier allowed.1)
  all_served_in (Exchanged event ∷ earlier) allowed = served_in (Exchanged event) earlier _ _ (all_served_in earlier allowed.1)
  all_served_in (AskedSites other bytes asked ∷ earlier) allowed = served_in (AskedSites other bytes asked) earlier _ _ (all_served_in earlier allowed.2)
  all_served_in (SitesBegan begun ∷ earlier) allowed = served_in (SitesBegan begun) earlier _ _ (all_served_in earlier allowed.1)
  all_served_in (SitesKept ∷ earlier) allowed = served_in SitesKept earlier _ _ (all_served_in earlier allowed.1)
  all_served_in (Reopened ∷ earlier) allowed = nothing_served (Reopened ∷ earlier)
