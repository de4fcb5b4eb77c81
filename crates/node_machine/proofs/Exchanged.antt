-- The history of a node with the events of its exchanges.
use Rattle.std.proofs.Common.{◌≡◌, ℕ, Bool, true, false, List, ◌∷◌, ◌++◌, Option, Some, None, Result, Err, inr, refl, sym, ap, subst, ◌∙◌}
use Rattle.httparse.specs.Grammar.{RequestHead}
use Rattle.feed_keep.specs.declared.keep.Keep.{Ghosts}
use Rattle.feed_names.specs.ReleaseName.{Name}
use Rattle.feed_model.specs.History.{History, Answer, Piece}
use Rattle.feed_releases.specs.Feeds.{most_of, recorded}
use Rattle.feed_releases.specs.declared.feed.Feed.{Feed}
use Rattle.feed_http.specs.declared.fetching.got.Got.{Got}
use Rattle.feed_fetch.specs.Answers.{HasRightAnswer}
use Rattle.feed_fetch.specs.Owed.{IsSubmitted}
use Rattle.feed_fetch.specs.declared.stop.RequestFault.{RequestFault}
use Rattle.feed_fetch.specs.declared.stop.RequestFault.TheVariants.{Http}
use Rattle.feed_http_heads.specs.declared.http_fault.HttpFault.TheVariants.{BodyTooLong}
use Rattle.node_machine.specs.declared.exchange.Exchange.{Exchange}
use Rattle.node_machine.specs.declared.exchange.Exchange.TheVariants as exchange
use Rattle.node_machine.specs.declared.fetching.Fetching.{Fetching}
use Rattle.node_machine.specs.declared.machine.NodeMachine.{NodeMachine}
use Rattle.node_machine.specs.Exchanges.{ExchangeEvent, IsExchangeOf, HasResponse, HasArrivedPart, exchange_with, is_arriving, name_of, part_of, ended_response}
use Rattle.node_machine.specs.NodeEvents.{NodeEvent, Took, TookPart, Exchanged, exchange_in, feed_history, fetching_in, given_after, given_in}
use Rattle.node_machine.specs.Rules.{Terms, MayExchange, IsOwedAfter}
use Rattle.node_machine.specs.Nodes.{HasHistory, HasExchanged, HasTaken, HasTakenPart, IsFetching, IsLater, exchange_of}
use Rattle.node_machine.proofs.Later.{later_exchanged, later_same, later_taken_part}

-- the response that an exchange ended with is the one to its request
has_response : (exchange : Option Exchange) (reply : Result Got RequestFault) (name : Name) (events : List ExchangeEvent) (given : List ℕ) → ended_response exchange ≡ Some reply
    → IsExchangeOf exchange name events given → (name_of events ≡ Some name) × HasResponse events reply
has_response (Some (exchange.Received received)) reply name events given is has = let same : received ≡ reply = cc (is) in (has.0, subst (HasResponse events) same has.1)
has_response (Some exchange.TooLong) reply name events given is has =
    let same : Err (Http BodyTooLong) ≡ reply = cc (is) in (has.0, subst (HasResponse events) same (inr has.1))
has_response (Some (exchange.Arriving arrival)) reply name events given is has = absurd (cc (is))
has_response None reply name events given is has = absurd (cc (is))

-- the fetch continues
fetching_on : {V : Type 0} (next : Fetching) (history : List (NodeEvent V)) → IsFetching next history → (fetching : Fetching) → Some next ≡ Some fetching → IsFetching fetching history
fetching_on next history is fetching e = let same : next ≡ fetching = cc (e) in subst (λ (f : Fetching). IsFetching f history) same is

module _ {T K S V : Type 0} {k : Ghosts K} (wanted : S → RequestHead → ℕ)
    (replies : S → Terms V → History → List ℕ → List ℕ → Bool → List ℕ → Type 0) (sites : S → V) where
  -- with an event of the exchange, after which the fetch has this value
  pub exchanged_on : (event : ExchangeEvent) (old : NodeMachine T K S k) (was next : Fetching) (history : List (NodeEvent V)) → old.fetching ≡ Some was → next.name ≡ was.name
      → IsExchangeOf next.exchange next.name (exchange_with event (exchange_in history)) (given_after event (given_in history))
      → MayExchange event history → IsOwedAfter event (feed_history history) → HasHistory wanted replies sites old history
      → HasHistory wanted replies sites (record old { fetching = Some next }) (Exchanged event ∷ history)
  exchanged_on event old was next history is same exchange may owed has = record {
    connections = has.connections;
    feed = has.feed;
    fetching = fetching_on next (Exchanged event ∷ history) (subst (λ n. fetching_in history ≡ Some n) (sym same) (has.fetching was is).0, exchange);
    idle = λ e. absurd (cc);
    requested = has.requested;
    today = has.today;
    sites_had = has.sites_had;
    reload = has.reload;
    allowed = (may, has.allowed);
    given = (owed, has.given);
  }

  -- with a response that the feed took
  pub took_reply : (old : NodeMachine T K S k) (feed : Feed K k) (was next : Fetching) (reply : Result Got RequestFault) (Stands : History → Type 0) (history : List (NodeEvent V))
      → old.fetching ≡ Some was → next.name ≡ was.name → next.exchange ≡ None → ended_response was.exchange ≡ Some reply
      → IsSubmitted was.name was.fetch.phase reply Stands (recorded old.feed) (recorded feed) → HasHistory wanted replies sites old history
      → (steps : History) × HasHistory wanted replies sites (record old { feed = feed; fetching = Some next }) (Took was.name was.fetch.phase reply steps ∷ history)
  took_reply old feed was next reply Stands history is same none of extends has =
      let more = extends (feed_history history) has.feed in
      let asked = (has.fetching was is).0 in
      let received = has_response was.exchange reply was.name (exchange_in history) (given_in history) of (has.fetching was is).1 in (
        more.0,
        record {
          connections = has.connections;
          feed = more.3;
          fetching = fetching_on next (Took was.name was.fetch.phase reply more.0 ∷ history)
              (subst (λ n. fetching_in history ≡ Some n) (sym same) asked, subst (λ x. IsExchangeOf x next.name (exchange_in history) (given_in history)) (sym none) tt);
          idle = λ e. absurd (cc);
          requested = has.requested;
          today = has.today;
          sites_had = has.sites_had;
          reload = has.reload;
          allowed = (asked, has.allowed);
          given = (more.1, received.0, received.1, has.given);
        },
      )

  -- with a part of a whole file that it took
  pub took_part : (old : NodeMachine T K S k) (feed : Feed K k) (was next : Fetching) (first size : ℕ) (bytes : List ℕ) (ComesOut : Answer → Type 0) (history : List (NodeEvent V))
      → old.fetching ≡ Some was → next.name ≡ was.name
      → ((events : List ExchangeEvent) (given : List ℕ) → IsExchangeOf was.exchange was.name events given
      → (name_of events ≡ Some was.name) × IsExchangeOf next.exchange was.name events (given ++ bytes) × HasArrivedPart events size first bytes)
      → HasRightAnswer ComesOut (recorded old.feed) (Piece was.name first (Some size) bytes) (recorded feed) → HasHistory wanted replies sites old history
      → (answer : Answer) × HasHistory wanted replies sites (record old { feed = feed; fetching = Some next }) (TookPart was.name first size bytes answer ∷ history)
  took_part old feed was next first size bytes ComesOut history is same passed right has =
      let answered = right (feed_history history) has.feed in
      let asked = (has.fetching was is).0 in
      let part = passed (exchange_in history) (given_in history) (has.fetching was is).1 in (
        answered.0,
        record {
          connections = has.connections;
          feed = answered.3;
          fetching = fetching_on next (TookPart was.name first size bytes answered.0 ∷ history) (
            subst (λ n. fetching_in history ≡ Some n) (sym same) asked,
            subst (λ n. IsExchangeOf next.exchange n (exchange_in history) (given_in history ++ bytes)) (sym same) part.1,
          );
          idle = λ e. absurd (cc);
          requested = has.requested;
          today = has.today;
          sites_had = has.sites_had;
          reload = has.reload;
          allowed = (asked, has.allowed);
          given = (part.0, part.2, has.given);
        },
      )

  -- after an event of the exchange, if its response is arriving
  pub later_either : (event : ExchangeEvent) (old new : NodeMachine T K S k) → (is_arriving (exchange_of old.fetching) ≡ true → HasExchanged wanted replies sites event old new)
      → (is_arriving (exchange_of old.fetching) ≡ false → new ≡ old) → most_of new.feed ≡ most_of old.feed → IsLater wanted replies sites old new
  later_either event old new has same room = by (is_arriving (exchange_of old.fetching)) refl
    where
      by : (b : Bool) → is_arriving (exchange_of old.fetching) ≡ b → IsLater wanted replies sites old new
      by true is = later_exchanged wanted replies sites event old new room (has is)
      by false is = subst (λ node. IsLater wanted replies sites old node) (sym (same is)) (later_same {wanted = wanted} {replies = replies} {sites = sites} old)

  -- the response that was taken is the one that the exchange ended with
  pub taken_as : (old new : NodeMachine T K S k) (history : List (NodeEvent V)) (was : Fetching) (reply : Result Got RequestFault) → old.fetching ≡ Some was
      → ended_response was.exchange ≡ Some reply → (steps : History) × HasHistory wanted replies sites new (Took was.name was.fetch.phase reply steps ∷ history)
      → HasTaken wanted replies sites old new history
  taken_as old new history was reply is of taken fetching other e f =
      let same : was ≡ fetching = cc (sym is ∙ e) in
      subst (λ (x : Fetching). (r : Result Got RequestFault) → ended_response x.exchange ≡ Some r
      → (steps : History) × HasHistory wanted replies sites new (Took x.name x.fetch.phase r steps ∷ history)) same
      (λ r given. (let whole : reply ≡ r = cc (sym of ∙ given) in
      subst (λ (r : Result Got RequestFault). (steps : History) × HasHistory wanted replies sites new (Took was.name was.fetch.phase r steps ∷ history)) whole taken)) other f

  -- the part that was taken is the one that has arrived
  pub part_taken_as : (old new : NodeMachine T K S k) (history : List (NodeEvent V)) (was : Fetching) → old.fetching ≡ Some was
      → ((first size : ℕ) (bytes : List ℕ) → ◌≡◌ {A = Option (ℕ × ℕ × List ℕ)} (part_of was.exchange) (Some (first, size, bytes))
      → (answer : Answer) × HasHistory wanted replies sites new (TookPart was.name first size bytes answer ∷ history))
      → HasTakenPart wanted replies sites old new history
  part_taken_as old new history was is taken fetching first size bytes e f =
      let same : was ≡ fetching = cc (sym is ∙ e) in
      subst (λ (x : Fetching). (first size : ℕ) (bytes : List ℕ) → ◌≡◌ {A = Option (ℕ × ℕ × List ℕ)} (part_of x.exchange) (Some (first, size, bytes))
      → (answer : Answer) × HasHistory wanted replies sites new (TookPart x.name first size bytes answer ∷ history)) same taken first size bytes f

  -- after such a part, if one has arrived
  pub later_part : (old new : NodeMachine T K S k) (was : Fetching) → old.fetching ≡ Some was
      → (◌≡◌ {A = Option (ℕ × ℕ × List ℕ)} (part_of (exchange_of old.fetching)) None → new ≡ old)
      → ((history : List (NodeEvent V)) → HasHistory wanted replies sites old history → HasTakenPart wanted replies sites old new history)
      → most_of new.feed ≡ most_of old.feed → IsLater wanted replies sites old new
  later_part old new was is idle taken room = by (part_of was.exchange) refl
    where
      by : (part : Option (ℕ × ℕ × List ℕ)) → part_of was.exchange ≡ part → IsLater wanted replies sites old new
      by None none =
          subst (λ node. IsLater wanted replies sites old node) (sym (idle (ap (λ (f : Option Fetching). part_of (exchange_of f)) is ∙ none)))
          (later_same {wanted = wanted} {replies = replies} {sites = sites} old)
      by (Some (first, size, bytes)) some = later_taken_part wanted replies sites was first size bytes old new is some room taken
