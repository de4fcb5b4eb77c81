-- One exchange with the knowledge base: the request, the bytes received, and how the connection ended.
use Rattle.std.specs.Prelude.{◌≡◌, ◌<◌, ◌⊎◌, ℕ, Bool, true, false, List, [], ◌∷◌, ◌++◌, length, take, drop, Option, Some, None, IsSomeAnd, Result, Ok, Err, ⊤}
use Rattle.feed_names.specs.ReleaseName.{Name}
use Rattle.feed_model.specs.History.{History}
use Rattle.feed_http_heads.specs.declared.http_fault.HttpFault.{HttpFault}
use Rattle.feed_http_heads.specs.declared.http_fault.HttpFault.TheVariants as faults
use Rattle.feed_http.specs.declared.fetching.got.Method.{Method}
use Rattle.feed_http.specs.declared.fetching.got.Method.TheVariants as methods
use Rattle.feed_http.specs.declared.fetching.got.Got.{Got}
use Rattle.feed_http.specs.declared.fetching.response_machine.StreamEnd.{StreamEnd}
use Rattle.feed_http.specs.declared.fetching.response_machine.StreamEnd.TheVariants as ends
use Rattle.feed_http.specs.declared.fetching.response_machine.ResponseMachine.{ResponseMachine}
use Rattle.feed_http.specs.Got.{IsResultOf}
use Rattle.feed_http.specs.ArrivingResponses.{HasPassedResponse, IsResponseTaken, file_length, is_unsized}
use Rattle.feed_http.specs.ResponseLaws.{HasPart}
use Rattle.feed_fetch.specs.declared.machine.Next.TheVariants.{Ask}
use Rattle.feed_fetch.specs.declared.machine.Phase.{Phase}
use Rattle.feed_fetch.specs.declared.machine.FetchRequest.{FetchRequest}
use Rattle.feed_fetch.specs.declared.machine.FetchRequest.TheVariants as requests
use Rattle.feed_fetch.specs.declared.stop.RequestFault.{RequestFault}
use Rattle.feed_fetch.specs.declared.stop.RequestFault.TheVariants.{Dial, Http}
use Rattle.feed_fetch.specs.Steps.{IsNextStep}
use Rattle.node_machine.specs.declared.exchange.Arrival.{Arrival}
use Rattle.node_machine.specs.declared.exchange.Exchange.{Exchange}
use Rattle.node_machine.specs.declared.exchange.Exchange.TheVariants as exchange

-- a connection was begun for this request for the release, by a fetch in this phase that asks for at most so many places at a
-- time, and for this range next if its file is read from the front on; the connection gave these bytes; or it ended
pub data ExchangeEvent : Type 0 where
  Requested : (name : Name) → (piece : ℕ) → (phase : Phase) → (front : Option (ℕ × ℕ)) → (request : FetchRequest) → ExchangeEvent
  Received : (bytes : List ℕ) → ExchangeEvent
  Ended : (end : StreamEnd) → ExchangeEvent

-- the events of the exchange, the newest first, that began with the last request
abbrev pub exchange_with : ExchangeEvent → List ExchangeEvent → List ExchangeEvent
exchange_with (Requested name piece phase front request) earlier = Requested name piece phase front request ∷ []
exchange_with event earlier = event ∷ earlier

-- the bytes received
abbrev pub received_of : List ExchangeEvent → List ℕ
received_of [] = []
received_of (Requested name piece phase front request ∷ earlier) = []
received_of (Received bytes ∷ earlier) = received_of earlier ++ bytes
received_of (Ended end ∷ earlier) = received_of earlier

-- the request that was sent
abbrev pub request_of : List ExchangeEvent → Option FetchRequest
request_of [] = None
request_of (Requested name piece phase front request ∷ earlier) = Some request
request_of (Received bytes ∷ earlier) = request_of earlier
request_of (Ended end ∷ earlier) = request_of earlier

-- the release that it was for
abbrev pub name_of : List ExchangeEvent → Option Name
name_of [] = None
name_of (Requested name piece phase front request ∷ earlier) = Some name
name_of (Received bytes ∷ earlier) = name_of earlier
name_of (Ended end ∷ earlier) = name_of earlier

-- a length is asked for by a HEAD, a range by a GET
abbrev pub method_of : FetchRequest → Method
method_of requests.Length = methods.Head
method_of (requests.Range first last) = methods.Get

-- a range that is missing is requested, or, if the file is read from its front on, the range that was not read
abbrev pub request_for : Option (ℕ × ℕ) → FetchRequest → FetchRequest
request_for (Some range) (requests.Range first last) = requests.Range (range.0) (range.1)
request_for front request = request

-- the fetch needs this request next
abbrev pub IsOwed : Name → ℕ → Phase → Option (ℕ × ℕ) → History → FetchRequest → Type 0
IsOwed name piece phase front h request = (next : FetchRequest) × IsNextStep name piece phase h (Ask next) × (request ≡ request_for front next)

-- with these more bytes, what was received is a response to the request with this result
abbrev pub Reads : List ExchangeEvent → List ℕ → Result Got HttpFault → Type 0
Reads events more result = IsSomeAnd (request_of events) (λ request. IsResultOf (method_of request) (received_of events ++ more) result)

-- the connection ended so, as the last event
abbrev pub HasEnded : StreamEnd → List ExchangeEvent → Type 0
HasEnded end events = (earlier : List ExchangeEvent) × (events ≡ Ended end ∷ earlier)

-- the most bytes of a whole file without its length that a node takes
abbrev pub unsized_limit : ℕ
unsized_limit = 8388608

-- what was received begins a response with a whole file without its length, and more bytes of the file than that arrived
pub record IsPastLimit (events : List ExchangeEvent) : Type 0 where
  pub request : FetchRequest
  pub requested : request_of events ≡ Some request
  pub machine : ResponseMachine
  pub method : machine.method ≡ method_of request
  pub passed : List ℕ
  pub rest : List ℕ
  pub body : List ℕ
  pub received : received_of events ≡ passed ++ rest
  pub at : HasPassedResponse machine passed body
  pub unsized : is_unsized machine.place ≡ true
  pub past : unsized_limit < length body

-- the fault of the exchange: the connection failed; it was closed, and the response broke off; memory ran out; the file
-- is past the node's limit; or the bytes received have the fault, whatever follows
abbrev pub HasFault : List ExchangeEvent → HttpFault → Type 0
HasFault events faults.Read = HasEnded ends.Failed events ⊎ HasEnded ends.TimedOut events
HasFault events faults.Short = HasEnded ends.Closed events × Reads events [] (Err faults.Short)
HasFault events faults.Memory = ⊤
HasFault events faults.BodyTooLong = ((more : List ℕ) → Reads events more (Err faults.BodyTooLong)) ⊎ IsPastLimit events
HasFault events fault = (more : List ℕ) → Reads events more (Err fault)

-- the result of the exchange: by the bytes received, whatever follows, or since the connection was closed behind them
abbrev pub HasResponse : List ExchangeEvent → Result Got RequestFault → Type 0
HasResponse events (Ok given) = ((more : List ℕ) → Reads events more (Ok given)) ⊎ (HasEnded ends.Closed events × Reads events [] (Ok given))
HasResponse events (Err (Http fault)) = HasFault events fault
HasResponse events (Err (Dial fault)) = ⊥

-- these bytes of a whole file of this size have arrived, from this place on
abbrev pub HasArrivedPart : List ExchangeEvent → ℕ → ℕ → List ℕ → Type 0
HasArrivedPart events size first bytes = IsSomeAnd (request_of events) (λ request. HasPart (method_of request) (received_of events) size first bytes)

-- the exchange has these events, while the response arrives, and gave these bytes of its body to the feed: only a whole
-- file of a stated length is given in parts
pub record HasArrived (arrival : Arrival) (events : List ExchangeEvent) (given : List ℕ) : Type 0 where
  pub request : FetchRequest
  pub requested : request_of events ≡ Some request
  pub method : arrival.machine.method ≡ method_of request
  pub passed : List ℕ
  pub received : received_of events ≡ passed ++ arrival.kept.items
  pub at : HasPassedResponse arrival.machine passed (given ++ arrival.body.items)
  pub place : arrival.given ≡ length given
  pub parts : file_length arrival.machine.place ≡ None → given ≡ []

-- an exchange has these events
abbrev pub IsExchange : Exchange → List ExchangeEvent → List ℕ → Type 0
IsExchange (exchange.Arriving arrival) events given = HasArrived arrival events given
IsExchange (exchange.Received reply) events given = HasResponse events reply
IsExchange exchange.TooLong events given = IsPastLimit events

-- the fetch of this release awaits no response, or its exchange has these events
abbrev pub IsExchangeOf : Option Exchange → Name → List ExchangeEvent → List ℕ → Type 0
IsExchangeOf None name events given = ⊤
IsExchangeOf (Some exchange) name events given = (name_of events ≡ Some name) × IsExchange exchange events given

-- the response that an exchange ended with
abbrev pub ended_response : Option Exchange → Option (Result Got RequestFault)
ended_response (Some (exchange.Received reply)) = Some reply
ended_response (Some exchange.TooLong) = Some (Err (Http faults.BodyTooLong))
ended_response _ = None

-- a response is arriving
abbrev pub is_arriving : Option Exchange → Bool
is_arriving (Some (exchange.Arriving arrival)) = true
is_arriving _ = false

-- the part of a whole file that has arrived and was not given: its place, the length of the file, and the bytes
abbrev pub part_with : Arrival → Option ℕ → Option (ℕ × ℕ × List ℕ)
part_with arrival (Some size) = Some (arrival.given, size, arrival.body.items)
part_with arrival None = None

abbrev pub part_of : Option Exchange → Option (ℕ × ℕ × List ℕ)
part_of (Some (exchange.Arriving arrival)) = part_with arrival (file_length arrival.machine.place)
part_of _ = None

-- of the bytes kept, this many were taken behind those passed before
pub record IsTaken (arrival : Arrival) (count : ℕ) (is_over : Bool) (events : List ExchangeEvent) (given : List ℕ) : Type 0 where
  pub request : FetchRequest
  pub requested : request_of events ≡ Some request
  pub method : arrival.machine.method ≡ method_of request
  pub passed : List ℕ
  pub received : received_of events ≡ passed ++ arrival.kept.items
  pub taken : IsResponseTaken arrival.machine (passed ++ take count arrival.kept.items) (given ++ arrival.body.items) (drop count arrival.kept.items) is_over
  pub place : arrival.given ≡ length given
  pub parts : file_length arrival.machine.place ≡ None → given ≡ []
