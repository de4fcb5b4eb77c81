-- A world of published files and of nodes that may be up or down: its events, and the lines that show them.
use Rattle.std.specs.Prelude.{◌≡◌, ◌+◌, ◌⊎◌, ◌++◌, ℕ, zero, suc, Bool, true, false, nat_le, if◌then◌else◌}
use Rattle.std.specs.Prelude.{List, [], ◌∷◌, length, take, drop, replicate, Option, Some, None, Result, Ok, Err}
use Rattle.std.specs.Prelude.{slice_get, slice_set, MatchOption, MatchResult, MatchBool}
use Rattle.feed_names.specs.ReleaseName.{Name, name_eq, text_of}
use Rattle.feed_model.specs.declared.reply.Reply as reply
use Rattle.feed_answer.specs.declared.fault.QueryFault.{QueryFault}
use Rattle.feed_model.specs.declared.keep_fault.KeepFault as cause
use Rattle.feed_model.specs.declared.keep_fault.KeepFault.TheVariants as causes
use Rattle.feed_world.specs.declared.line.Why as why
use Rattle.feed_world.specs.declared.line.Why.TheVariants as whys
use Rattle.feed_model.specs.History.{Event, Offered, Piece, Lost, Answer, History, IsFile, Reports}
use Rattle.feed_model.specs.Reply.{Case, IsRight}
use Rattle.feed_answer.specs.QueryValue.{QueryValue}
use Rattle.feed_answer.specs.Queries.{query_of}
use Rattle.feed_answer.specs.Answers.{answer_of, answer_text}
use Rattle.feed_kbart.specs.Files.{holdings_of}

-- a message to a node; in the code a node stops during an offer or a delivery only
pub data Sent : Type 0 where
  Offer : (name : Name) → Sent
  Deliver : (name : Name) (first len : ℕ) → Sent
  Lose : (name : Name) → Sent

-- an event of the world; a node is identified by its number, counted from 1, and a package by its package_name
pub data WorldEvent : Type 0 where
  Publish : (name : Name) (bytes : List ℕ) → WorldEvent
  Tell : (node : ℕ) (sent : Sent) → WorldEvent
  Restart : (node : ℕ) → WorldEvent
  StopBefore : (node : ℕ) (sent : Sent) → WorldEvent
  StopAfter : (node : ℕ) (sent : Sent) → WorldEvent
  Report : (node : ℕ) (package_name : List ℕ) → WorldEvent
  Ask : (node : ℕ) (package_name : List ℕ) (query : List ℕ) → WorldEvent

-- a line of a transcript
pub data Line : Type 0 where
  Published : Line
  Replied : (reply : reply.Reply) → Line
  Restarted : Line
  Stopped : Line
  IsDown : (cause : cause.KeepFault) → Line
  Active : (name : Name) → Line
  Inactive : Line
  Text : (text : List ℕ) → Line
  Refused : (why : why.Why) → Line

-- the published files, by their names
abbrev pub Shelf : Type 0
Shelf = List (Name × List ℕ)

-- the file of a name, if it is published
abbrev pub file_on : Shelf → Name → Option (List ℕ)
file_on [] n = None
file_on (f ∷ fs) n = if name_eq f.0 n then Some f.1 else file_on fs n

-- a node: its events with their answers, and whether it is up
pub record Node : Type 0 where
  pub up : Bool
  pub history : History

-- the published files, and the nodes in the order of their numbers
pub record World : Type 0 where
  pub shelf : Shelf
  pub nodes : List Node

-- the node with this number, counted from 1
abbrev pub node_at : List Node → ℕ → Option Node
node_at nodes zero = None
node_at nodes (suc i) = slice_get nodes i

-- replaces the node with this number
abbrev pub set_node : List Node → ℕ → Node → List Node
set_node nodes zero x = nodes
set_node nodes (suc i) x = slice_set nodes i x

-- the world with another node under this number
abbrev pub with_node : World → ℕ → Bool → History → World
with_node w i up history = record { shelf = w.shelf; nodes = set_node w.nodes i (record { up = up; history = history }) }

-- this many nodes are up, and nothing has happened
abbrev pub start : ℕ → World
start count = record { shelf = []; nodes = replicate count (record { up = true; history = [] }) }

-- an offer as it arrives: with the size of the published file
abbrev pub offer_event : Name → Option (List ℕ) → Result Event why.Why
offer_event n None = Err whys.Unpublished
offer_event n (Some file) = Ok (Offered n (length file))

-- a delivery as it arrives: a slice of the published file, and the size of the file
abbrev pub delivery_event : Name → ℕ → ℕ → Option (List ℕ) → Result Event why.Why
delivery_event n first len None = Err whys.Unpublished
delivery_event n first len (Some file) = if nat_le (first + len) (length file) then Ok (Piece n first (Some (length file)) (take len (drop first file))) else Err whys.NoSlice

-- a loss as it arrives
abbrev pub loss_event : Name → Option (List ℕ) → Result Event why.Why
loss_event n None = Err whys.Unpublished
loss_event n (Some file) = Ok (Lost n)

-- the feed's event for what is sent to a node, or why nothing arrives: the release is not published, or the slice
-- extends past the end of its file
abbrev pub arriving : Shelf → Sent → Result Event why.Why
arriving shelf (Offer n) = offer_event n (file_on shelf n)
arriving shelf (Deliver n first len) = delivery_event n first len (file_on shelf n)
arriving shelf (Lose n) = loss_event n (file_on shelf n)

-- the event is refused, and nothing changes
abbrev pub IsRefused : why.Why → World → Line → World → Type 0
IsRefused why w line v = (line ≡ Refused why) × (v ≡ w)

-- a node has this number, and the statement holds for it; otherwise the event is refused
abbrev pub AtNode : ℕ → World → Line → World → (Node → Type 0) → Type 0
AtNode i w line v Here = MatchOption (node_at w.nodes i) (IsRefused whys.NoNode w line v) Here

-- the message can be sent, and the statement holds for the feed's event; otherwise the event is refused
abbrev pub Arrives : Sent → World → Line → World → (Event → Type 0) → Type 0
Arrives sent w line v Here = MatchResult (arriving w.shelf sent) Here (λ why. IsRefused why w line v)

-- the node is up, and the statement holds; otherwise the event is refused
abbrev pub IfUp : Node → World → Line → World → Type 0 → Type 0
IfUp x w line v Here = MatchBool x.up Here (IsRefused whys.Down w line v)

-- the node is open again; or it is down because memory ran out or its device failed, but never because its keeper is
-- damaged. Either way it has this history
abbrev pub Reopens : ℕ → History → Line → World → Line → World → Type 0
Reopens i history done w line v =
    ((line ≡ done) × (v ≡ with_node w i true history))
    ⊎ ((cause : cause.KeepFault) × ((cause ≡ causes.Memory) ⊎ (cause ≡ causes.Device)) × (line ≡ IsDown cause) × (v ≡ with_node w i false history))

-- the line of a feed's answer
abbrev pub answer_line : Answer → Line
answer_line (Ok reply) = Replied reply
answer_line (Err refusal) = Refused (whys.Feed refusal)

-- the line of a report
abbrev pub report_line : Option Name → Line
report_line None = Inactive
report_line (Some n) = Active n

-- the text that answers a query from the whole file of a release
unfoldable pub text_for : Name → List ℕ → QueryValue → List ℕ
text_for n file query = answer_text (text_of n) (answer_of (holdings_of file) query)

-- the answer without a release: an error of the query takes precedence
abbrev pub none_says : Result QueryValue QueryFault → Line
none_says (Err fault) = Refused (whys.Query fault)
none_says (Ok query) = Refused whys.NoRelease

-- the answer from the complete file of a release
abbrev pub file_says : Name → List ℕ → Result QueryValue QueryFault → Line
file_says n file (Err fault) = Refused (whys.Query fault)
file_says n file (Ok query) = Text (text_for n file query)

-- this line; or, in its place, running out of memory
abbrev pub OrMemory : Line → Type 0 → Type 0
OrMemory line right = right ⊎ (line ≡ Refused whys.Memory)

-- a right answer to a query at this history: the fault of the query, or for a valid query the answer from the active
-- release's complete file, or NoRelease if the package has no active release. In place of each, it may be running out
-- of memory
abbrev pub IsAsked : History → List ℕ → List ℕ → Line → Type 0
IsAsked h package_name query line = (o : Option Name) × Reports h package_name o × OrMemory line
    (MatchOption o (line ≡ none_says (query_of query)) (λ n. (file : List ℕ) × IsFile h n file × (line ≡ file_says n file (query_of query))))

-- the event may be shown by this line, and may turn one world into the other. A restart is tried at a node that is down
-- as well. A refusal of the feed is an answer too: it is added to the history
abbrev pub Happens : World → WorldEvent → Line → World → Type 0
Happens w (Publish n bytes) line v =
    MatchOption (file_on w.shelf n)
    ((line ≡ Published) × (v ≡ record { shelf = w.shelf ++ (n, bytes) ∷ []; nodes = w.nodes }))
    (λ file. Case (file ≡ bytes) ((line ≡ Published) × (v ≡ w)) (IsRefused whys.Republished w line v))
Happens w (Tell i sent) line v =
    AtNode i w line v (λ x. Arrives sent w line v (λ event. IfUp x w line v
    ((answer : Answer) × IsRight x.history event answer × (line ≡ answer_line answer) × (v ≡ with_node w i true ((event, answer) ∷ x.history)))))
Happens w (Restart i) line v =
    AtNode i w line v (λ x. Reopens i x.history Restarted w line v)
Happens w (StopBefore i sent) line v =
    AtNode i w line v (λ x. Arrives sent w line v (λ event. IfUp x w line v
    (Reopens i x.history Stopped w line v)))
Happens w (StopAfter i sent) line v =
    AtNode i w line v (λ x. Arrives sent w line v (λ event. IfUp x w line v
    ((answer : Answer) × IsRight x.history event answer × Reopens i ((event, answer) ∷ x.history) Stopped w line v)))
Happens w (Report i package_name) line v =
    AtNode i w line v (λ x. IfUp x w line v
    ((v ≡ w) × (o : Option Name) × Reports x.history package_name o × (line ≡ report_line o)))
Happens w (Ask i package_name query) line v =
    AtNode i w line v (λ x. IfUp x w line v
    ((v ≡ w) × IsAsked x.history package_name query line))

-- the events may be shown by these lines, one after another; there are as many lines as events
abbrev pub Shows : World → List WorldEvent → List Line → World → Type 0
Shows w [] [] v = w ≡ v
Shows w (event ∷ events) (line ∷ lines) v = (m : World) × Happens w event line m × Shows m events lines v
Shows w [] (line ∷ lines) v = ⊥
Shows w (event ∷ events) [] v = ⊥
