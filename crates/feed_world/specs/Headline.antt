-- The headline theorem: a promise about every transcript, stated over its events and lines alone.
use Rattle.std.specs.Prelude.{◌≡◌, ◌≢◌, ◌<◌, ◌≤◌, ◌⊎◌, ℕ, ◌≤ℤ◌, min, max, if◌then◌else◌, List, [], ◌∷◌, take, Option, Some, None, true, slice_get}
use Rattle.feed_names.specs.ReleaseName.{Name}
use Rattle.feed_world.specs.declared.line.Why.TheVariants as whys
use Rattle.feed_names.specs.ReleaseName.{name_eq}
use Rattle.feed_model.specs.File.{fault_of}
use Rattle.feed_model.specs.History.{History, size_of, kept}
use Rattle.feed_answer.specs.Queries.{query_of}
use Rattle.feed_world.specs.World.{WorldEvent, Publish, Tell, Restart, StopBefore, StopAfter, Report, Ask, Line, Active, Text, Refused, World, Node, node_at, file_says}

-- the published file of a release: the bytes of the first publication of its name
abbrev pub file_of : List WorldEvent → Name → Option (List ℕ)
file_of [] n = None
file_of (Publish m bytes ∷ events) n = if name_eq m n then Some bytes else file_of events n
file_of (event ∷ events) n = file_of events n

-- the event cannot change this node
abbrev pub IsQuiet : ℕ → WorldEvent → Type 0
IsQuiet node (Tell i sent) = i ≢ node
IsQuiet node (Restart i) = i ≢ node
IsQuiet node (StopBefore i sent) = i ≢ node
IsQuiet node (StopAfter i sent) = i ≢ node
IsQuiet node event = Unit {0}

-- between the two places of the list, in either order, no event can change this node
abbrev pub IsOneMoment : List WorldEvent → ℕ → ℕ → ℕ → Type 0
IsOneMoment events node j k = (m : ℕ) (event : WorldEvent) → min j k ≤ m → m ≤ max j k → slice_get events m ≡ Some event → IsQuiet node event

-- at this place the list has this event, and the transcript this line
pub record IsShownAt (events : List WorldEvent) (lines : List Line) (place : ℕ) (event : WorldEvent) (line : Line) : Type 0 where
  pub happened : slice_get events place ≡ Some event
  pub shown : slice_get lines place ≡ Some line

-- a query about a package, to a node
pub record Question : Type 0 where
  pub node : ℕ
  pub package_name : List ℕ
  pub query : List ℕ

-- at this place the node is asked the question and answers with this line, and a report of the same moment shows this release
pub record IsAnswerAt (events : List WorldEvent) (lines : List Line) (place : ℕ) (q : Question) (name : Name) (line : Line) : Type 0 where
  pub asked : IsShownAt events lines place (Ask q.node q.package_name q.query) line
  pub report : ℕ
  pub reported : IsShownAt events lines report (Report q.node q.package_name) (Active name)
  pub together : IsOneMoment events q.node report place
  pub given : line ≢ Refused whys.Memory

-- the same package, and no earlier day
abbrev pub IsNoOlder : Name → Name → Type 0
IsNoOlder n m = (m.package_name ≡ n.package_name) × (n.day ≤ℤ m.day)

-- the release belongs to the package, and its file is good and was published before this place
pub record IsGoodRelease (events : List WorldEvent) (place : ℕ) (package_name : List ℕ) (name : Name) : Type 0 where
  pub its_package : name.package_name ≡ package_name
  pub its_file : List ℕ
  pub published : file_of (take place events) name ≡ Some its_file
  pub good : fault_of its_file ≡ None

-- a line of text is the answer of such a release: no earlier report of the node names a newer one, and no later report an older one
pub record IsFrom (events : List WorldEvent) (lines : List Line) (place : ℕ) (q : Question) (text : List ℕ) (name : Name) : Type 0 where
  pub release : IsGoodRelease events place q.package_name name
  pub whole : Text text ≡ file_says name release.its_file (query_of q.query)
  pub before : (j : ℕ) (n : Name) → j < place → IsShownAt events lines j (Report q.node q.package_name) (Active n) → IsNoOlder n name
  pub after : (j : ℕ) (n : Name) → place < j → IsShownAt events lines j (Report q.node q.package_name) (Active n) → IsNoOlder name n

-- Any two nodes that report the same release of a package give every query the same answer, the one which that
-- release's published file as a whole defines; and no later report of a node names an older release. Besides, a report
-- holds until the next event of its node, and names a good release that was published before; and each text is the
-- answer of such a release, no older than any that the node reported before.
pub record IsHeadline (events : List WorldEvent) (lines : List Line) : Type 0 where
  pub same : (j k b : ℕ) (q : Question) (n : Name) (x y : Line) → IsAnswerAt events lines j q n x → IsAnswerAt events lines k (record q { node = b }) n y → x ≡ y
  pub whole : (j : ℕ) (q : Question) (n : Name) (x : Line) → IsAnswerAt events lines j q n x
      → (file : List ℕ) × (file_of (take j events) n ≡ Some file) × (x ≡ file_says n file (query_of q.query))
  pub later : (j k a : ℕ) (package_name : List ℕ) (n : Name) (line : Line) → j < k → IsShownAt events lines j (Report a package_name) (Active n) → IsShownAt events lines k (Report a package_name) line
      → (line ≡ Refused whys.Down) ⊎ ((m : Name) × (line ≡ Active m) × IsNoOlder n m)
  pub named : (k a : ℕ) (package_name : List ℕ) (n : Name) → IsShownAt events lines k (Report a package_name) (Active n) → IsGoodRelease events k package_name n
  pub still : (j k a : ℕ) (package_name : List ℕ) (x y : Line) → IsShownAt events lines j (Report a package_name) x → IsShownAt events lines k (Report a package_name) y → IsOneMoment events a j k
      → x ≡ y
  pub from : (k : ℕ) (q : Question) (text : List ℕ) → IsShownAt events lines k (Ask q.node q.package_name q.query) (Text text) → (n : Name) × IsFrom events lines k q text n
  pub onward : (j k : ℕ) (q : Question) (query text other : List ℕ) → j < k → IsShownAt events lines j (Ask q.node q.package_name q.query) (Text text)
      → IsShownAt events lines k (Ask q.node q.package_name query) (Text other)
      → (n : Name) × (m : Name) × IsFrom events lines j q text n × IsFrom events lines k (record q { query = query }) other m × IsNoOlder n m

-- two histories have the same size and the same bytes of each release of a package
pub record HasAlike (h k : History) (package_name : List ℕ) : Type 0 where
  pub size : (n : Name) → n.package_name ≡ package_name → size_of h n ≡ size_of k n
  pub bytes : (n : Name) → n.package_name ≡ package_name → (place : ℕ) → kept h n place ≡ kept k n place

-- the release is published with a good file, and no published good file of its package has a later day
pub record IsLatest (events : List WorldEvent) (n : Name) : Type 0 where
  pub file : List ℕ
  pub published : file_of events n ≡ Some file
  pub good : fault_of file ≡ None
  pub latest : (m : Name) (other : List ℕ) → m.package_name ≡ n.package_name → file_of events m ≡ Some other → fault_of other ≡ None → m.day ≤ℤ n.day

-- a node of the world that is up
pub record IsUpAt (w : World) (i : ℕ) (x : Node) : Type 0 where
  pub there : node_at w.nodes i ≡ Some x
  pub running : x.up ≡ true
