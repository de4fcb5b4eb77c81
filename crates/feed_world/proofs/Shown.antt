-- The lines that show a report and a query.
use Rattle.std.proofs.Common.{◌≡◌, ℕ, Bool, true, List, Option, Some, None, Result, Ok, Err, MatchOption, ◌⊎◌, inl, inr, subst}
use Rattle.feed_names.specs.ReleaseName.{Name}
use Rattle.feed_answer.specs.declared.fault.QueryFault.{QueryFault}
use Rattle.feed_world.specs.declared.line.Why.TheVariants as whys
use Rattle.feed_model.specs.History.{IsFile, Reports}
use Rattle.feed_answer.specs.QueryValue.{QueryValue}
use Rattle.feed_answer.specs.Queries.{query_of}
use Rattle.feed_world.specs.World.{World, Node, Report, Ask, Line, Active, Text, Refused, node_at, IsRefused, IfUp, OrMemory, report_line, none_says, file_says, Happens}
use Rattle.std.specs.Prelude.{MatchBool}
use Rattle.std.proofs.lemmas.Option.{MatchOption-at_some}
use Rattle.feed_world.proofs.Nodes.{asked_at, if_up}
use Rattle.feed_model.proofs.Reports.{reports_one}
use Rattle.feed_world.proofs.Moves.{Reported, Asked}

-- there is a node of this number, it is up, and reports this
pub record IsUp (w : World) (i : ℕ) (package_name : List ℕ) (o : Option Name) : Type 0 where
  pub node : Node
  pub there : node_at w.nodes i ≡ Some node
  pub up : node.up ≡ true
  pub reports : Reports node.history package_name o

pub active_shown : (w v : World) (i : ℕ) (package_name : List ℕ) (n : Name) → Happens w (Report i package_name) (Active n) v → (v ≡ w) × IsUp w i package_name (Some n)
active_shown w v i package_name n h = by (asked_at i w (Active n) v (Reported w package_name (Active n) v) h)
  where
    named : (x : Node) → node_at w.nodes i ≡ Some x → x.up ≡ true → (o : Option Name) → Reports x.history package_name o → Active n ≡ report_line o → IsUp w i package_name (Some n)
    named x at up None r e = absurd (cc)
    named x at up (Some m) r e = let same : m ≡ n = cc in record { node = x; there = at; up = up; reports = subst (λ (z : Name). Reports x.history package_name (Some z)) same r }

    up : (x : Node) → node_at w.nodes i ≡ Some x → (IsRefused whys.Down w (Active n) v) ⊎ ((x.up ≡ true) × Reported w package_name (Active n) v x) → (v ≡ w) × IsUp w i package_name (Some n)
    up x at (inl r) = absurd (let e : Active n ≡ Refused whys.Down = r.0 in cc)
    up x at (inr r) = (r.1.0, named x at r.0 r.1.1 r.1.2 r.1.3)

    by : (IsRefused whys.NoNode w (Active n) v) ⊎ ((x : Node) × (node_at w.nodes i ≡ Some x) × ((IsRefused whys.Down w (Active n) v) ⊎ ((x.up ≡ true) × Reported w package_name (Active n) v x)))
        → (v ≡ w) × IsUp w i package_name (Some n)
    by (inl r) = absurd (let e : Active n ≡ Refused whys.NoNode = r.0 in cc)
    by (inr r) = up r.0 r.1 r.2

-- the report of a node that is there
pub report_shown : (w v : World) (i : ℕ) (package_name : List ℕ) (line : Line) (x : Node) → node_at w.nodes i ≡ Some x → Happens w (Report i package_name) line v
    → (line ≡ Refused whys.Down) ⊎ ((o : Option Name) × Reports x.history package_name o × (line ≡ report_line o))
report_shown w v i package_name line x at h = by (if_up x w line v (Reported w package_name line v x)
    (MatchOption-at_some (IsRefused whys.NoNode w line v) (λ y. IfUp y w line v (Reported w package_name line v y)) x at h))
  where
    by : (IsRefused whys.Down w line v) ⊎ ((x.up ≡ true) × Reported w package_name line v x)
        → (line ≡ Refused whys.Down) ⊎ ((o : Option Name) × Reports x.history package_name o × (line ≡ report_line o))
    by (inl r) = inl r.0
    by (inr r) = inr (r.1.1, r.1.2, r.1.3)

-- a file of this release that came to the node says this to the query
abbrev pub FileSays : World → ℕ → Name → List ℕ → Line → Type 0
FileSays w i n query line =
    (file : List ℕ) × (x : Node) × (node_at w.nodes i ≡ Some x) × IsFile x.history n file × (line ≡ file_says n file (query_of query))

-- an ask of a node that is up and reports a release
pub ask_shown : (w v : World) (i : ℕ) (package_name : List ℕ) (n : Name) (query : List ℕ) (line : Line) → IsUp w i package_name (Some n) → Happens w (Ask i package_name query) line v
    → OrMemory line (FileSays w i n query line)
ask_shown w v i package_name n query line u h =
    by (subst (λ (b : Bool). MatchBool b (Asked w package_name query line v u.node) (IsRefused whys.Down w line v)) u.up
    (MatchOption-at_some (IsRefused whys.NoNode w line v) (λ y. IfUp y w line v (Asked w package_name query line v y)) u.node u.there h))
  where
    named : (o : Option Name) → o ≡ Some n → MatchOption o (line ≡ none_says (query_of query)) (λ n. (file : List ℕ) × IsFile u.node.history n file
        × (line ≡ file_says n file (query_of query)))
        → FileSays w i n query line
    named None e r = absurd (cc)
    named (Some m) e r =
        let same : m ≡ n = cc in let q : (file : List ℕ) × IsFile u.node.history n file × (line ≡ file_says n file (query_of query)) = subst
        (λ (z : Name). (file : List ℕ) × IsFile u.node.history z file × (line ≡ file_says z file (query_of query))) same r in (q.0, u.node, u.there, q.1, q.2)

    or : (o : Option Name) → o ≡ Some n
        → OrMemory line (MatchOption o (line ≡ none_says (query_of query)) (λ n. (file : List ℕ) × IsFile u.node.history n file × (line ≡ file_says n file (query_of query))))
        → OrMemory line (FileSays w i n query line)
    or o e (inl r) = inl (named o e r)
    or o e (inr r) = inr r

    by : Asked w package_name query line v u.node → OrMemory line (FileSays w i n query line)
    by r = or r.1.0 (reports_one u.node.history package_name r.1.0 (Some n) r.1.1 u.reports) r.1.2

none_is_no_text : (text : List ℕ) (r : Result QueryValue QueryFault) → Text text ≡ none_says r → ⊥
none_is_no_text text (Ok q) e = cc
none_is_no_text text (Err f) e = cc

-- a text is the answer of the release that the node would report
pub text_shown : (w v : World) (i : ℕ) (package_name : List ℕ) (query text : List ℕ) → Happens w (Ask i package_name query) (Text text) v
    → (v ≡ w) × (n : Name) × IsUp w i package_name (Some n) × FileSays w i n query (Text text)
text_shown w v i package_name query text h = by (asked_at i w (Text text) v (Asked w package_name query (Text text) v) h)
  where
    named : (x : Node) → node_at w.nodes i ≡ Some x → x.up ≡ true → v ≡ w → (o : Option Name) → Reports x.history package_name o
        → OrMemory (Text text) (MatchOption o (Text text ≡ none_says (query_of query)) (λ n. (file : List ℕ) × IsFile x.history n file × (Text text ≡ file_says n file (query_of query))))
        → (v ≡ w) × (n : Name) × IsUp w i package_name (Some n) × FileSays w i n query (Text text)
    named x at up same o r (inr e) = absurd (cc)
    named x at up same None r (inl e) = absurd (none_is_no_text text (query_of query) e)
    named x at up same (Some n) r (inl e) = (same, n, record { node = x; there = at; up = up; reports = r }, (e.0, x, at, e.1, e.2))

    up : (x : Node) → node_at w.nodes i ≡ Some x → (IsRefused whys.Down w (Text text) v) ⊎ ((x.up ≡ true) × Asked w package_name query (Text text) v x)
        → (v ≡ w) × (n : Name) × IsUp w i package_name (Some n) × FileSays w i n query (Text text)
    up x at (inl r) = absurd (let e : Text text ≡ Refused whys.Down = r.0 in cc)
    up x at (inr r) = named x at r.0 r.1.0 r.1.1.0 r.1.1.1 r.1.1.2

    by : (IsRefused whys.NoNode w (Text text) v) ⊎ ((x : Node) × (node_at w.nodes i ≡ Some x)
        × ((IsRefused whys.Down w (Text text) v) ⊎ ((x.up ≡ true) × Asked w package_name query (Text text) v x)))
        → (v ≡ w) × (n : Name) × IsUp w i package_name (Some n) × FileSays w i n query (Text text)
    by (inl r) = absurd (let e : Text text ≡ Refused whys.NoNode = r.0 in cc)
    by (inr r) = up r.0 r.1 r.2
