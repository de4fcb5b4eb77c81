-- The headline.
use Rattle.std.proofs.Common.{◌≡◌, ◌<◌, ◌+◌, ℕ, suc, Bool, true, false, List, take, drop, Option, Some}
use Rattle.std.proofs.Common.{None, MatchOption, slice_get, ◌⊎◌, inl, inr, refl, sym, ◌∙◌, ap, subst, arith}
use Rattle.std.specs.Prelude.{MatchBool}
use Rattle.std.proofs.lemmas.Option.{MatchOption-at_some}
use Rattle.feed_model.specs.Reply.{IsLegal}
use Rattle.feed_names.specs.ReleaseName.{Name}
use Rattle.feed_world.specs.declared.line.Why.TheVariants as whys
use Rattle.feed_model.specs.History.{IsFile, IsWhole, Reports}
use Rattle.feed_answer.specs.Queries.{query_of}
use Rattle.feed_world.specs.World.{World, Node, WorldEvent, Report, Ask, Line, Active, Text, Refused, node_at, start, report_line, file_says, IsRefused, IfUp, OrMemory, Happens, Shows}
use Rattle.feed_model.specs.File.{fault_of}
use Rattle.feed_world.specs.Headline.{file_of, IsOneMoment, IsShownAt, Question, IsAnswerAt, IsNoOlder, IsGoodRelease, IsFrom, IsHeadline, HasAlike, IsLatest, IsUpAt}
use Rattle.feed_model.proofs.Reports.{reports_one}
use Rattle.feed_world.proofs.Over.{file_published, later_report, reports_alike, latest_active}
use Rattle.feed_world.proofs.Slices.{same_some}
use Rattle.feed_world.proofs.Moves.{Reported, IsSound, sound_start, sound_step, quiet_step, moves}
use Rattle.feed_world.proofs.Places.{shows_sound, shows_grows, shows_files, shows_quiet, file_of-take, IsAt, place_of, between, AreAt, places_of, gap_event}
use Rattle.feed_world.proofs.Shown.{IsUp, FileSays, active_shown, report_shown, ask_shown, text_shown}

order : (j k : ℕ) → (j < k) ⊎ ((j ≡ k) ⊎ (k < j))
order j k = grind arith

-- the ask at a place, and the report that the node would give there
record Met (count : ℕ) (events : List WorldEvent) (lines : List Line) (k : ℕ) (q : Question) (n : Name) (x : Line) : Type 0 where
  old : World
  new : World
  come : Shows (start count) (take k events) (take k lines) old
  step : Happens old (Ask q.node q.package_name q.query) x new
  reports : IsUp old q.node q.package_name (Some n)

-- the same node reports the same
up_same : (w v : World) (a : ℕ) (package_name : List ℕ) (o : Option Name) → node_at v.nodes a ≡ node_at w.nodes a → IsUp w a package_name o → IsUp v a package_name o
up_same w v a package_name o e u = record { node = u.node; there = e ∙ u.there; up = u.up; reports = u.reports }

ask_stays : (w v : World) (a : ℕ) (package_name : List ℕ) (query : List ℕ) (x : Line) → Happens w (Ask a package_name query) x v → node_at v.nodes a ≡ node_at w.nodes a
ask_stays w v a package_name query x h = quiet_step w (Ask a package_name query) v a tt (moves w (Ask a package_name query) x v h)

gap_quiet : (count : ℕ) (events : List WorldEvent) (lines : List Line) (j k a : ℕ) (e f : WorldEvent) (l m : Line) (p : AreAt (start count) events lines j k e l f m) → IsOneMoment events a j k
    → j < k → node_at p.three.nodes a ≡ node_at p.two.nodes a
gap_quiet count events lines j k a e f l m p together lt =
    shows_quiet p.two p.three (drop (suc j) (take k events)) (drop (suc j) (take k lines)) a
    (λ i g is. (let t = gap_event events j k i g is in together (suc j + i) g (omega (arith, lt)) (omega (arith, t.1)) t.0)) p.gap

met : (count : ℕ) (events : List WorldEvent) (lines : List Line) (w : World) → Shows (start count) events lines w → (k : ℕ) (q : Question) (n : Name) (x : Line) → IsAnswerAt events lines k q n x
    → Met count events lines k q n x
met count events lines w s k q n x t = by (order t.report k)
  where
    by : (t.report < k) ⊎ ((t.report ≡ k) ⊎ (k < t.report)) → Met count events lines k q n x
    by (inl lt) =
        let p = places_of (start count) w events lines t.report k (Report q.node q.package_name) (Ask q.node q.package_name q.query) (Active n) x lt s
        t.reported.happened t.reported.shown t.asked.happened t.asked.shown in
        let r = active_shown p.one p.two q.node q.package_name n p.first in
        record {
          old = p.three;
          new = p.four;
          come = p.reach;
          step = p.second;
          reports = up_same p.one p.three q.node q.package_name (Some n)
              (gap_quiet count events lines t.report k q.node (Report q.node q.package_name) (Ask q.node q.package_name q.query) (Active n) x p t.together lt
              ∙ ap (λ (z : World). node_at z.nodes q.node) r.0) r.1;
        }
    by (inr (inl same)) = absurd (let e : slice_get events t.report ≡ Some (Ask q.node q.package_name q.query) = ap (slice_get events) same ∙ t.asked.happened in let f = t.reported.happened in cc)
    by (inr (inr lt)) =
        let p = places_of (start count) w events lines k t.report (Ask q.node q.package_name q.query) (Report q.node q.package_name) x (Active n) lt s
        t.asked.happened t.asked.shown t.reported.happened t.reported.shown in
        let r = active_shown p.three p.four q.node q.package_name n p.second in
        let turned : IsOneMoment events q.node k t.report = λ m e low high. t.together m e (omega (arith, low)) (omega (arith, high)) in
        record {
          old = p.one;
          new = p.two;
          come = p.come;
          step = p.first;
          reports = up_same p.three p.one q.node q.package_name (Some n)
              (sym (gap_quiet count events lines k t.report q.node (Ask q.node q.package_name q.query) (Report q.node q.package_name) x (Active n) p turned lt
              ∙ ask_stays p.one p.two q.node q.package_name q.query x p.first)) r.1;
        }

-- a whole file of a node is what the events so far publish
published_at : (count : ℕ) (events : List WorldEvent) (lines : List Line) (w : World) (i : ℕ) (x : Node) (n : Name) (file : List ℕ) → Shows (start count) events lines w
    → node_at w.nodes i ≡ Some x → IsFile x.history n file → file_of events n ≡ Some file
published_at count events lines w i x n file s at f =
    sym (shows_files (start count) w events lines n s) ∙ file_published w.shelf x.history n file ((shows_sound (start count) w events lines (sound_start count) s).over i x at) f

whole : (count : ℕ) (events : List WorldEvent) (lines : List Line) (w : World) → Shows (start count) events lines w → (k : ℕ) (q : Question) (n : Name) (x : Line)
    → IsAnswerAt events lines k q n x → (file : List ℕ) × (file_of (take k events) n ≡ Some file) × (x ≡ file_says n file (query_of q.query))
whole count events lines w s k q n x t = by (ask_shown p.old p.new q.node q.package_name n q.query x p.reports p.step)
  where
    p : Met count events lines k q n x
    p = met count events lines w s k q n x t

    by : OrMemory x ((file : List ℕ) × (y : Node) × (node_at p.old.nodes q.node ≡ Some y) × IsFile y.history n file × (x ≡ file_says n file (query_of q.query)))
        → (file : List ℕ) × (file_of (take k events) n ≡ Some file) × (x ≡ file_says n file (query_of q.query))
    by (inr e) = absurd (t.given e)
    by (inl r) = (r.0, published_at count (take k events) (take k lines) p.old q.node r.1 n r.0 p.come r.2 r.3, r.4)

same : (count : ℕ) (events : List WorldEvent) (lines : List Line) (w : World) → Shows (start count) events lines w → (j k b : ℕ) (q : Question) (n : Name) (x y : Line)
    → IsAnswerAt events lines j q n x → IsAnswerAt events lines k (record q { node = b }) n y → x ≡ y
same count events lines w s j k b q n x y t u =
    let p = whole count events lines w s j q n x t in
    let r = whole count events lines w s k (record q { node = b }) n y u in
    let is : p.0 ≡ r.0 = same_some (file_of events n) p.0 r.0 (file_of-take j events n p.0 p.1) (file_of-take k events n r.0 r.1) in
    p.2 ∙ ap (λ (f : List ℕ). file_says n f (query_of q.query)) is ∙ sym r.2

-- what a node has at a later world
grown : (u v : World) (es : List WorldEvent) (ls : List Line) (a : ℕ) (package_name : List ℕ) (n : Name) → IsSound u → Shows u es ls v → IsUp u a package_name (Some n)
    → (y : Node) × (node_at v.nodes a ≡ Some y) × ((o : Option Name) → Reports y.history package_name o → (m : Name) × (o ≡ Some m) × IsNoOlder n m)
grown u v es ls a package_name n sound s r =
    let g = (shows_grows u v es ls sound s).nodes a r.node r.there in
    (g.0, g.1, λ o q. (let t = later_report r.node.history g.0.history package_name n o g.2 r.reports q in (t.0, t.1, (t.2 ∙ sym r.reports.0, t.3))))

-- the world after a step is sound
sound_after : (count : ℕ) (es : List WorldEvent) (ls : List Line) (w : World) (e : WorldEvent) (l : Line) (v : World) → Shows (start count) es ls w → Happens w e l v → IsSound v
sound_after count es ls w e l v s h = sound_step w e v (shows_sound (start count) w es ls (sound_start count) s) (moves w e l v h)

later : (count : ℕ) (events : List WorldEvent) (lines : List Line) (w : World) → Shows (start count) events lines w → (j k a : ℕ) (package_name : List ℕ) (n : Name) (line : Line) → j < k
    → IsShownAt events lines j (Report a package_name) (Active n) → IsShownAt events lines k (Report a package_name) line
    → (line ≡ Refused whys.Down) ⊎ ((m : Name) × (line ≡ Active m) × IsNoOlder n m)
later count events lines w s j k a package_name n line lt t u = by (report_shown p.three p.four a package_name line g.0 g.1 p.second)
  where
    p : AreAt (start count) events lines j k (Report a package_name) (Active n) (Report a package_name) line
    p = places_of (start count) w events lines j k (Report a package_name) (Report a package_name) (Active n) line lt s t.happened t.shown u.happened u.shown

    g : (y : Node) × (node_at p.three.nodes a ≡ Some y) × ((o : Option Name) → Reports y.history package_name o → (m : Name) × (o ≡ Some m) × IsNoOlder n m)
    g = let r = active_shown p.one p.two a package_name n p.first in
        grown p.two p.three (drop (suc j) (take k events)) (drop (suc j) (take k lines)) a package_name n
        (sound_after count (take j events) (take j lines) p.one (Report a package_name) (Active n) p.two p.come p.first) p.gap
        (subst (λ (z : World). IsUp z a package_name (Some n)) (sym r.0) r.1)

    by : (line ≡ Refused whys.Down) ⊎ ((o : Option Name) × Reports g.0.history package_name o × (line ≡ report_line o))
        → (line ≡ Refused whys.Down) ⊎ ((m : Name) × (line ≡ Active m) × IsNoOlder n m)
    by (inl e) = inl e
    by (inr r) = let q = g.2 r.0 r.1 in inr (q.0, r.2 ∙ ap report_line q.1, q.2)

-- a report, or a text, at a place: the release that the node has there
record Says (count : ℕ) (w : World) (events : List WorldEvent) (lines : List Line) (k a : ℕ) (package_name : List ℕ) (e : WorldEvent) (l : Line)
    (p : IsAt (start count) w events lines k e l) : Type 0 where
  name : Name
  stays : p.new ≡ p.old
  up : IsUp p.old a package_name (Some name)

-- it is a good one, which was published before
says_good : (count : ℕ) (events : List WorldEvent) (lines : List Line) (w : World) (k a : ℕ) (package_name : List ℕ) (e : WorldEvent) (l : Line) (p : IsAt (start count) w events lines k e l)
    → (s : Says count w events lines k a package_name e l p) → (file : List ℕ) → IsFile s.up.node.history s.name file → fault_of file ≡ None → IsGoodRelease events k package_name s.name
says_good count events lines w k a package_name e l p s file f good = record {
  its_package = s.up.reports.0;
  its_file = file;
  published = published_at count (take k events) (take k lines) p.old a s.up.node s.name file p.come s.up.there f;
  good = good;
}

-- a release that the node has later is no older
says_on : (count : ℕ) (events : List WorldEvent) (lines : List Line) (w : World) (j k a : ℕ) (package_name : List ℕ) (e f : WorldEvent) (l m : Line) → j < k
    → (s : Shows (start count) events lines w)
    → (c : slice_get events j ≡ Some e) → (d : slice_get lines j ≡ Some l) → (g : slice_get events k ≡ Some f) → (h : slice_get lines k ≡ Some m)
    → (x : Says count w events lines j a package_name e l (place_of (start count) w events lines j e l s c d))
    → (y : Says count w events lines k a package_name f m (place_of (start count) w events lines k f m s g h)) → IsNoOlder x.name y.name
says_on count events lines w j k a package_name e f l m lt s c d g h x y =
    let p = place_of (start count) w events lines j e l s c d in
    let q = place_of (start count) w events lines k f m s g h in
    let gap = between (start count) w events lines j k e f l m lt s c d g h in
    let at : IsUp p.new a package_name (Some x.name) = subst (λ (z : World). IsUp z a package_name (Some x.name)) (sym x.stays) x.up in
    let r = grown p.new q.old (drop (suc j) (take k events)) (drop (suc j) (take k lines)) a package_name x.name
    (sound_after count (take j events) (take j lines) p.old e l p.new p.come p.step) gap at in
    let same : y.up.node ≡ r.0 = same_some (node_at q.old.nodes a) y.up.node r.0 y.up.there r.1 in
    let t = r.2 (Some y.name) (subst (λ (z : Node). Reports z.history package_name (Some y.name)) same y.up.reports) in
    let is : t.0 ≡ y.name = (let u = t.1 in cc) in
    subst (IsNoOlder x.name) is t.2

report_says : (count : ℕ) (events : List WorldEvent) (lines : List Line) (w : World) (s : Shows (start count) events lines w) (k a : ℕ) (package_name : List ℕ) (n : Name)
    (t : IsShownAt events lines k (Report a package_name) (Active n))
    → Says count w events lines k a package_name (Report a package_name) (Active n) (place_of (start count) w events lines k (Report a package_name) (Active n) s t.happened t.shown)
report_says count events lines w s k a package_name n t =
    let p = place_of (start count) w events lines k (Report a package_name) (Active n) s t.happened t.shown in
    let r = active_shown p.old p.new a package_name n p.step in record { name = n; stays = r.0; up = r.1 }

named : (count : ℕ) (events : List WorldEvent) (lines : List Line) (w : World) → Shows (start count) events lines w → (k a : ℕ) (package_name : List ℕ) (n : Name)
    → IsShownAt events lines k (Report a package_name) (Active n) → IsGoodRelease events k package_name n
unfolding report_says
named count events lines w s k a package_name n t =
    let r = report_says count events lines w s k a package_name n t in
    let good = r.up.reports.1.0 in
    says_good count events lines w k a package_name (Report a package_name) (Active n) (place_of (start count) w events lines k (Report a package_name) (Active n) s t.happened t.shown) r good.0 good.1
    good.2

text_says : (count : ℕ) (events : List WorldEvent) (lines : List Line) (w : World) (s : Shows (start count) events lines w) (k a : ℕ) (package_name query text : List ℕ)
    (t : IsShownAt events lines k (Ask a package_name query) (Text text))
    → Says count w events lines k a package_name (Ask a package_name query) (Text text) (place_of (start count) w events lines k (Ask a package_name query) (Text text) s t.happened t.shown)
text_says count events lines w s k a package_name query text t =
    let p = place_of (start count) w events lines k (Ask a package_name query) (Text text) s t.happened t.shown in
    let r = text_shown p.old p.new a package_name query text p.step in record { name = r.1; stays = r.0; up = r.2 }

from_it : (count : ℕ) (events : List WorldEvent) (lines : List Line) (w : World) (s : Shows (start count) events lines w) (k : ℕ) (q : Question) (text : List ℕ)
    (t : IsShownAt events lines k (Ask q.node q.package_name q.query) (Text text)) → IsFrom events lines k q text (text_says count events lines w s k q.node q.package_name q.query text t).name
unfolding text_says report_says
from_it count events lines w s k q text t = record {
  release = good;
  whole = f.3.4 ∙ ap (λ (z : List ℕ). file_says f.1 z (query_of q.query)) same;
  before = λ j n lt u. says_on count events lines w j k q.node q.package_name (Report q.node q.package_name) (Ask q.node q.package_name q.query) (Active n) (Text text) lt s u.happened u.shown
      t.happened t.shown
      (report_says count events lines w s j q.node q.package_name n u) r;
  after = λ j n lt u. says_on count events lines w k j q.node q.package_name (Ask q.node q.package_name q.query) (Report q.node q.package_name) (Text text) (Active n) lt s t.happened t.shown
      u.happened u.shown r
      (report_says count events lines w s j q.node q.package_name n u);
}
  where
    p : IsAt (start count) w events lines k (Ask q.node q.package_name q.query) (Text text)
    p = place_of (start count) w events lines k (Ask q.node q.package_name q.query) (Text text) s t.happened t.shown

    r : Says count w events lines k q.node q.package_name (Ask q.node q.package_name q.query) (Text text) p
    r = text_says count events lines w s k q.node q.package_name q.query text t

    f : (p.new ≡ p.old) × (n : Name) × IsUp p.old q.node q.package_name (Some n) × FileSays p.old q.node n q.query (Text text)
    f = text_shown p.old p.new q.node q.package_name q.query text p.step

    good : IsGoodRelease events k q.package_name f.1
    good = let g = f.2.reports.1.0 in says_good count events lines w k q.node q.package_name (Ask q.node q.package_name q.query) (Text text) p r g.0 g.1 g.2

    same : f.3.0 ≡ good.its_file
    same = same_some (file_of (take k events) f.1) f.3.0 good.its_file
        (published_at count (take k events) (take k lines) p.old q.node f.3.1 f.1 f.3.0 p.come f.3.2 f.3.3) good.published

from : (count : ℕ) (events : List WorldEvent) (lines : List Line) (w : World) → Shows (start count) events lines w → (k : ℕ) (q : Question) (text : List ℕ)
    → IsShownAt events lines k (Ask q.node q.package_name q.query) (Text text) → (n : Name) × IsFrom events lines k q text n
from count events lines w s k q text t = ((text_says count events lines w s k q.node q.package_name q.query text t).name, from_it count events lines w s k q text t)

onward : (count : ℕ) (events : List WorldEvent) (lines : List Line) (w : World) → Shows (start count) events lines w → (j k : ℕ) (q : Question) (query text other : List ℕ)
    → j < k → IsShownAt events lines j (Ask q.node q.package_name q.query) (Text text) → IsShownAt events lines k (Ask q.node q.package_name query) (Text other)
    → (n : Name) × (m : Name) × IsFrom events lines j q text n × IsFrom events lines k (record q { query = query }) other m × IsNoOlder n m
onward count events lines w s j k q query text other lt t u =
    let x = text_says count events lines w s j q.node q.package_name q.query text t in
    let y = text_says count events lines w s k q.node q.package_name query other u in (
      x.name,
      y.name,
      from_it count events lines w s j q text t,
      from_it count events lines w s k (record q { query = query }) other u,
      says_on count events lines w j k q.node q.package_name (Ask q.node q.package_name q.query) (Ask q.node q.package_name query) (Text text) (Text other) lt s t.happened t.shown u.happened u.shown x
          y,
    )

-- one node is reported in one way
reports_alike_at : (o : Option Node) (u u' w w' : World) (package_name : List ℕ) (x y : Line) → MatchOption o (IsRefused whys.NoNode u x u') (λ n. IfUp n u x u' (Reported u package_name x u' n))
    → MatchOption o (IsRefused whys.NoNode w y w') (λ n. IfUp n w y w' (Reported w package_name y w' n)) → x ≡ y
reports_alike_at None u u' w w' package_name x y r s = r.0 ∙ sym s.0
reports_alike_at (Some n) u u' w w' package_name x y r s = by n.up r s
  where
    by : (b : Bool) → MatchBool b (Reported u package_name x u' n) (IsRefused whys.Down u x u') → MatchBool b (Reported w package_name y w' n) (IsRefused whys.Down w y w') → x ≡ y
    by true p q = p.3 ∙ ap report_line (reports_one n.history package_name p.1 q.1 p.2 q.2) ∙ sym q.3
    by false p q = p.0 ∙ sym q.0

report_stays : (w v : World) (a : ℕ) (package_name : List ℕ) (x : Line) → Happens w (Report a package_name) x v → node_at v.nodes a ≡ node_at w.nodes a
report_stays w v a package_name x h = quiet_step w (Report a package_name) v a tt (moves w (Report a package_name) x v h)

still_before : (count : ℕ) (events : List WorldEvent) (lines : List Line) (w : World) → Shows (start count) events lines w → (j k a : ℕ) (package_name : List ℕ) (x y : Line) → j < k
    → IsShownAt events lines j (Report a package_name) x → IsShownAt events lines k (Report a package_name) y → IsOneMoment events a j k → x ≡ y
still_before count events lines w s j k a package_name x y lt t u together =
    let p = places_of (start count) w events lines j k (Report a package_name) (Report a package_name) x y lt s t.happened t.shown u.happened u.shown in
    let same : node_at p.three.nodes a ≡ node_at p.one.nodes a = gap_quiet count events lines j k a (Report a package_name) (Report a package_name) x y p together lt
    ∙ report_stays p.one p.two a package_name x p.first in
    reports_alike_at (node_at p.one.nodes a) p.one p.two p.three p.four package_name x y p.first
    (subst (λ (o : Option Node). MatchOption o (IsRefused whys.NoNode p.three y p.four) (λ n. IfUp n p.three y p.four (Reported p.three package_name y p.four n))) same p.second)

still : (count : ℕ) (events : List WorldEvent) (lines : List Line) (w : World) → Shows (start count) events lines w → (j k a : ℕ) (package_name : List ℕ) (x y : Line)
    → IsShownAt events lines j (Report a package_name) x → IsShownAt events lines k (Report a package_name) y → IsOneMoment events a j k → x ≡ y
still count events lines w s j k a package_name x y t u together = by (order j k)
  where
    by : (j < k) ⊎ ((j ≡ k) ⊎ (k < j)) → x ≡ y
    by (inl lt) = still_before count events lines w s j k a package_name x y lt t u together
    by (inr (inl same)) = (let e : slice_get lines k ≡ Some x = ap (slice_get lines) (sym same) ∙ t.shown in let f = u.shown in cc)
    by (inr (inr lt)) = sym (still_before count events lines w s k j a package_name y x lt u t (λ m e low high. together m e (omega (arith, low)) (omega (arith, high))))

pub headline : (count : ℕ) (events : List WorldEvent) (lines : List Line) (w : World) → Shows (start count) events lines w → IsHeadline events lines
headline count events lines w s = record {
  same = same count events lines w s;
  whole = whole count events lines w s;
  later = later count events lines w s;
  named = named count events lines w s;
  still = still count events lines w s;
  from = from count events lines w s;
  onward = onward count events lines w s;
}

-- what a node that is up reports
up_report : (w v : World) (i : ℕ) (package_name : List ℕ) (x : Node) (line : Line) → IsUpAt w i x → Happens w (Report i package_name) line v → (o : Option Name) × Reports x.history package_name o
    × (line ≡ report_line o)
up_report w v i package_name x line u h =
    let r = subst (λ (b : Bool). MatchBool b (Reported w package_name line v x) (IsRefused whys.Down w line v)) u.running
    (MatchOption-at_some (IsRefused whys.NoNode w line v) (λ y. IfUp y w line v (Reported w package_name line v y)) x u.there h) in (r.1, r.2, r.3)

pub alike : (w u v : World) (i j : ℕ) (package_name : List ℕ) (x y : Node) (l m : Line) → IsUpAt w i x → IsUpAt w j y → HasAlike x.history y.history package_name
    → Happens w (Report i package_name) l u
    → Happens w (Report j package_name) m v → l ≡ m
alike w u v i j package_name x y l m a b s g h =
    let p = up_report w u i package_name x l a g in
    let q = up_report w v j package_name y m b h in
    p.2 ∙ ap report_line (reports_alike x.history y.history package_name p.0 q.0 s p.1 q.1) ∙ sym q.2

pub latest : (count : ℕ) (events : List WorldEvent) (lines : List Line) (w v : World) (i : ℕ) (x : Node) (n : Name) (line : Line) → Shows (start count) events lines w → IsUpAt w i x
    → IsWhole x.history n → IsLatest events n → Happens w (Report i n.package_name) line v → line ≡ Active n
latest count events lines w v i x n line s u whole late h =
    let r = up_report w v i n.package_name x line u h in
    let over = (shows_sound (start count) w events lines (sound_start count) s).over i x u.there in
    let files = λ (m : Name). shows_files (start count) w events lines m s in
    let is = latest_active w.shelf x.history n late.file over whole (files n ∙ late.published) late.good (λ m f e at good. late.latest m f e (sym (files m) ∙ at) good) in
    r.2 ∙ ap report_line (reports_one x.history n.package_name r.0 (Some n) r.1 (refl, is))

-- each node's history is legal, and has of each release what is published
pub kept_published : (count : ℕ) (events : List WorldEvent) (lines : List Line) (w : World) (i : ℕ) (x : Node) (n : Name) (file : List ℕ) → Shows (start count) events lines w
    → node_at w.nodes i ≡ Some x → IsLegal x.history × (IsFile x.history n file → file_of events n ≡ Some file)
kept_published count events lines w i x n file s at = ((shows_sound (start count) w events lines (sound_start count) s).legal i x at, published_at count events lines w i x n file s at)
