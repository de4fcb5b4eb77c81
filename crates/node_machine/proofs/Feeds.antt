-- The history of a node's feed: what it knows of a release stays, and agrees with the published file.
use Rattle.std.proofs.Common.{◌≡◌, ◌<◌, ◌+◌, ℕ, zero, suc, Bool, true, false, ◌≤ℤ◌, List, [], ◌∷◌, ◌++◌, length}
use Rattle.std.proofs.Common.{Option, Some, None, Result, Ok, Err, slice_get, refl, sym, ◌∙◌, ap, subst, arith}
use Rattle.std.specs.Prelude.{slice_range, IsSomeAnd}
use Rattle.std.specs.List.{AllByRecursion}
use Rattle.std.proofs.lemmas.List.Elements.{recursion_from_All}
use Rattle.feed_names.specs.ReleaseName.{Name, name_eq}
use Rattle.feed_model.specs.History.{Event, Offered, Piece, Lost, History, Answer, is_noted, is_taken, or_else, byte_at, size_of, kept, IsFile, IsGood, Reports}
use Rattle.feed_model.specs.Reply.{IsRightWith, IsLegalWith}
use Rattle.feed_model.proofs.Names.{name_is}
use Rattle.feed_model.proofs.Limits.{noted_by, unsized}
use Rattle.feed_http.specs.declared.fetching.got.Got.{Got}
use Rattle.feed_http.specs.declared.fetching.got.Got.TheVariants as got
use Rattle.feed_fetch.specs.declared.machine.Phase.{Phase}
use Rattle.feed_fetch.specs.declared.machine.Phase.TheVariants as phases
use Rattle.feed_fetch.specs.declared.stop.RequestFault.{RequestFault}
use Rattle.feed_fetch.specs.Steps.{IsResponseEvent}
use Rattle.feed_fetch.proofs.Owed.{steps_given}
use Rattle.feed_fetch.proofs.Filling.{slice_at}
use Rattle.feed_http.specs.Got.{IsResultOf}
use Rattle.feed_http.specs.ResponseLaws.{HasPart}
use Rattle.feed_http.proofs.ResponseLaw.{part_of_file}
use Rattle.feed_fetch.specs.declared.machine.FetchRequest.{FetchRequest}
use Rattle.node_machine.specs.Exchanges.{ExchangeEvent, HasResponse, HasArrivedPart, Reads, method_of, received_of, request_of}
use Rattle.node_machine.specs.NodeEvents.{NodeEvent, Accepted, Served, Passed, DayBegan, Asked, Began, Finished, Took, TookPart, Exchanged, AskedSites, SitesBegan, SitesKept, Reopened}
use Rattle.node_machine.specs.NodeEvents.{feed_history, exchange_in}
use Rattle.node_machine.specs.Rules.{AreGiven}
use Rattle.node_machine.specs.Promise.{AgreeWith, IsOfFile, IsServedFrom, AreOfFiles, FilesArePublished, NeverOlder}

-- ---- what is known of a release stays

record Keeps (h k : History) : Type 0 where
  size : (n : Name) (s : ℕ) → size_of h n ≡ Some s → size_of k n ≡ Some s
  bytes : (n : Name) (place b : ℕ) → kept h n place ≡ Some b → kept k n place ≡ Some b

keeps_all : (h : History) → Keeps h h
keeps_all h = record { size = λ n s e. e; bytes = λ n place b e. e }

keeps_on : (h k l : History) → Keeps h k → Keeps k l → Keeps h l
keeps_on h k l x y = record { size = λ n s e. y.size n s (x.size n s e); bytes = λ n place b e. y.bytes n place b (x.bytes n place b e) }

-- a release that has a size is not recorded again
keeps_more : (most : ℕ) (h : History) (e : Event) (a : Answer) → IsRightWith most h e a → Keeps h ((e, a) ∷ h)
keeps_more most h (Offered m s) a right = record { size = λ n q. by n q (is_noted a) (name_eq m n) refl refl; bytes = λ n place b e. e }
  where
    by : (n : Name) (q : ℕ) (x y : Bool) → is_noted a ≡ x → name_eq m n ≡ y → size_of h n ≡ Some q → size_of ((Offered m s, a) ∷ h) n ≡ Some q
    by n q true true u v e =
        let none : size_of h n ≡ None = subst (λ (z : Name). size_of h z ≡ None) (name_is m n v) (unsized h m s (noted_by most h m s a u right)) in
        absurd (let w : None ≡ Some q = sym none ∙ e in cc)
    by n q true false u v e = rw (u, v) e
    by n q false y u v e = rw u e
keeps_more most h (Piece m f total bs) a right = record { size = λ n s e. e; bytes = λ n place b. by n place b (is_taken a) (name_eq m n) refl refl }
  where
    by : (n : Name) (place b : ℕ) (x y : Bool) → is_taken a ≡ x → name_eq m n ≡ y → kept h n place ≡ Some b → kept ((Piece m f total bs, a) ∷ h) n place ≡ Some b
    by n place b true true u v e = rw (u, v, e) refl
    by n place b true false u v e = rw (u, v) e
    by n place b false y u v e = rw u e
keeps_more most h (Lost m) a right = record { size = λ n s e. e; bytes = λ n place b e. e }

legal_before : (most : ℕ) (steps h : History) → IsLegalWith most (steps ++ h) → IsLegalWith most h
legal_before most [] h legal = legal
legal_before most ((event, answer) ∷ steps) h legal = legal_before most steps h legal.1

keeps_steps : (most : ℕ) (steps h : History) → IsLegalWith most (steps ++ h) → Keeps h (steps ++ h)
keeps_steps most [] h legal = keeps_all h
keeps_steps most ((event, answer) ∷ steps) h legal =
    keeps_on h (steps ++ h) (((event, answer) ∷ steps) ++ h) (keeps_steps most steps h legal.1) (keeps_more most (steps ++ h) event answer legal.0)

keeps_moment : {V : Type 0} (most : ℕ) (later moment : List (NodeEvent V)) → IsLegalWith most (feed_history (later ++ moment)) → Keeps (feed_history moment) (feed_history (later ++ moment))
keeps_moment most [] moment legal = keeps_all (feed_history moment)
keeps_moment most (Accepted key ∷ later) moment legal = keeps_moment most later moment legal
keeps_moment most (Served key share ∷ later) moment legal = keeps_moment most later moment legal
keeps_moment most (Passed millis ∷ later) moment legal = keeps_moment most later moment legal
keeps_moment most (DayBegan today ∷ later) moment legal = keeps_moment most later moment legal
keeps_moment most (Asked key bytes asked ∷ later) moment legal = keeps_moment most later moment legal
keeps_moment most (Began asked ∷ later) moment legal = keeps_moment most later moment legal
keeps_moment most (Finished ∷ later) moment legal = keeps_moment most later moment legal
keeps_moment most (Took name phase reply steps ∷ later) moment legal =
    let h = feed_history (later ++ moment) in
    keeps_on (feed_history moment) h (steps ++ h) (keeps_moment most later moment (legal_before most steps h legal)) (keeps_steps most steps h legal)
keeps_moment most (TookPart name first size bytes answer ∷ later) moment legal =
    let h = feed_history (later ++ moment) in
    keeps_on (feed_history moment) h ((Piece name first (Some size) bytes, answer) ∷ h) (keeps_moment most later moment legal.1)
    (keeps_more most h (Piece name first (Some size) bytes) answer legal.0)
keeps_moment most (Exchanged event ∷ later) moment legal = keeps_moment most later moment legal
keeps_moment most (AskedSites other bytes asked ∷ later) moment legal = keeps_moment most later moment legal
keeps_moment most (SitesBegan begun ∷ later) moment legal = keeps_moment most later moment legal
keeps_moment most (SitesKept ∷ later) moment legal = keeps_moment most later moment legal
keeps_moment most (Reopened ∷ later) moment legal = keeps_moment most later moment legal

get_some : (xs : List ℕ) (i : ℕ) → i < length xs → (x : ℕ) × (slice_get xs i ≡ Some x)
get_some [] i lt = absurd (omega arith)
get_some (y ∷ ys) zero lt = (y, refl)
get_some (y ∷ ys) (suc i) lt = get_some ys i (omega arith)

file_kept : (h k : History) (n : Name) (text : List ℕ) → Keeps h k → IsFile h n text → IsFile k n text
file_kept h k n text s f = (s.size n (length text) f.0, λ place lt. (let g = get_some text place lt in s.bytes n place g.0 (f.1 place lt ∙ g.1) ∙ sym g.1))

good_kept : (h k : History) (n : Name) → Keeps h k → IsGood h n → IsGood k n
good_kept h k n s g = (g.0, file_kept h k n g.0 s g.1, g.2)

later_report : (h k : History) (package_name : List ℕ) (n : Name) (report : Option Name) → Keeps h k → Reports h package_name (Some n) → Reports k package_name report
    → (m : Name) × (report ≡ Some m) × (m.package_name ≡ package_name) × (n.day ≤ℤ m.day)
later_report h k package_name n None s x y = absurd (y n x.0 (good_kept h k n s x.1.0))
later_report h k package_name n (Some m) s x y = (m, refl, y.0, y.1.1 n (x.0 ∙ sym y.0) (good_kept h k n s x.1.0))

-- no report names an older release than one before
pub never_older : {V : Type 0} (most : ℕ) (history : List (NodeEvent V)) → IsLegalWith most (feed_history history) → NeverOlder history
never_older {V} most history legal moment package_name n report (later, is) before now =
    let kept_so : Keeps (feed_history moment) (feed_history history) = subst (λ (all : List (NodeEvent V)). Keeps (feed_history moment) (feed_history all)) is
    (keeps_moment most later moment (subst (λ (all : List (NodeEvent V)). IsLegalWith most (feed_history all)) (sym is) legal)) in
    later_report (feed_history moment) (feed_history history) package_name n report kept_so before now

-- ---- what is known of a release agrees with the published file

record IsOver (file : Name → List ℕ) (h : History) : Type 0 where
  size : (n : Name) (s : ℕ) → size_of h n ≡ Some s → s ≡ length (file n)
  bytes : (n : Name) (place b : ℕ) → kept h n place ≡ Some b → slice_get (file n) place ≡ Some b

abbrev IsTrueOf : (Name → List ℕ) → Event → Type 0
IsTrueOf file (Offered n s) = s ≡ length (file n)
IsTrueOf file (Piece n first total bytes) = AgreeWith (file n) first bytes
IsTrueOf file (Lost n) = Unit {0}

over_more : (file : Name → List ℕ) (h : History) (e : Event) (a : Answer) → IsOver file h → IsTrueOf file e → IsOver file ((e, a) ∷ h)
over_more file h (Offered m s) a o t = record { size = λ n q. by n q (is_noted a) (name_eq m n) refl refl; bytes = o.bytes }
  where
    by : (n : Name) (q : ℕ) (x y : Bool) → is_noted a ≡ x → name_eq m n ≡ y → size_of ((Offered m s, a) ∷ h) n ≡ Some q → q ≡ length (file n)
    by n q true true u v e = let w : Some s ≡ Some q = rw (u, v) at e in let same : s ≡ q = cc in sym same ∙ t ∙ ap (λ (z : Name). length (file z)) (name_is m n v)
    by n q true false u v e = o.size n q (rw (u, v) at e)
    by n q false y u v e = o.size n q (rw u at e)
over_more file h (Piece m f total bs) a o t = record { size = o.size; bytes = λ n place b. by n place b (is_taken a) (name_eq m n) refl refl }
  where
    first : (n : Name) (place b : ℕ) → m ≡ n → (x : Option ℕ) → kept h n place ≡ x → or_else x (byte_at f bs place) ≡ Some b → slice_get (file n) place ≡ Some b
    first n place b same None at e = subst (λ (z : Name). slice_get (file z) place ≡ Some b) same (t place b e)
    first n place b same (Some x) at e = o.bytes n place b (at ∙ e)

    by : (n : Name) (place b : ℕ) (x y : Bool) → is_taken a ≡ x → name_eq m n ≡ y → kept ((Piece m f total bs, a) ∷ h) n place ≡ Some b → slice_get (file n) place ≡ Some b
    by n place b true true u v e = first n place b (name_is m n v) (kept h n place) refl (rw (u, v) at e)
    by n place b true false u v e = o.bytes n place b (rw (u, v) at e)
    by n place b false y u v e = o.bytes n place b (rw u at e)
over_more file h (Lost m) a o t = record { size = o.size; bytes = o.bytes }

over_steps : (file : Name → List ℕ) (steps h : History) → AllByRecursion (λ (step : Event × Answer). IsTrueOf file step.0) steps → IsOver file h → IsOver file (steps ++ h)
over_steps file [] h all o = o
over_steps file ((event, answer) ∷ steps) h all o = over_more file (steps ++ h) event answer (over_steps file steps h all.1 o) all.0

-- a slice has the bytes of its file
slice_agrees : (file : List ℕ) (first end : ℕ) → AgreeWith file first (slice_range file first end)
slice_agrees file first end = slice_at file first end

at_name : (file : Name → List ℕ) (m n : Name) (first : ℕ) (bytes : List ℕ) → m ≡ n → AgreeWith (file n) first bytes → AgreeWith (file m) first bytes
at_name file m n first bytes same agree = subst (λ (z : Name). AgreeWith (file z) first bytes) (sym same) agree

abbrev IsOfResponse : List ℕ → Result Got RequestFault → Type 0
IsOfResponse file (Ok given) = IsOfFile file given
IsOfResponse file (Err why) = Unit {0}

-- a response to a server of the file, by the bytes received, is of the file
of_response : (file : List ℕ) (events : List ExchangeEvent) (reply : Result Got RequestFault) → IsServedFrom file events → HasResponse events reply → IsOfResponse file reply
of_response file events (Ok given) served has = served.complete given has
of_response file events (Err why) served has = tt

-- and a part that has arrived
of_part : (file : List ℕ) (events : List ExchangeEvent) (size first : ℕ) (bytes : List ℕ) → IsServedFrom file events → HasArrivedPart events size first bytes → AgreeWith file first bytes
of_part file events size first bytes served part = by (request_of events) part more.1
  where
    more : (more : List ℕ) × Reads events more (Ok (got.Whole file))
    more = served.arriving size first bytes part

    by : (asked : Option FetchRequest) → IsSomeAnd asked (λ r. HasPart (method_of r) (received_of events) size first bytes)
        → IsSomeAnd asked (λ r. IsResultOf (method_of r) (received_of events ++ more.0) (Ok (got.Whole file))) → AgreeWith file first bytes
    by None has reads = absurd has
    by (Some request) has reads =
        let is = (part_of_file (method_of request) (received_of events) size first bytes more.0 file has reads).1 in
        subst (AgreeWith file first) (sym is) (slice_agrees file first (first + length bytes))

-- the event of a response that agrees with the file agrees with it
true_step : (file : Name → List ℕ) (n : Name) (phase : Phase) (reply : Result Got RequestFault) (event : Event) → IsOfResponse (file n) reply → IsResponseEvent n phase reply event
    → IsTrueOf file event
true_step file n phases.New (Ok given) (Offered m size) of is =
    let stated : size ≡ length (file n) = subst (λ (g : Got). IsOfFile (file n) g) is.1 of in stated ∙ ap (λ (z : Name). length (file z)) (sym is.0)
true_step file n phases.New (Ok given) (Piece m first total bytes) of is = absurd is
true_step file n phases.New (Ok given) (Lost m) of is = absurd is
true_step file n phases.Offered (Ok given) (Offered m size) of is = absurd is
true_step file n phases.Offered (Ok (got.Piece place total all)) (Piece m first size bytes) of is =
    at_name file m n first bytes is.0 (subst (λ (p : ℕ). AgreeWith (file n) p bytes) (sym is.1.0) (subst (λ (b : List ℕ). AgreeWith (file n) place b) (sym is.1.2) of))
true_step file n phases.Offered (Ok (got.Whole all)) (Piece m first size bytes) of is =
    at_name file m n first bytes is.0
    (subst (λ (b : List ℕ). AgreeWith (file n) first b) (sym (is.1.2 ∙ ap (λ (whole : List ℕ). slice_range whole first (first + length bytes)) of))
    (slice_agrees (file n) first (first + length bytes)))
true_step file n phases.Offered (Ok (got.Size size)) (Piece m first total bytes) of is = absurd is.1
true_step file n phases.Offered (Ok got.Missing) (Piece m first total bytes) of is = absurd is.1
true_step file n phases.Offered (Ok (got.Unsatisfied size)) (Piece m first total bytes) of is = absurd is.1
true_step file n phases.Offered (Ok given) (Lost m) of is = absurd is
true_step file n phases.Stopped (Ok given) event of is = absurd is
true_step file n phases.New (Err why) (Offered m size) of is = absurd is
true_step file n phases.New (Err why) (Piece m first total bytes) of is = absurd is
true_step file n phases.New (Err why) (Lost m) of is = tt
true_step file n phases.Offered (Err why) (Offered m size) of is = absurd is
true_step file n phases.Offered (Err why) (Piece m first total bytes) of is = absurd is
true_step file n phases.Offered (Err why) (Lost m) of is = tt
true_step file n phases.Stopped (Err why) (Offered m size) of is = absurd is
true_step file n phases.Stopped (Err why) (Piece m first total bytes) of is = absurd is
true_step file n phases.Stopped (Err why) (Lost m) of is = tt

true_steps : (file : Name → List ℕ) (n : Name) (phase : Phase) (reply : Result Got RequestFault) (steps : History) → IsOfResponse (file n) reply
    → AllByRecursion (λ (step : Event × Answer). IsResponseEvent n phase reply step.0) steps → AllByRecursion (λ (step : Event × Answer). IsTrueOf file step.0) steps
true_steps file n phase reply [] of all = tt
true_steps file n phase reply (step ∷ steps) of all = (true_step file n phase reply step.0 of all.0, true_steps file n phase reply steps of all.1)

over_history : {V : Type 0} (file : Name → List ℕ) (history : List (NodeEvent V)) → AreGiven history → AreOfFiles file history → IsOver file (feed_history history)
over_history file [] given of = record { size = λ n s e. absurd (cc); bytes = λ n place b e. absurd (cc) }
over_history file (Accepted key ∷ earlier) given of = over_history file earlier given of
over_history file (Served key share ∷ earlier) given of = over_history file earlier given of
over_history file (Passed millis ∷ earlier) given of = over_history file earlier given of
over_history file (DayBegan today ∷ earlier) given of = over_history file earlier given of
over_history file (Asked key bytes asked ∷ earlier) given of = over_history file earlier given of
over_history file (Began asked ∷ earlier) given of = over_history file earlier given of
over_history file (Finished ∷ earlier) given of = over_history file earlier given of
over_history file (Took name phase reply steps ∷ earlier) given of =
    over_steps file steps (feed_history earlier)
    (true_steps file name phase reply steps (of_response (file name) (exchange_in earlier) reply of.0 given.2)
    (recursion_from_All _ steps (steps_given name phase reply steps given.0.0))) (over_history file earlier given.3 of.1)
over_history file (TookPart name first size bytes answer ∷ earlier) given of =
    over_more file (feed_history earlier) (Piece name first (Some size) bytes) answer (over_history file earlier given.2 of.1)
    (of_part (file name) (exchange_in earlier) size first bytes of.0 given.1)
over_history file (Exchanged event ∷ earlier) given of = over_history file earlier given.1 of
over_history file (AskedSites other bytes asked ∷ earlier) given of = over_history file earlier given of
over_history file (SitesBegan begun ∷ earlier) given of = over_history file earlier given of
over_history file (SitesKept ∷ earlier) given of = over_history file earlier given of
over_history file (Reopened ∷ earlier) given of = over_history file earlier given of

same_list : (xs ys : List ℕ) → length xs ≡ length ys → ((i : ℕ) → i < length xs → slice_get xs i ≡ slice_get ys i) → xs ≡ ys
same_list [] [] e f = refl
same_list [] (y ∷ ys) e f = absurd (omega (arith, e))
same_list (x ∷ xs) [] e f = absurd (omega (arith, e))
same_list (x ∷ xs) (y ∷ ys) e f =
    let head : Some x ≡ Some y = f 0 (omega arith) in
    let tail : xs ≡ ys = same_list xs ys (omega (arith, e)) (λ i lt. f (suc i) (omega (arith, lt))) in
    cc

-- each complete file is the published one
pub files_published : {V : Type 0} → FilesArePublished V
files_published file history n text given of is =
    let over = over_history file history given of in
    let size : length text ≡ length (file n) = over.size n (length text) is.0 in
    same_list text (file n) size (λ i lt. (let byte = get_some text i lt in byte.1 ∙ sym (over.bytes n i byte.0 (is.1 i lt ∙ byte.1))))
