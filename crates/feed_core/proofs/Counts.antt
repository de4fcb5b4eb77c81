-- The reports of lines on the keepers of nodes, over a step and over a run.
use Rattle.std.proofs.Common.{◌≡◌, ◌≢◌, ◌<◌, ◌≤◌, ◌+◌, ◌++◌, ℕ, zero, suc, Bool, true, false, List, [], ◌∷◌, length}
use Rattle.std.proofs.Common.{map, take, get_or, slice_set, Option, Some, None, Result, Ok, Err, ◌⊎◌, inl, inr, refl, sym, ◌∙◌, ap, subst}
use Rattle.std.proofs.Common.{length-take, arith}
use Rattle.std.specs.Prelude.{if◌then◌else◌}
use Rattle.std.proofs.lemmas.Bool.{cases_lt}
use Rattle.std.proofs.lemmas.Bool.Decides.{eqb_tells}
use Rattle.std.proofs.lemmas.List.{take_more, length-map}
use Rattle.feed_model.specs.declared.keep_fault.KeepFault.{KeepFault}
use Rattle.feed_model.specs.declared.keep_fault.KeepFault.TheVariants as causes
use Rattle.feed_model.specs.declared.reply.Reply.{Reply}
use Rattle.feed_model.specs.declared.reply.Refusal.{Refusal}
use Rattle.feed_model.specs.declared.reply.Refusal.TheVariants as refusals
use Rattle.feed_model.specs.History.{Answer, History}
use Rattle.feed_world.specs.declared.line.Why.{Why}
use Rattle.feed_world.specs.declared.line.Why.TheVariants.{Feed, NoNode, Down}
use Rattle.feed_world.specs.World.{WorldEvent, Sent, Line, IsDown, Refused, Replied, Restarted, Stopped}
use Rattle.feed_releases.specs.declared.feed.Point.{Point}
use Rattle.feed_releases.specs.declared.feed.Point.TheVariants.{Before, After}
use Rattle.feed_keep.specs.Cause.{HasFailedSince, HasCounted, IsCounted}
use Rattle.feed_keep.specs.Loads.{loads_after, one_more}
use Rattle.feed_keep.proofs.Failed.{failed_since, failed_before, failed_later}
use Rattle.feed_core.specs.Counts.{AtSomeLine, EachNode, HasConcealed, HasDeviceFailure, IsAccount, IsAccountOf, IsDeviceFailure, IsReported, MayConceal, is_at, loads_in, loads_shown}
use Rattle.feed_core.specs.Chosen.{node_of}
use Rattle.feed_core.specs.Step.{IsAway, stop_event}
use Rattle.feed_core.proofs.WorldSteps.{AreOf}
use Rattle.feed_core.proofs.Shows.{map-push}

-- no node changes
pub each_same : {M : Type 0} (Holds : ℕ → M → M → Type 0) (node : ℕ) (xs : List M) → ((i : ℕ) (x : M) → node ≤ i → Holds i x x) → EachNode Holds node xs xs
each_same Holds node [] all = tt
each_same Holds node (x ∷ xs) all = (all node x (omega arith), each_same Holds (suc node) xs (λ i y le. all i y (omega (arith, le))))

-- one node changes
pub each_set : {M : Type 0} (Holds : ℕ → M → M → Type 0) (node : ℕ) (xs : List M) (at : ℕ) (x z : M) → at < length xs → x ≡ get_or xs at x → Holds (node + at) x z
    → ((i : ℕ) (y : M) → i ≢ node + at → Holds i y y) → EachNode Holds node xs (slice_set xs at z)
each_set Holds node [] at x z lt is here rest = absurd (omega arith)
each_set {M} Holds node (y ∷ ys) zero x z lt is here rest = (
  subst (λ (v : M). Holds node v z) is (subst (λ (i : ℕ). Holds i x z) (omega arith) here),
  each_same Holds (suc node) ys (λ i v le. rest i v (λ e. omega (arith, e, le))),
)
each_set Holds node (y ∷ ys) (suc at) x z lt is here rest = (
  rest node y (λ e. omega (arith, e)),
  each_set Holds (suc node) ys at x z (omega arith) is (subst (λ (i : ℕ). Holds i x z) (omega arith) here) (λ i v other. rest i v (λ e. other (omega (arith, e)))),
)

-- one run after another
pub each_then : {X Y Z : Type 0} (P : ℕ → X → Y → Type 0) (Q : ℕ → Y → Z → Type 0) (R : ℕ → X → Z → Type 0) (node : ℕ) (xs : List X) (ys : List Y) (zs : List Z)
    → ((i : ℕ) (x : X) (y : Y) (z : Z) → P i x y → Q i y z → R i x z) → EachNode P node xs ys → EachNode Q node ys zs → EachNode R node xs zs
each_then P Q R node [] [] [] both a b = tt
each_then P Q R node [] [] (z ∷ zs) both a b = absurd b
each_then P Q R node [] (y ∷ ys) zs both a b = absurd a
each_then P Q R node (x ∷ xs) [] zs both a b = absurd a
each_then P Q R node (x ∷ xs) (y ∷ ys) [] both a b = absurd b
each_then P Q R node (x ∷ xs) (y ∷ ys) (z ∷ zs) both a b = (both node x y z a.0 b.0, each_then P Q R (suc node) xs ys zs both a.1 b.1)

-- a weaker statement
pub each_as : {X Y : Type 0} (P Q : ℕ → X → Y → Type 0) (node : ℕ) (xs : List X) (ys : List Y) → ((i : ℕ) (x : X) (y : Y) → P i x y → Q i x y) → EachNode P node xs ys
    → EachNode Q node xs ys
each_as P Q node [] [] less a = tt
each_as P Q node [] (y ∷ ys) less a = absurd a
each_as P Q node (x ∷ xs) [] less a = absurd a
each_as P Q node (x ∷ xs) (y ∷ ys) less a = (less node x y a.0, each_as P Q (suc node) xs ys less a.1)

-- lists whose elements are related
pub each_of : {X Y : Type 0} (law : X → Y → Type 0) (node : ℕ) (xs : List X) (ys : List Y) → AreOf law xs ys → EachNode (λ _ x y. law x y) node xs ys
each_of law node [] [] a = tt
each_of law node [] (y ∷ ys) a = absurd a
each_of law node (x ∷ xs) [] a = absurd a
each_of law node (x ∷ xs) (y ∷ ys) a = (a.0, each_of law (suc node) xs ys a.1)

-- the same count for equivalent reports
pub reported_as : {P Q R S : Type 0} {a b : ℕ} → IsReported P R a b → (Q → P) → (P → Q) → (R → S) → IsReported Q S a b
reported_as {P} {Q} {R} {S} so less more hides = record { rises = so.rises; failed = λ q. so.failed (less q); shown = λ lt. pick (so.shown lt) }
  where
    pick : P ⊎ R → Q ⊎ S
    pick (inl p) = inl (more p)
    pick (inr r) = inr (hides r)

-- no failure
pub reported_same : {P R : Type 0} (a : ℕ) → ¬ P → IsReported P R a a
reported_same a not = record { rises = omega arith; failed = λ p. absurd (not p); shown = λ lt. absurd (omega (arith, lt)) }

-- one run after another
pub reported_then : {P Q R S : Type 0} (a b c : ℕ) → IsReported P R a b → IsReported Q S b c → IsReported (P ⊎ Q) (R ⊎ S) a c
reported_then {P} {Q} {R} {S} a b c one other = record { rises = omega (arith, one.rises, other.rises); failed = λ t. failed t; shown = λ lt. shown lt (cases_lt a b) }
  where
    failed : P ⊎ Q → HasFailedSince a c
    failed (inl p) = failed_later a b c (one.failed p) other.rises
    failed (inr q) = failed_before a b c one.rises (other.failed q)

    first : P ⊎ R → (P ⊎ Q) ⊎ (R ⊎ S)
    first (inl p) = inl (inl p)
    first (inr r) = inr (inl r)

    second : Q ⊎ S → (P ⊎ Q) ⊎ (R ⊎ S)
    second (inl q) = inl (inr q)
    second (inr s) = inr (inr s)

    shown : a < c → (a < b) ⊎ (b ≤ a) → (P ⊎ Q) ⊎ (R ⊎ S)
    shown lt (inl rose) = first (one.shown rose)
    shown lt (inr le) = second (other.shown (omega (arith, lt, le)))

-- nothing is concealed if the keeper was opened, and if it answered an event
pub opening_reported : (r : Result (Unit {0}) KeepFault) (a b : ℕ) → IsCounted (r ≡ Err causes.Device) a b → IsReported (r ≡ Err causes.Device) ⊥ a b
opening_reported (Ok done) a b so = let same = so.stays (λ e. cc) in record { rises = so.rises; failed = λ p. failed_since a b (so.failed p); shown = λ lt. absurd (omega (arith, lt, same)) }
opening_reported (Err causes.Device) a b so = record { rises = so.rises; failed = λ p. failed_since a b (so.failed p); shown = λ lt. inl refl }
opening_reported (Err cause) a b so = let same = so.stays (λ e. cc) in record { rises = so.rises; failed = λ p. failed_since a b (so.failed p); shown = λ lt. absurd (omega (arith, lt, same)) }

pub answer_reported : (answer : Answer) (a b : ℕ) → IsCounted (answer ≡ Err refusals.Device) a b → IsReported (answer ≡ Err refusals.Device) ⊥ a b
answer_reported (Ok reply) a b so = let same = so.stays (λ e. cc) in record { rises = so.rises; failed = λ p. failed_since a b (so.failed p); shown = λ lt. absurd (omega (arith, lt, same)) }
answer_reported (Err refusals.Device) a b so = record { rises = so.rises; failed = λ p. failed_since a b (so.failed p); shown = λ lt. inl refl }
answer_reported (Err refusal) a b so = let same = so.stays (λ e. cc) in record { rises = so.rises; failed = λ p. failed_since a b (so.failed p); shown = λ lt. absurd (omega (arith, lt, same)) }

-- a stop may conceal a failure
pub stop_reported : {P : Type 0} (a b : ℕ) → HasCounted P a b → IsReported P (Unit {0}) a b
stop_reported a b so = record { rises = so.0; failed = λ p. failed_since a b (so.1 p); shown = λ lt. inr tt }

-- the lines that report a failure
pub replied_not : (reply : Reply) → ¬ (IsDeviceFailure (Replied reply))
replied_not reply (inl e) = absurd (cc)
replied_not reply (inr e) = absurd (cc)

pub restarted_not : ¬ (IsDeviceFailure Restarted)
restarted_not (inl e) = absurd (cc)
restarted_not (inr e) = absurd (cc)

pub stopped_not : ¬ (IsDeviceFailure Stopped)
stopped_not (inl e) = absurd (cc)
stopped_not (inr e) = absurd (cc)

tells_down : (cause : KeepFault) → IsDeviceFailure (IsDown cause) → cause ≡ causes.Device
tells_down cause (inl e) = cc
tells_down cause (inr e) = absurd (cc)

tells_refused : (why : Why) → IsDeviceFailure (Refused why) → why ≡ Feed refusals.Device
tells_refused why (inl e) = absurd (cc)
tells_refused why (inr e) = cc

pub no_node_not : ¬ (IsDeviceFailure (Refused NoNode))
no_node_not t = let e = tells_refused NoNode t in absurd (cc)

down_not : ¬ (IsDeviceFailure (Refused Down))
down_not t = let e = tells_refused Down t in absurd (cc)

-- the reason why nothing happens at a node is not a device failure, unless that is what arrived
pub away_not : {M T : Type 0} (has_state : M → Bool → History → Type 0) (xs : List M) (node : ℕ) (arrived : Result T Why) (reason : Why) → (arrived ≡ Err (Feed refusals.Device) → ⊥)
    → IsAway has_state xs node arrived reason → ¬ (IsDeviceFailure (Refused reason))
away_not has_state xs node arrived reason sent (inl none) failure = no_node_not (subst (λ (r : Why). IsDeviceFailure (Refused r)) none.0 failure)
away_not has_state xs node arrived reason sent (inr (inl away)) failure = sent (away.refused ∙ ap Err (tells_refused reason failure))
away_not has_state xs node arrived reason sent (inr (inr down)) failure = down_not (subst (λ (r : Why). IsDeviceFailure (Refused r)) down.0 failure)

-- the line of an opening, and of an answer
pub opened_shown : {R S : Type 0} {a b : ℕ} (done : Line) (u : Unit {0}) → ¬ (IsDeviceFailure done) → (R → S)
    → (let r : Result (Unit {0}) KeepFault = Ok u in IsReported (r ≡ Err causes.Device) R a b) → IsReported (IsDeviceFailure done) S a b
opened_shown done u not hides so = reported_as so (λ t. absurd (not t)) (λ e. absurd (let e = e in cc)) hides

pub down_shown : {R S : Type 0} {a b : ℕ} (cause : KeepFault) → (R → S) → (let r : Result (Unit {0}) KeepFault = Err cause in IsReported (r ≡ Err causes.Device) R a b)
    → IsReported (IsDeviceFailure (IsDown cause)) S a b
down_shown cause hides so = reported_as so (λ t. ap Err (tells_down cause t)) (λ e. inl (let e = e in cc)) hides

pub reply_shown : {a b : ℕ} (reply : Reply) → (let answer : Answer = Ok reply in IsReported (answer ≡ Err refusals.Device) ⊥ a b) → IsReported (IsDeviceFailure (Replied reply)) ⊥ a b
reply_shown reply so = reported_as so (λ t. absurd (replied_not reply t)) (λ e. absurd (let e = e in cc)) (λ t. t)

pub refusal_shown : {a b : ℕ} (refusal : Refusal) → (let answer : Answer = Err refusal in IsReported (answer ≡ Err refusals.Device) ⊥ a b)
    → IsReported (IsDeviceFailure (Refused (Feed refusal))) ⊥ a b
refusal_shown refusal so = reported_as so (λ t. (let e = tells_refused (Feed refusal) t in ap Err (cc))) (λ e. inr (let e = e in cc)) (λ t. t)

-- only a stop after the commit of an event conceals a failure
pub stop_conceals : (point : Point) (node : ℕ) (sent : Sent) (line : Line) → loads_in line ≡ 1 → point ≡ After → MayConceal (stop_event point node sent) line
stop_conceals Before node sent line one is = absurd (let is = is in cc)
stop_conceals After node sent line one is = one

pub stop_at_node : (point : Point) (node : ℕ) (sent : Sent) → node_of (stop_event point node sent) ≡ Some node
stop_at_node Before node sent = refl
stop_at_node After node sent = refl

same_number : (o : Option ℕ) (i j : ℕ) → o ≡ Some i → o ≡ Some j → i ≡ j
same_number o i j one other = cc

-- nothing changes
pub account_stay : {M : Type 0} (failed loads : M → ℕ) (event : WorldEvent) (line : Line) (xs : List M) → ¬ (IsDeviceFailure line) → loads_in line ≡ 0
    → IsAccountOf failed loads event line xs xs
account_stay failed loads event line xs not none = each_same _ 1 xs (λ i x le. (
  (λ here. record { failures = reported_same (failed x) not; loaded = ap (λ n. loads_after n (loads x)) (sym none) }),
  (λ other. refl),
))

-- one node changes
pub account_set : {M : Type 0} (failed loads : M → ℕ) (event : WorldEvent) (line : Line) (xs ys : List M) (at node : ℕ) (x z : M) → at < length xs → x ≡ get_or xs at x
    → ys ≡ slice_set xs at z → node ≡ at + 1 → node_of event ≡ Some node → IsAccount failed loads event line x z → IsAccountOf failed loads event line xs ys
account_set {M} failed loads event line xs ys at node x z lt is now number here account =
    subst (λ (zs : List M). IsAccountOf failed loads event line xs zs) (sym now)
    (each_set (λ i u v. (node_of event ≡ Some i → IsAccount failed loads event line u v) × (¬ (node_of event ≡ Some i) → v ≡ u)) 1 xs at x z lt is
    ((λ _. account), (λ other. absurd (other (here ∙ ap Some (omega (arith, number))))))
    (λ i y other. ((λ at_i. absurd (let same = same_number (node_of event) i node at_i here in other (omega (arith, same, number)))), (λ _. refl))))

-- a number is this one, or not
number_cases : (o : Option ℕ) (node : ℕ) → ((o ≡ Some node) × ((event : WorldEvent) → node_of event ≡ o → is_at node event ≡ true))
    ⊎ (¬ (o ≡ Some node) × ((event : WorldEvent) → node_of event ≡ o → is_at node event ≡ false))
number_cases None node = inr ((λ e. cc), (λ event is. rw is refl))
number_cases (Some i) node = elim (eqb_tells i node) [
  | inl same ↦ inl (ap Some same.1, (λ event is. rw is same.0))
  | inr other ↦ inr ((λ e. other.1 (let e = e in cc)), (λ event is. rw is other.0))
]

-- one more line
some_more : (Holds : WorldEvent → Line → Type 0) (es : List WorldEvent) (ls : List Line) (e : WorldEvent) (l : Line) (node : ℕ) → length es ≡ length ls
    → AtSomeLine Holds (es ++ e ∷ []) (ls ++ l ∷ []) node → AtSomeLine Holds es ls node ⊎ ((node_of e ≡ Some node) × Holds e l)
some_more Holds [] [] e l node same (inl t) = inr t
some_more Holds [] [] e l node same (inr t) = absurd t
some_more Holds [] (y ∷ ys) e l node same t = absurd (omega (arith, same))
some_more Holds (x ∷ xs) [] e l node same t = absurd (omega (arith, same))
some_more Holds (x ∷ xs) (y ∷ ys) e l node same (inl t) = inl (inl t)
some_more Holds (x ∷ xs) (y ∷ ys) e l node same (inr t) = pick (some_more Holds xs ys e l node (omega (arith, same)) t)
  where
    pick : AtSomeLine Holds xs ys node ⊎ ((node_of e ≡ Some node) × Holds e l) → (((node_of x ≡ Some node) × Holds x y) ⊎ AtSomeLine Holds xs ys node) ⊎ ((node_of e ≡ Some node) × Holds e l)
    pick (inl u) = inl (inr u)
    pick (inr u) = inr u

some_before : (Holds : WorldEvent → Line → Type 0) (es : List WorldEvent) (ls : List Line) (e : WorldEvent) (l : Line) (node : ℕ) → AtSomeLine Holds es ls node
    → AtSomeLine Holds (es ++ e ∷ []) (ls ++ l ∷ []) node
some_before Holds [] ls e l node t = absurd t
some_before Holds (x ∷ xs) [] e l node t = absurd t
some_before Holds (x ∷ xs) (y ∷ ys) e l node (inl t) = inl t
some_before Holds (x ∷ xs) (y ∷ ys) e l node (inr t) = inr (some_before Holds xs ys e l node t)

some_last : (Holds : WorldEvent → Line → Type 0) (es : List WorldEvent) (ls : List Line) (e : WorldEvent) (l : Line) (node : ℕ) → length es ≡ length ls → node_of e ≡ Some node → Holds e l
    → AtSomeLine Holds (es ++ e ∷ []) (ls ++ l ∷ []) node
some_last Holds [] [] e l node same here holds = inl (here, holds)
some_last Holds [] (y ∷ ys) e l node same here holds = absurd (omega (arith, same))
some_last Holds (x ∷ xs) [] e l node same here holds = absurd (omega (arith, same))
some_last Holds (x ∷ xs) (y ∷ ys) e l node same here holds = inr (some_last Holds xs ys e l node (omega (arith, same)) here holds)

shown_more : (es : List WorldEvent) (ls : List Line) (e : WorldEvent) (l : Line) (node : ℕ) → length es ≡ length ls
    → loads_shown (es ++ e ∷ []) (ls ++ l ∷ []) node ≡ loads_shown es ls node + (if is_at node e then loads_in l else 0)
shown_more [] [] e l node same = omega arith
shown_more [] (y ∷ ys) e l node same = absurd (omega (arith, same))
shown_more (x ∷ xs) [] e l node same = absurd (omega (arith, same))
shown_more (x ∷ xs) (y ∷ ys) e l node same = omega (arith, shown_more xs ys e l node (omega (arith, same)))

-- loads after loads
after-add : (more later loads : ℕ) → loads_after (more + later) loads ≡ loads_after later (loads_after more loads)
after-add more zero loads = ap (λ n. loads_after n loads) (omega arith)
after-add more (suc later) loads = (let e : more + suc later ≡ suc (more + later) = omega arith in ap (λ n. loads_after n loads) e) ∙ ap one_more (after-add more later loads)

pub after-one_more : (more loads : ℕ) → loads_after more (one_more loads) ≡ loads_after (suc more) loads
after-one_more zero loads = refl
after-one_more (suc more) loads = ap one_more (after-one_more more loads)

-- the keeper of a node over a run with these lines
abbrev pub IsAccountOver : {M : Type 0} → (M → ℕ) → (M → ℕ) → List WorldEvent → List Line → ℕ → M → M → Type 0
IsAccountOver failed loads es ls node x y =
    IsReported (HasDeviceFailure es ls node) (HasConcealed es ls node) (failed x) (failed y) × (loads y ≡ loads_after (loads_shown es ls node) (loads x))

account_over : {M : Type 0} (failed loads : M → ℕ) (es : List WorldEvent) (ls : List Line) (e : WorldEvent) (l : Line) (node : ℕ) (x y z : M) → length es ≡ length ls
    → IsAccountOver failed loads es ls node x y → (node_of e ≡ Some node → IsAccount failed loads e l y z) × (¬ (node_of e ≡ Some node) → z ≡ y)
    → IsAccountOver failed loads (es ++ e ∷ []) (ls ++ l ∷ []) node x z
account_over {M} failed loads es ls e l node x y z same before step = pick (number_cases (node_of e) node)
  where
    Fails : WorldEvent → Line → Type 0
    Fails = λ event line. IsDeviceFailure line

    told : (Holds : WorldEvent → Line → Type 0) → AtSomeLine Holds es ls node ⊎ Holds e l → node_of e ≡ Some node → AtSomeLine Holds (es ++ e ∷ []) (ls ++ l ∷ []) node
    told Holds (inl t) here = some_before Holds es ls e l node t
    told Holds (inr t) here = some_last Holds es ls e l node same here t

    tells : (Holds : WorldEvent → Line → Type 0) → AtSomeLine Holds es ls node ⊎ ((node_of e ≡ Some node) × Holds e l) → AtSomeLine Holds es ls node ⊎ Holds e l
    tells Holds (inl t) = inl t
    tells Holds (inr t) = inr t.1

    earlier : (Holds : WorldEvent → Line → Type 0) → AtSomeLine Holds es ls node ⊎ ((node_of e ≡ Some node) × Holds e l) → ¬ (node_of e ≡ Some node) → AtSomeLine Holds es ls node
    earlier Holds (inl t) other = t
    earlier Holds (inr t) other = absurd (other t.0)

    pick : ((node_of e ≡ Some node) × ((event : WorldEvent) → node_of event ≡ node_of e → is_at node event ≡ true))
        ⊎ (¬ (node_of e ≡ Some node) × ((event : WorldEvent) → node_of event ≡ node_of e → is_at node event ≡ false))
        → IsAccountOver failed loads (es ++ e ∷ []) (ls ++ l ∷ []) node x z
    pick (inl here) =
        let account = step.0 here.0 in
        let count : loads_shown (es ++ e ∷ []) (ls ++ l ∷ []) node ≡ loads_shown es ls node + loads_in l = shown_more es ls e l node same
        ∙ ap (λ b. loads_shown es ls node + (if b then loads_in l else 0)) (here.1 e refl) in (
          reported_as (reported_then (failed x) (failed y) (failed z) before.0 account.failures) (λ t. tells Fails (some_more Fails es ls e l node same t)) (λ t. told Fails t here.0)
              (λ t. told MayConceal t here.0),
          account.loaded ∙ ap (loads_after (loads_in l)) before.1 ∙ sym (after-add (loads_shown es ls node) (loads_in l) (loads x)) ∙ ap (λ n. loads_after n (loads x)) (sym count),
        )
    pick (inr other) =
        let is = step.1 other.0 in
        let count : loads_shown es ls node ≡ loads_shown (es ++ e ∷ []) (ls ++ l ∷ []) node =
        sym (shown_more es ls e l node same ∙ ap (λ b. loads_shown es ls node + (if b then loads_in l else 0)) (other.1 e refl) ∙ omega arith) in (
          subst (λ (v : M). IsReported (HasDeviceFailure (es ++ e ∷ []) (ls ++ l ∷ []) node) (HasConcealed (es ++ e ∷ []) (ls ++ l ∷ []) node) (failed x) (failed v)) (sym is)
              (reported_as before.0 (λ t. earlier Fails (some_more Fails es ls e l node same t) other.0) (λ t. some_before Fails es ls e l node t) (λ t. some_before MayConceal es ls e l node t)),
          ap loads is ∙ before.1 ∙ ap (λ n. loads_after n (loads x)) count,
        )

-- one more event and one more line
pub account_more : {M E L : Type 0} (failed loads : M → ℕ) (to_event : E → WorldEvent) (shown : L → Line) (es : List E) (ls ks : List L) (i : ℕ) (e : E) (l : L) (xs ys zs : List M)
    → e ≡ get_or es i e → i < length es → length ls ≡ i → ks ≡ ls ++ l ∷ [] → EachNode (IsAccountOver failed loads (map to_event (take i es)) (map shown ls)) 1 xs ys
    → IsAccountOf failed loads (to_event e) (shown l) ys zs → EachNode (IsAccountOver failed loads (map to_event (take (i + 1) es)) (map shown ks)) 1 xs zs
account_more {M} {E} failed loads to_event shown es ls ks i e l xs ys zs at lt same is before step =
    let long : length (map to_event (take i es)) ≡ length (map shown ls) = omega (arith, length-map (take i es) to_event, length-map ls shown, length-take i es, lt, same) in
    rw (is, take_more es i e lt, map-push to_event (take i es) (get_or es i e), map-push shown ls l)
    (subst (λ (x : E). EachNode (IsAccountOver failed loads (map to_event (take i es) ++ to_event x ∷ []) (map shown ls ++ shown l ∷ [])) 1 xs zs) at
    (each_then _ _ _ 1 xs ys zs (λ n x y z before step. account_over failed loads (map to_event (take i es)) (map shown ls) (to_event e) (shown l) n x y z long before step) before step))
