-- A check that reads a file ahead: its text continues, and remains the file's as parts are added.
use Rattle.std.proofs.Common.{◌≡◌, ◌≤◌, ◌<◌, ◌+◌, ◌-◌, ◌++◌, ◌∙◌, ◌==◌, ◌↔◌, ℕ, Bool, true, false, IsTrue, IsSome, not, zero, suc, List, []}
use Rattle.std.proofs.Common.{◌∷◌, Option, Some, None, IfSome, IfOk, ◌⊎◌, Result, Ok, Err, length, slice_get, get_or, set, take, drop, inl, inr, refl, sym, ap, subst, arith}
use Rattle.std.proofs.Math.Logic.{∥∥₁_elim, ∥∥₁_map}
use Rattle.std.proofs.Props.{props}
use Rattle.std.proofs.lemmas.Bool.{cases_lt, eqb-true}
use Rattle.std.proofs.lemmas.List.{length-append, length-drop, length-take}
use Rattle.std.proofs.lemmas.Option.{slice_get-get_or}
use Rattle.feed_kbart.specs.HoldingsValue.{HoldingsValue}
use Rattle.feed_kbart.specs.Files.{IsReadOf}
use Rattle.feed_kbart.specs.declared.fault.KbartFault.{KbartFault}
use Rattle.feed_kbart.specs.declared.fault.KbartFault.TheVariants as faults
use Rattle.feed_kbart.specs.ListChecks.{IsCheckOfList}
use Rattle.feed_keep.proofs.BadFile.{one_text}
use Rattle.feed_model.specs.History.{byte_at, or_else}
use Rattle.feed_model.specs.Content.{IsText, Part, Record, byte_in}
use Rattle.feed_model.specs.Parts.{AgreesIn, AreWithin}
use Rattle.feed_parts.specs.Segments.{HasRun}
use Rattle.feed_parts.proofs.From.{slice_get-drop}
use Rattle.feed_parts.proofs.Places.{byte_at_from, cases_option, first_some, none_after, some_is, some_not_none}
use Rattle.feed_releases.specs.declared.file_check.FileCheck.{FileCheck}
use Rattle.feed_model.specs.Change.{merged}
use Rattle.feed_releases.specs.declared.standing.Standing.{Standing}
use Rattle.feed_releases.specs.declared.standing.Standing.TheVariants as standings
use Rattle.feed_releases.specs.Standing.{IsStandingOf, record_after}
use Rattle.feed_releases.specs.ReleaseValue.{ReleaseValue}
use Rattle.feed_releases.specs.FileCheck.{HasRead, IsCheckOf, IsUnion, unread_from, unread_of}
use Rattle.feed_releases.specs.Work.{unread_at, unread_in}
use Rattle.feed_releases.specs.declared.ahead.Ahead.{Ahead}
use Rattle.feed_releases.specs.Ahead.{IsReadAt}
use Rattle.feed_model.specs.Reply.{missing_below}
use Rattle.feed_model.proofs.Keeps.{none_missing}
use Rattle.feed_parts.specs.Piece.{joined}
use Rattle.feed_parts.proofs.Joined.{joined_text}
use Rattle.feed_releases.specs.Judged.{IsJudged}
use Rattle.feed_releases.specs.Reopening.{IsRecordCheck, to_read}
use Rattle.feed_releases.proofs.Judged.{judged}

slice_get-front : (xs ys : List ℕ) (i : ℕ) → i < length xs → slice_get (xs ++ ys) i ≡ slice_get xs i
slice_get-front [] ys i h = absurd (omega (arith, h))
slice_get-front (x ∷ xs) ys zero h = refl
slice_get-front (x ∷ xs) ys (suc i) h = slice_get-front xs ys i (omega arith)

slice_get-back : (xs ys : List ℕ) (i : ℕ) → length xs ≤ i → slice_get (xs ++ ys) i ≡ slice_get ys (i - length xs)
slice_get-back [] ys i h = let same : i - 0 ≡ i = omega arith in rw same refl
slice_get-back (x ∷ xs) ys zero h = absurd (omega (arith, h))
slice_get-back (x ∷ xs) ys (suc i) h =
    let same : suc i - suc (length xs) ≡ i - length xs = omega arith in
    rw same (slice_get-back xs ys i (omega arith))

-- the bytes that the parts have from the end of a text on
text_more : (n : ℕ) (parts : List Part) (text bytes : List ℕ) → IsText n parts text → HasRun parts n bytes → IsText (n + length bytes) parts (text ++ bytes)
text_more n parts text bytes is run = record {
  count = length-append text bytes ∙ ap (λ (k : ℕ). k + length bytes) is.count;
  bytes = λ place within. elim (cases_lt place n) [
    | inl h ↦ is.bytes place h ∙ sym (slice_get-front text bytes place (omega (arith, is.count, h)))
    | inr h ↦
        let k = place - n in
        let same : n + k ≡ place = omega arith in
        let back : place - length text ≡ k = omega (arith, is.count) in
        rw same at (run k (omega arith)) ∙ sym (slice_get-back text bytes place (omega (arith, is.count, h)) ∙ ap (slice_get bytes) back)
  ];
}

slice_get-take : (n : ℕ) (xs : List ℕ) (k : ℕ) → k < length (take n xs) → slice_get (take n xs) k ≡ slice_get xs k
slice_get-take zero xs k h = absurd (omega (arith, h))
slice_get-take (suc n) [] k h = refl
slice_get-take (suc n) (x ∷ xs) zero h = refl
slice_get-take (suc n) (x ∷ xs) (suc k) h = slice_get-take n xs k (omega arith)

pub run_take : (parts : List Part) (place n : ℕ) (bytes : List ℕ) → HasRun parts place bytes → HasRun parts place (take n bytes)
run_take parts place n bytes run k within =
    let inside : k < length bytes = omega (arith, within, length-take n bytes) in
    run k inside ∙ sym (slice_get-take n bytes k within)

-- a byte that is stored remains, with the piece
union_some : (parts kept : List Part) (first : ℕ) (bytes : List ℕ) (place x : ℕ) → IsUnion parts kept first bytes → byte_in kept place ≡ Some x → byte_in parts place ≡ Some x
union_some parts kept first bytes place x union is = union place ∙ first_some (byte_in kept place) (byte_at first bytes place) x is

pub run_in_union : (parts kept : List Part) (first : ℕ) (bytes : List ℕ) (place : ℕ) (run : List ℕ) → IsUnion parts kept first bytes → HasRun kept place run → HasRun parts place run
run_in_union parts kept first bytes place run union has k within =
    let some = slice_get-get_or run k 0 within in
    union_some parts kept first bytes (place + k) (get_or run k 0) union (has k within ∙ some) ∙ sym some

text_on : (n : ℕ) (parts kept : List Part) (first : ℕ) (bytes text : List ℕ) → IsUnion parts kept first bytes → IsText n kept text → IsText n parts text
text_on n parts kept first bytes text union is = record {
  count = is.count;
  bytes = λ place within. (
      let some = slice_get-get_or text place 0 (omega (arith, within, is.count)) in
      union_some parts kept first bytes place (get_or text place 0) union (is.bytes place within ∙ some) ∙ sym some);
}

-- the law: a check continues beside the bytes of a piece
pub running_on : (parts kept : List Part) (first : ℕ) (bytes : List ℕ) (running : FileCheck) → IsUnion parts kept first bytes → IsCheckOf kept running → IsCheckOf parts running
running_on parts kept first bytes running union running_was = ∥∥₁_map running_was (λ (was : HasRead kept running).
    record { text = was.text; is = text_on running.next parts kept first bytes was.text union was.is; check = was.check })

-- the bytes from the place on continue the text
pub running_more : (parts : List Part) (running further : FileCheck) (bytes : List ℕ) → IsCheckOf parts running → HasRun parts running.next bytes → further.next ≡ running.next + length bytes
    → ((text : List ℕ) → IsCheckOfList text running.check → IsCheckOfList (text ++ bytes) further.check) → IsCheckOf parts further
running_more parts running further bytes running_was run next step = ∥∥₁_map running_was (λ (was : HasRead parts running). record {
  text = was.text ++ bytes;
  is = rw next (text_more running.next parts was.text bytes was.is run);
  check = step was.text was.check;
})

-- what a text reads as is one fact
read_prop : (text : List ℕ) (outcome : Result HoldingsValue KbartFault) → IsProp (IsReadOf text outcome)
read_prop text (Ok holdings) = Prim.hlevel props
read_prop text (Err (faults.Bad why)) = Prim.hlevel props
read_prop text (Err faults.Memory) = Prim.hlevel props
read_prop text (Err faults.Read) = Prim.hlevel props
read_prop text (Err faults.TooLong) = Prim.hlevel props

-- a check that received the whole file has its text
pub read_whole : (size : ℕ) (parts : List Part) (text : List ℕ) (running : FileCheck) (outcome : Result HoldingsValue KbartFault) → IsText size parts text → running.next ≡ size
    → IsCheckOf parts running → ((text : List ℕ) → IsCheckOfList text running.check → IsReadOf text outcome) → IsReadOf text outcome
read_whole size parts text running outcome is next running_was finish = ∥∥₁_elim running_was (read_prop text outcome) (λ (was : HasRead parts running).
    let same : was.text ≡ text = one_text size parts was.text text (subst (λ (n : ℕ). IsText n parts was.text) next was.is) is in
    subst (λ (t : List ℕ). IsReadOf t outcome) same (finish was.text was.check))

or_agreed : (o : Option ℕ) (y : ℕ) → ((x : ℕ) → o ≡ Some x → x ≡ y) → or_else o (Some y) ≡ Some y
or_agreed None y same = refl
or_agreed (Some x) y same = ap Some (same x refl)

-- the bytes of the piece from a place on
pub run_of_piece : (parts kept : List Part) (first : ℕ) (bytes : List ℕ) (place : ℕ) → IsUnion parts kept first bytes → AgreesIn kept first bytes → first ≤ place
    → HasRun parts place (drop (place - first) bytes)
run_of_piece parts kept first bytes place union agrees low k within =
    let skipped = place - first in
    let inside : skipped + k < length bytes = omega (arith, within, length-drop skipped bytes) in
    let same : (place + k) - first ≡ skipped + k = omega arith in
    let y = get_or bytes (skipped + k) 0 in
    let some : slice_get bytes (skipped + k) ≡ Some y = slice_get-get_or bytes (skipped + k) 0 inside in
    let there : byte_at first bytes (place + k) ≡ Some y = byte_at_from first bytes (place + k) (omega arith) ∙ ap (slice_get bytes) same ∙ some in
    union (place + k) ∙ ap (or_else (byte_in kept (place + k))) there ∙ or_agreed (byte_in kept (place + k)) y (λ x e. agrees (place + k) x y e there)
    ∙ sym (slice_get-drop skipped bytes k ∙ some)

pub no_run : (parts : List Part) (place : ℕ) → HasRun parts place []
no_run parts place k h = absurd (omega (arith, h))

pub if_some : {A : Type 0} (o : Option A) (P Q : A → Type 0) → IfSome o P → ((a : A) → P a → Q a) → IfSome o Q
if_some None P Q p f = tt
if_some (Some a) P Q p f = f a p

pub if_both : {A : Type 0} (o : Option A) (P Q R : A → Type 0) → IfSome o P → IfSome o Q → ((a : A) → P a → Q a → R a) → IfSome o R
if_both None P Q R p q f = tt
if_both (Some a) P Q R p q f = f a p q

-- where a byte is stored, some are read
pub some_run : (parts : List Part) (place : ℕ) (run : List ℕ) → (run ≡ [] → byte_in parts place ≡ None) → IsSome (byte_in parts place) → 0 < length run
some_run parts place [] missing some = absurd (some_not_none (byte_in parts place) some (missing refl))
some_run parts place (x ∷ xs) missing some = omega arith

pub more_so : (parts : List Part) (place : ℕ) (run : List ℕ) (empty : Bool) → HasRun parts place run → (run ≡ [] → byte_in parts place ≡ None) → empty ≡ (length run == 0)
    → IsTrue (not empty) ↔ IsSome (byte_in parts place)
more_so parts place [] empty has missing is = (λ more. absurd (let e = more in let f = is in cc), λ some. absurd (some_not_none (byte_in parts place) some (missing refl)))
more_so parts place (x ∷ xs) true has missing is = absurd (let none : length (x ∷ xs) ≡ 0 = eqb-true (length (x ∷ xs)) 0 (sym is) in omega (arith, none))
more_so parts place (x ∷ xs) false has missing is =
    let same : place + 0 ≡ place = omega arith in
    let here : byte_in parts place ≡ Some x = rw same at (has 0 (omega arith)) in
    (λ more. some_is (byte_in parts place) x here, λ some. refl)

-- the check of a release continues in the list of releases, beside the new parts of a piece
pub read_at : (rs : List ReleaseValue) (at : ℕ) (r : ReleaseValue) (running : Option FileCheck) → r ≡ get_or rs at r → IfSome running (IsReadAt rs at) → IfSome running (IsCheckOf r.kept.parts)
read_at rs at r running here read = if_some running (IsReadAt rs at) (IsCheckOf r.kept.parts) read (λ a is. subst (λ (y : ReleaseValue). IsCheckOf y.kept.parts a) (sym here) (is r))

get_or-set : (rs : List ReleaseValue) (at : ℕ) (x d : ReleaseValue) → at < length rs → get_or (set rs at x) at d ≡ x
get_or-set [] at x d within = absurd (omega (arith, within))
get_or-set (r ∷ rs) zero x d within = refl
get_or-set (r ∷ rs) (suc at) x d within = get_or-set rs at x d (omega (arith, within))

parts_after : (new : List Part) (standing : Standing) (r : Record) → (record_after new standing r).parts ≡ merged r.parts new
parts_after new standings.Partial r = refl
parts_after new (standings.Bad why) r = refl
parts_after new (standings.Good holdings) r = refl

pub read_after : (rs : List ReleaseValue) (at : ℕ) (r x : ReleaseValue) (new : List Part) (standing : Standing) (running : Option FileCheck) → at < length rs
    → x.kept ≡ record_after new standing r.kept → IfSome running (IsCheckOf (merged r.kept.parts new)) → IfSome running (IsReadAt (set rs at x) at)
read_after rs at r x new standing running within taken read = if_some running (IsCheckOf (merged r.kept.parts new)) (IsReadAt (set rs at x) at) read (λ a is d.
    let parts : x.kept.parts ≡ merged r.kept.parts new = ap (λ (k : Record). k.parts) taken ∙ parts_after new standing r.kept in
    subst (λ (y : ReleaseValue). IsCheckOf y.kept.parts a) (sym (get_or-set rs at x d within)) (rw parts is))

pub if_ok : {A E : Type 0} (o : Result A E) (P Q : A → Type 0) → IfOk o P → ((a : A) → P a → Q a) → IfOk o Q
if_ok (Ok a) P Q p f = f a p
if_ok (Err e) P Q p f = tt

-- a stored byte is inside the file
pub inside : (size place : ℕ) (parts : List Part) → AreWithin size parts → IsSome (byte_in parts place) → place < size
inside size place parts within some = elim (cases_lt place size) [
  | inl lt ↦ lt
  | inr le ↦ absurd (some_not_none (byte_in parts place) some (none_after size parts within.inside place le))
]

-- a check that reads no further in a complete file read all of it
pub read_all : (size : ℕ) (parts : List Part) (running : FileCheck) → AreWithin size parts → missing_below (byte_in parts) size ≡ 0 → IsCheckOf parts running
    → (IsSome (byte_in parts running.next) → ⊥) → running.next ≡ size
read_all size parts running within whole running_was none = ∥∥₁_elim running_was (Prim.hlevel props) (λ (was : HasRead parts running).
    let low : size ≤ running.next = elim (cases_lt running.next size) [
      | inl lt ↦ absurd (none ((none_missing (byte_in parts) size).0 whole running.next lt))
      | inr le ↦ le
    ] in
    let high : running.next ≤ size = elim (cases_lt size running.next) [
      | inl lt ↦
          let some = slice_get-get_or was.text size 0 (omega (arith, lt, was.is.count)) in
          absurd (let f = inside size size parts within (some_is (byte_in parts size) (get_or was.text size 0) (was.is.bytes size lt ∙ some)) in omega (arith, f))
      | inr le ↦ le
    ] in
    omega (arith, low, high))

-- so its outcome is that of the file
pub read_to_end : (size : ℕ) (parts : List Part) (running : FileCheck) (outcome : Result HoldingsValue KbartFault) → IsRecordCheck size parts (Some running)
    → (IsSome (byte_in parts running.next) → ⊥)
    → ((ps : List Part) (text : List ℕ) → IsCheckOf ps running → IsText running.next ps text → IsReadOf text outcome) → IsJudged size parts outcome
read_to_end size parts running outcome is none finish =
    let next = read_all size parts running is.within is.whole is.reads none in
    let text = joined_text size parts is.within ((none_missing (byte_in parts) size).0 is.whole) in
    judged size parts (joined parts) outcome text (finish parts (joined parts) is.reads (subst (λ (n : ℕ). IsText n parts (joined parts)) (sym next) text))

pub no_bytes : (parts : List Part) (place : ℕ) (run : List ℕ) → HasRun parts place run → byte_in parts place ≡ None → length run ≡ 0
no_bytes parts place [] has none = refl
no_bytes parts place (x ∷ xs) has none =
    let same : place + 0 ≡ place = omega arith in
    let here : byte_in parts place ≡ Some x = rw same at (has 0 (omega arith)) in
    absurd (some_not_none (byte_in parts place) (some_is (byte_in parts place) x here) none)

unread_most : (o : Option ℕ) (n : ℕ) → unread_from o n ≤ n
unread_most None n = omega arith
unread_most (Some x) n = omega arith

unread_none : (o : Option ℕ) (n : ℕ) → o ≡ None → unread_from o n ≡ 0
unread_none o n none = rw none refl

unread_some : (o : Option ℕ) (n : ℕ) → IsSome o → unread_from o n ≡ n
unread_some None n some = absurd (let s = some in cc)
unread_some (Some x) n some = refl

some_unread : (o : Option ℕ) (n : ℕ) → 0 < unread_from o n → IsSome o
some_unread None n some = absurd (omega (arith, some))
some_unread (Some x) n some = refl

-- after a window there is less to read
pub read_less : (r : Record) (running further : FileCheck) → AreWithin r.size r.parts → (IsSome (byte_in r.parts running.next) → running.next < further.next)
    → (byte_in r.parts running.next ≡ None → further.next ≡ running.next) → 0 < unread_of r further → unread_of r further < unread_of r running
read_less r running further within some none more = by (cases_option (byte_in r.parts running.next))
  where
    by : (byte_in r.parts running.next ≡ None) ⊎ ((x : ℕ) × (byte_in r.parts running.next ≡ Some x)) → unread_of r further < unread_of r running
    by (inl is) =
        absurd (omega (arith, more, unread_none (byte_in r.parts further.next) (r.size - further.next) (ap (byte_in r.parts) (none is) ∙ is)))
    by (inr is) =
        let here = some_is (byte_in r.parts running.next) is.0 is.1 in
        omega (
          arith,
          some here,
          inside r.size running.next r.parts within here,
          unread_most (byte_in r.parts further.next) (r.size - further.next),
          unread_some (byte_in r.parts running.next) (r.size - running.next) here,
        )

-- there is something to read exactly if the next byte is stored
pub more_unread : (r : Record) (running : FileCheck) (more : Bool) → AreWithin r.size r.parts → IsTrue more ↔ IsSome (byte_in r.parts running.next) → IsTrue more ↔ (0 < unread_of r running)
more_unread r running more within is = (
  λ t.
      let here = is.0 t in
      omega (arith, inside r.size running.next r.parts within here, unread_some (byte_in r.parts running.next) (r.size - running.next) here),
  λ some. is.1 (some_unread (byte_in r.parts running.next) (r.size - running.next) some),
)

-- what is left of the release at this place
pub unread_here : (rs : List ReleaseValue) (ahead : Ahead) (r : ReleaseValue) → ahead.at < length rs → r ≡ get_or rs ahead.at r
    → unread_in rs (Some ahead) ≡ unread_of r.kept ahead.running
unread_here rs ahead r within here =
    ap (λ (o : Option ReleaseValue). unread_at o ahead.running) (value_at rs ahead.at r within ∙ ap Some (sym here))
  where
    value_at : (xs : List ReleaseValue) (i : ℕ) (d : ReleaseValue) → i < length xs → slice_get xs i ≡ Some (get_or xs i d)
    value_at [] i d lt = absurd (omega (arith, lt))
    value_at (x ∷ xs) zero d lt = refl
    value_at (x ∷ xs) (suc i) d lt = value_at xs i d (omega (arith, lt))

-- a further window of a complete file
pub read_further : (size : ℕ) (parts : List Part) (was : Option FileCheck) (running further : FileCheck) → was ≡ Some running → IsRecordCheck size parts was
    → (IsCheckOf parts running → IsCheckOf parts further) → IsSome (byte_in parts running.next) → (IsSome (byte_in parts running.next) → running.next < further.next)
    → IsRecordCheck size parts (Some further) × (to_read size (Some further) < to_read size was)
read_further size parts was running further is check reads some more =
    let checked = subst (IsRecordCheck size parts) is check in (
      record { within = checked.within; limit = checked.limit; reads = reads checked.reads; whole = checked.whole },
      rw is (omega (arith, more some, inside size running.next parts checked.within some)),
    )

-- the status of a complete file that was read to its end
pub read_end : (size : ℕ) (parts : List Part) (was : Option FileCheck) (running : FileCheck) (outcome : Result HoldingsValue KbartFault) (standing : Standing) → was ≡ Some running
    → IsRecordCheck size parts was → (IsSome (byte_in parts running.next) → ⊥)
    → ((ps : List Part) (text : List ℕ) → IsCheckOf ps running → IsText running.next ps text → IsReadOf text outcome)
    → ((n : ℕ) (ps : List Part) → IsJudged n ps outcome → IsStandingOf n ps 0 standing) → IsStandingOf size parts (missing_below (byte_in parts) size) standing
read_end size parts was running outcome standing is check none finish stands =
    let checked = subst (IsRecordCheck size parts) is check in
    subst (λ (m : ℕ). IsStandingOf size parts m standing) (sym checked.whole) (stands size parts (read_to_end size parts running outcome checked none finish))

pub some_to_read : (size : ℕ) (running : Option FileCheck) → 0 < to_read size running
some_to_read size None = omega arith
some_to_read size (Some running) = omega arith

-- after a window of the release at this place there is less to read ahead
pub ahead_less : (rs : List ReleaseValue) (old : Option Ahead) (was now : Ahead) (r : ReleaseValue) → old ≡ Some was → now.at ≡ was.at → was.at < length rs → r ≡ get_or rs was.at r
    → (0 < unread_of r.kept now.running → unread_of r.kept now.running < unread_of r.kept was.running) → 0 < unread_in rs (Some now) → unread_in rs (Some now) < unread_in rs old
ahead_less rs old was now r is place within here less more =
    let before = unread_here rs was r within here in
    let after = unread_here rs now r (omega (arith, within, place)) (rw place here) in
    rw is (omega (arith, before, after, less (omega (arith, more, after))))
