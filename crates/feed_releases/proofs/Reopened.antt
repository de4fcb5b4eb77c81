-- Records of a keeper, one after another, and what they say together.
use Rattle.std.proofs.Common.{◌≡◌, ◌<◌, ◌≤◌, ◌+◌, ◌++◌, ℕ, suc, List, [], ◌∷◌, length, sum_by, Option, Some, None, is_some, false, refl, sym, ◌∙◌, ap, subst, arith}
use Rattle.std.specs.List.{All, IsDistinct}
use Rattle.std.proofs.lemmas.List.Sums.{sum_by-cons}
use Rattle.std.proofs.lemmas.List.Elements.{All-nil, All-cons, All-head, All-tail, All-append}
use Rattle.feed_names.specs.ReleaseName.{name_eq}
use Rattle.feed_model.specs.Handles.{HasLaterActive}
use Rattle.feed_model.specs.Content.{Record, Content, names, within}
use Rattle.feed_model.specs.Sound.{IsSoundRecord, IsSound}
use Rattle.feed_keep.specs.declared.record.Record as code
use Rattle.feed_keep.specs.Shown.{shown, shown_record}
use Rattle.feed_releases.specs.ReleaseValue.{ReleaseValue, content_of}
use Rattle.feed_releases.specs.Reopening.{CheckValue, IsReopening, content_in, records_in}
use Rattle.feed_releases.specs.ReopeningSteps.{IsNext}
use Rattle.feed_releases.proofs.Finding.{length-content_of}
use Rattle.std.proofs.lemmas.List.{append-nil, length-append}
use Rattle.std.proofs.Math.Seq.{append_snoc}

pub length-shown_records : (rs : List code.Record) → length (shown rs) ≡ length rs
length-shown_records [] = refl
length-shown_records (r ∷ rs) = ap suc (length-shown_records rs)

content_of-push : (rs : List ReleaseValue) (r : ReleaseValue) → content_of (rs ++ r ∷ []) ≡ content_of rs ++ r.kept ∷ []
content_of-push [] r = refl
content_of-push (x ∷ xs) r = ap (λ ys. x.kept ∷ ys) (content_of-push xs r)

all-at : {X : Type 0} (P : X → Type 0) (xs : List X) (y : X) (zs : List X) → All P (xs ++ y ∷ zs) → P y
all-at P [] y zs all = All-head P y zs all
all-at P (x ∷ xs) y zs all = all-at P xs y zs (All-tail P x (xs ++ y ∷ zs) all)

all-back : {X : Type 0} (P : X → Type 0) (xs ys : List X) → All P (xs ++ ys) → All P ys
all-back P [] ys all = all
all-back P (x ∷ xs) ys all = all-back P xs ys (All-tail P x (xs ++ ys) all)

pub none_is : (current : Option CheckValue) → is_some current ≡ false → current ≡ None
none_is None e = refl
none_is (Some check) e = absurd (let is = e in cc)

-- the next check
pub next_same : (check : CheckValue) (rest : List code.Record) → IsNext (Some check) rest (Some check) rest
next_same check rest = record { content = refl; left = omega arith; none = tt }

pub next_none : (rest others : List code.Record) → rest ≡ others → others ≡ [] → IsNext None rest None others
next_none rest others same none = rw same (record { content = refl; left = omega arith; none = none })

pub next_some : (rest others : List code.Record) (r : code.Record) (check : CheckValue) → rest ≡ r ∷ others → check.kept ≡ shown_record r → check.left ≤ r.size + 1
    → IsNext None rest (Some check) others
next_some rest others r check is kept left =
    let size : code.Record → ℕ = λ s. s.size + 2 in
    let fewer : check.left + sum_by size others ≤ 0 + sum_by size (r ∷ others) = omega (arith, left, sum_by-cons size r others) in
    rw is (record { content = ap (λ (x : Record). x ∷ shown others) kept; left = fewer; none = tt })

-- an unsound record leaves no sound content
pub next_not : (rest others : List code.Record) (r : code.Record) → rest ≡ r ∷ others → (IsSoundRecord (shown_record r) → ⊥) → All IsSoundRecord (shown rest) → ⊥
next_not rest others r is wrong all =
    wrong (All-head IsSoundRecord (shown_record r) (shown others) (subst (λ (xs : List code.Record). All IsSoundRecord (shown xs)) is all))

-- the same content with the next check
pub next_content : (rs : List ReleaseValue) (current next : Option CheckValue) (rest others : List code.Record) → IsNext current rest next others
    → content_in rs next others ≡ content_in rs current rest
next_content rs current next rest others is = ap (λ (c : Content). content_of rs ++ c) is.content

pub further_content : (rs : List ReleaseValue) (current : Option CheckValue) (check further : CheckValue) (rest others : List code.Record) → IsNext current rest (Some check) others
    → further.kept ≡ check.kept → content_in rs (Some further) others ≡ content_in rs current rest
further_content rs current check further rest others is kept =
    ap (λ (r : Record). content_of rs ++ (r ∷ shown others)) kept ∙ next_content rs current (Some check) rest others is

pub pushed_content : (rs now : List ReleaseValue) (x : ReleaseValue) (current : Option CheckValue) (check : CheckValue) (rest others : List code.Record)
    → IsNext current rest (Some check) others → now ≡ rs ++ x ∷ [] → x.kept ≡ check.kept → content_in now None others ≡ content_in rs current rest
pushed_content rs now x current check rest others is pushed kept =
    ap (λ (ys : List ReleaseValue). content_of ys ++ shown others) pushed
    ∙ ap (λ (c : Content). c ++ shown others) (content_of-push rs x ∙ ap (λ (r : Record). content_of rs ++ r ∷ []) kept)
    ∙ append_snoc (content_of rs) check.kept (shown others) ∙ next_content rs current (Some check) rest others is

-- no record was checked
pub reopening_begun : {most : ℕ} (rs : List ReleaseValue) (records rest : List code.Record) (room : ℕ) → rs ≡ [] → rest ≡ records → IsDistinct name_eq (names (shown records))
    → All (λ r. ¬ (HasLaterActive (shown records) r.name)) (shown records) → length records ≤ most → length records ≤ room → IsReopening most rs room (content_in rs None rest)
reopening_begun rs records rest room none same distinct current few places = rw (none, same) (record {
  distinct = distinct;
  few = omega (arith, few, length-shown_records records);
  current = current;
  sound = All-nil IsSoundRecord;
  room = omega (arith, places, length-shown_records records);
})

pub reopening_further : {most : ℕ} (rs : List ReleaseValue) (room : ℕ) (was now : Content) → now ≡ was → IsReopening most rs room was → IsReopening most rs room now
reopening_further rs room was now same is = subst (IsReopening _ rs room) (sym same) is

pub reopening_pushed : {most : ℕ} (rs after : List ReleaseValue) (x : ReleaseValue) (r : Record) (room more : ℕ) (was now : Content) → after ≡ rs ++ x ∷ [] → x.kept ≡ r → IsSoundRecord r
    → now ≡ was → more ≡ room → IsReopening most rs room was → IsReopening most after more now
reopening_pushed rs after x r room more was now pushed kept sound same capacity is = rw (same, capacity) (record {
  distinct = is.distinct;
  few = is.few;
  current = is.current;
  sound = subst (All IsSoundRecord) (sym (ap content_of pushed ∙ content_of-push rs x ∙ ap (λ (y : Record). content_of rs ++ y ∷ []) kept))
      (All-append IsSoundRecord (content_of rs) (r ∷ []) is.sound (All-cons IsSoundRecord r [] sound (All-nil IsSoundRecord)));
  room = is.room;
})

-- there is room for one more
pub room_left : {most : ℕ} (rs : List ReleaseValue) (room : ℕ) (current : Option CheckValue) (check : CheckValue) (rest others : List code.Record)
    → IsReopening most rs room (content_in rs current rest)
    → IsNext current rest (Some check) others → length rs < room
room_left rs room current check rest others is next =
    omega (
      arith,
      is.room,
      ap (λ (c : Content). length c) (next_content rs current (Some check) rest others next),
      length-append (content_of rs) (check.kept ∷ shown others),
      length-content_of rs,
    )

-- an unsound record at its turn
pub reopened_not : {most : ℕ} (rs : List ReleaseValue) (current : Option CheckValue) (check : CheckValue) (rest others : List code.Record) → IsNext current rest (Some check) others
    → (IsSoundRecord check.kept → ⊥) → IsSound (within most (content_in rs current rest)) → ⊥
reopened_not rs current check rest others next wrong sound =
    wrong (all-at IsSoundRecord (content_of rs) check.kept (shown others)
    (subst (All IsSoundRecord) (sym (next_content rs current (Some check) rest others next)) sound.each))

pub reopened_rest_not : {most : ℕ} (rs : List ReleaseValue) (current : Option CheckValue) (rest : List code.Record) → (All IsSoundRecord (records_in current ++ shown rest) → ⊥)
    → IsSound (within most (content_in rs current rest)) → ⊥
reopened_rest_not rs current rest wrong sound = wrong (all-back IsSoundRecord (content_of rs) (records_in current ++ shown rest) sound.each)

-- no record is left
pub reopened_all : (rs : List ReleaseValue) (current : Option CheckValue) (rest others : List code.Record) → IsNext current rest None others → content_of rs ≡ content_in rs current rest
reopened_all rs current rest others is =
    sym (append-nil (content_of rs)) ∙ ap (λ (ys : List code.Record). content_of rs ++ shown ys) (sym is.none) ∙ next_content rs current None rest others is

pub reopened_sound : {most : ℕ} (rs : List ReleaseValue) (room : ℕ) (content : Content) → content_of rs ≡ content → IsReopening most rs room content → IsSound (within most content)
reopened_sound rs room content same is = record {
  distinct = is.distinct;
  few = is.few;
  each = subst (All IsSoundRecord) same is.sound;
  current = is.current;
}
