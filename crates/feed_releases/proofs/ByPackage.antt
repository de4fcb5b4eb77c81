-- The active releases are ordered by package, each once; and if the same ones are reported, their lists are the same.
use Rattle.std.proofs.Common.{◌≡◌, ◌≢◌, ◌<◌, ◌⊎◌, ℕ, zero, suc, List, [], ◌∷◌, length, get_or, Option, Some, None, true, false}
use Rattle.std.proofs.Common.{Ordering, Less, Equal, Greater, is_lt, refl, sym, ap, ap₂, ◌∙◌, subst, arith, inl, inr}
use Rattle.std.specs.Prelude.{All}
use Rattle.std.specs.Cmp.Lexicographic.{bytes_decides}
use Rattle.std.specs.Ordering.{is_eq, ordering_reverse}
use Rattle.std.specs.List.{filter_map, AllByRecursion, IsDistinct}
use Rattle.std.specs.List.Sorted.{IsStrictlySortedBy}
use Rattle.std.proofs.lemmas.Bool.{cases_Bool}
use Rattle.std.proofs.lemmas.Map.Keys.{IsDistinct-head, IsDistinct-tail}
use Rattle.std.proofs.lemmas.Map.Text.{is_eq-slice_cmp}
use Rattle.feed_names.specs.ReleaseName.{Name, name_eq}
use Rattle.feed_kbart.specs.HoldingsValue.{HoldingsValue}
use Rattle.feed_kbart.specs.Files.{holdings_of}
use Rattle.feed_model.specs.declared.state.State.{State}
use Rattle.feed_model.specs.declared.state.State.TheVariants.{Staged, Broken, Active}
use Rattle.feed_model.specs.History.{History, Reports}
use Rattle.feed_model.specs.Content.{Part, Record, names, IsContentWithin}
use Rattle.feed_model.proofs.Names.{name_self}
use Rattle.feed_model.proofs.Lookups.{name-record_of}
use Rattle.feed_model.proofs.Tests.{record_good, not_passed_active}
use Rattle.feed_model.proofs.Reports.{active_one}
use Rattle.feed_releases.specs.ReleaseValue.{ReleaseValue, content_of, IsKnown}
use Rattle.feed_releases.specs.Actives.{ActiveValue, active_of, actives_of, package_cmp, is_package_before, insert_active, inserted, AreKnown}
use Rattle.feed_releases.specs.Actives.{HasActive, IsReported, AreReported, names_of, ReportAlike}
use Rattle.feed_releases.proofs.Finding.{apart_at, place_of, reports_at}
use Rattle.feed_releases.proofs.ActivesReported.{holds, collected, put_in, each_reported}
use Rattle.feed_releases.proofs.Inserting.{by_packages}

abbrev Ordered : List ActiveValue → Type 0
Ordered actives = IsStrictlySortedBy package_cmp actives

-- the package differs from that of each release in the list
abbrev IsApart : ActiveValue → List ActiveValue → Type 0
IsApart a actives = AllByRecursion (λ (b : ActiveValue). a.name.package_name ≢ b.name.package_name) actives

abbrev AreApart : List ActiveValue → Type 0
AreApart [] = Unit {0}
AreApart (a ∷ actives) = IsApart a actives × AreApart actives

-- a release in the list has this name
abbrev IsAmong : Name → List ActiveValue → Type 0
IsAmong n [] = ⊥
IsAmong n (a ∷ actives) = (a.name ≡ n) ⊎ IsAmong n actives

-- ---- the order of packages

not_itself : (a : ActiveValue) → package_cmp a a ≢ Less
not_itself a e = by (package_cmp a a) e (by_packages.antisymm a a)
  where
    by : (o : Ordering) → o ≡ Less → o ≡ ordering_reverse o → ⊥
    by Less e back = absurd (cc)
    by Equal e back = absurd (cc)
    by Greater e back = absurd (cc)

is_less : (o : Ordering) → is_lt o ≡ true → o ≡ Less
is_less Less e = refl
is_less Equal e = absurd (cc)
is_less Greater e = absurd (cc)

-- of two packages that differ, where the one does not come first, the other does
other_first : (a b : ActiveValue) → is_package_before b a ≡ false → a.name.package_name ≢ b.name.package_name → package_cmp a b ≡ Less
other_first a b e apart = by (package_cmp b a) refl
  where
    by : (o : Ordering) → package_cmp b a ≡ o → package_cmp a b ≡ Less
    by Less is = absurd (let no : true ≡ false = rw is at e in cc)
    by Equal is = absurd (apart (sym ((bytes_decides b.name.package_name a.name.package_name).0 (sym (is_eq-slice_cmp b.name.package_name a.name.package_name) ∙ ap is_eq is))))
    by Greater is = by_packages.antisymm a b ∙ ap ordering_reverse is

below_all : (a b : ActiveValue) (actives : List ActiveValue) → package_cmp a b ≡ Less → AllByRecursion (λ c. package_cmp b c ≡ Less) actives
    → AllByRecursion (λ c. package_cmp a c ≡ Less) actives
below_all a b [] below all = tt
below_all a b (c ∷ actives) below all = (by_packages.trans a b c below all.0, below_all a b actives below all.1)

insert_ordered : (a : ActiveValue) (actives : List ActiveValue) → Ordered actives → IsApart a actives → Ordered (insert_active a actives)
unfolding IsStrictlySortedBy
insert_ordered a [] up apart = (tt, tt)
insert_ordered a (b ∷ actives) up apart = elim (cases_Bool (is_package_before b a)) [
  | inl e ↦ rw e (put_in (λ c. package_cmp b c ≡ Less) a actives (is_less (package_cmp b a) e) up.0, insert_ordered a actives up.1 apart.1)
  | inr e ↦ rw e (let first = other_first a b e apart.0 in ((first, below_all a b actives first up.0), up))
]

-- each release in a list stays apart when one that is apart is inserted
still_apart : (a : ActiveValue) (others actives : List ActiveValue) → AllByRecursion (λ b. IsApart b others) actives → IsApart a actives
    → AllByRecursion (λ b. IsApart b (insert_active a others)) actives
still_apart a others [] each apart = tt
still_apart a others (b ∷ actives) each apart =
    (put_in (λ c. b.name.package_name ≢ c.name.package_name) a others (λ e. apart.0 (sym e)) each.0, still_apart a others actives each.1 apart.1)

all_ordered : (others actives : List ActiveValue) → Ordered others → AllByRecursion (λ b. IsApart b others) actives → AreApart actives → Ordered (inserted others actives)
all_ordered others [] up each apart = up
all_ordered others (a ∷ actives) up each apart =
    all_ordered (insert_active a others) actives (insert_ordered a others up each.0) (still_apart a others actives each.1 apart.0) apart.1

none_there : (actives : List ActiveValue) → AllByRecursion (λ b. IsApart b []) actives
none_there [] = tt
none_there (a ∷ actives) = (tt, none_there actives)

ordered_none : Ordered []
unfolding IsStrictlySortedBy
ordered_none = tt

-- ---- the packages of active releases

apart_names : (rs : List ReleaseValue) (i j : ℕ) (d : ReleaseValue) → IsDistinct name_eq (names (content_of rs)) → i < j → j < length rs
    → name_eq (get_or rs i d).kept.name (get_or rs j d).kept.name ≡ false
apart_names [] i j d apart lt within = absurd (omega arith)
apart_names (r ∷ rs) i zero d apart lt within = absurd (omega arith)
apart_names (r ∷ rs) zero (suc j) d apart lt within = apart_at r.kept.name rs j d (IsDistinct-head name_eq r.kept.name (names (content_of rs)) apart) (omega arith)
apart_names (r ∷ rs) (suc i) (suc j) d apart lt within = apart_names rs i j d (IsDistinct-tail name_eq r.kept.name (names (content_of rs)) apart) (omega arith) (omega arith)

-- two active releases have two packages
apart_packages : {most : ℕ} (rs : List ReleaseValue) (h : History) → IsContentWithin most (content_of rs) h → AreKnown rs → (i j : ℕ) (d : ReleaseValue) (a b : HoldingsValue) → i < j → j < length rs
    → (get_or rs i d).holdings ≡ Some a → (get_or rs j d).holdings ≡ Some b → (get_or rs i d).kept.name.package_name ≢ (get_or rs j d).kept.name.package_name
apart_packages rs h is known i j d a b lt within held kept same =
    let r : ReleaseValue = get_or rs i d in
    let s : ReleaseValue = get_or rs j d in
    let one = holds r.kept.state r.kept.size r.kept.parts r.holdings a (known i d (omega arith)) held in
    let other = holds s.kept.state s.kept.size s.kept.parts s.holdings b (known j d within) kept in
    let first = reports_at rs h r.kept.name.package_name i d is (omega arith) (one.0, refl) in
    let second = reports_at rs h s.kept.name.package_name j d is within (other.0, refl) in
    let alike : r.kept.name ≡ s.kept.name = active_one h r.kept.name s.kept.name same first.1 second.1 in
    let apart : name_eq r.kept.name s.kept.name ≡ false = apart_names rs i j d is.distinct lt within in
    let itself : name_eq r.kept.name s.kept.name ≡ true = subst (λ (n : Name). name_eq r.kept.name n ≡ true) alike (name_self r.kept.name) in
    absurd (let no : true ≡ false = sym itself ∙ apart in cc)

apart_collected : (rs : List ReleaseValue)
    → ((i j : ℕ) (d : ReleaseValue) (a b : HoldingsValue) → i < j → j < length rs → (get_or rs i d).holdings ≡ Some a → (get_or rs j d).holdings ≡ Some b
    → (get_or rs i d).kept.name.package_name ≢ (get_or rs j d).kept.name.package_name)
    → AreApart (filter_map active_of rs)
apart_collected [] apart = tt
apart_collected (r ∷ rs) apart = by r.holdings refl (apart_collected rs (λ i j d a b lt within. apart (suc i) (suc j) d a b (omega arith) (omega arith)))
  where
    by : (o : Option HoldingsValue) → r.holdings ≡ o → AreApart (filter_map active_of rs) → AreApart (filter_map active_of (r ∷ rs))
    by None e rest = rw e rest
    by (Some holdings) e rest = rw e
        (collected (λ b. r.kept.name.package_name ≢ b.name.package_name) rs (λ j d b within held. apart 0 (suc j) d holdings b (omega arith) (omega arith) e held), rest)

-- ---- each that is reported

among_insert : (n : Name) (a : ActiveValue) (actives : List ActiveValue) → (a.name ≡ n) ⊎ IsAmong n actives → IsAmong n (insert_active a actives)
among_insert n a [] is = is
among_insert n a (b ∷ actives) is = elim (cases_Bool (is_package_before b a)) [
  | inl e ↦ rw e (elim is [
    | inl same ↦ inr (among_insert n a actives (inl same))
    | inr among ↦ elim among [
      | inl same ↦ inl same
      | inr later ↦ inr (among_insert n a actives (inr later))
    ]
  ])
  | inr e ↦ rw e is
]

among_all : (n : Name) (others actives : List ActiveValue) → IsAmong n others ⊎ IsAmong n actives → IsAmong n (inserted others actives)
among_all n others [] (inl among) = among
among_all n others [] (inr none) = absurd none
among_all n others (a ∷ actives) (inl among) = among_all n (insert_active a others) actives (inl (among_insert n a others (inr among)))
among_all n others (a ∷ actives) (inr (inl same)) = among_all n (insert_active a others) actives (inl (among_insert n a others (inl same)))
among_all n others (a ∷ actives) (inr (inr later)) = among_all n (insert_active a others) actives (inr later)

among_collected : (rs : List ReleaseValue) (k : ℕ) (d : ReleaseValue) (holdings : HoldingsValue) → k < length rs → (get_or rs k d).holdings ≡ Some holdings
    → IsAmong (get_or rs k d).kept.name (filter_map active_of rs)
among_collected [] k d holdings lt held = absurd (omega arith)
among_collected (r ∷ rs) zero d holdings lt held = rw held (inl refl)
among_collected (r ∷ rs) (suc k) d holdings lt held = by r.holdings refl (among_collected rs k d holdings (omega arith) held)
  where
    by : (o : Option HoldingsValue) → r.holdings ≡ o → IsAmong (get_or rs k d).kept.name (filter_map active_of rs) → IsAmong (get_or rs k d).kept.name (filter_map active_of (r ∷ rs))
    by None e rest = rw e rest
    by (Some other) e rest = rw e (inr rest)

-- an active release has holdings
held_by : (s : State) (size : ℕ) (parts : List Part) (o : Option HoldingsValue) → IsKnown s size parts o → s ≡ Active → (holdings : HoldingsValue) × (o ≡ Some holdings)
held_by Staged size parts o known e = absurd (cc)
held_by Broken size parts o known e = absurd (cc)
held_by Active size parts o known e = (holdings_of known.0, known.3)

among_reported : {most : ℕ} (rs : List ReleaseValue) (h : History) (n : Name) → IsContentWithin most (content_of rs) h → AreKnown rs → Reports h n.package_name (Some n) → IsAmong n (actives_of rs)
among_reported [] h n is known reported =
    let found = record_good [] h is n reported.1.0 (not_passed_active h n reported.1) in
    absurd (let none : None ≡ Some found.0 = found.1 in cc)
among_reported (r ∷ rs) h n is known reported =
    let all : List ReleaseValue = r ∷ rs in
    let found = record_good (content_of all) h is n reported.1.0 (not_passed_active h n reported.1) in
    let at = place_of all n found.0 found.1 in
    let release : ReleaseValue = get_or all at.0 r in
    let kept : release.kept ≡ found.0 = at.2 r in
    let active : release.kept.state ≡ Active = ap (λ (x : Record). x.state) kept ∙ found.2 in
    let held = held_by release.kept.state release.kept.size release.kept.parts release.holdings (known at.0 r at.1) active in
    let named : release.kept.name ≡ n = ap (λ (x : Record). x.name) kept ∙ name-record_of (content_of all) n found.0 found.1 in
    subst (λ (m : Name). IsAmong m (actives_of all)) named (among_all release.kept.name [] (filter_map active_of all) (inr (among_collected all at.0 r held.0 at.1 held.1)))

place_among : (n : Name) (actives : List ActiveValue) → IsAmong n actives → HasActive actives n
place_among n [] none = absurd none
place_among n (a ∷ actives) (inl same) = (0, omega arith, λ d. same)
place_among n (a ∷ actives) (inr among) = let place = place_among n actives among in (suc place.0, (let lt = place.1 in omega arith), place.2)

among_place : (n : Name) (actives : List ActiveValue) (k : ℕ) → k < length actives → ((d : ActiveValue) → (get_or actives k d).name ≡ n) → IsAmong n actives
among_place n [] k lt is = absurd (omega arith)
among_place n (a ∷ actives) zero lt is = inl (is a)
among_place n (a ∷ actives) (suc k) lt is = inr (among_place n actives k (omega arith) is)

pub reported : {most : ℕ} (rs : List ReleaseValue) (h : History) → IsContentWithin most (content_of rs) h → AreKnown rs → AreReported h (actives_of rs)
reported rs h is known = record {
  each = each_reported rs h is known;
  every = λ package_name n reports. place_among n (actives_of rs) (among_reported rs h n is known (refl, reports.1));
  by_package =
      all_ordered [] (filter_map active_of rs) ordered_none (none_there (filter_map active_of rs)) (apart_collected rs (apart_packages rs h is known));
}

-- ---- one list

below_among : (a : ActiveValue) (n : Name) (holdings : HoldingsValue) (actives : List ActiveValue) → AllByRecursion (λ b. package_cmp a b ≡ Less) actives → IsAmong n actives
    → package_cmp a (record { name = n; holdings = holdings }) ≡ Less
below_among a n holdings [] all none = absurd none
below_among a n holdings (b ∷ actives) all (inl same) = subst (λ (m : Name). package_cmp a (record { name = m; holdings = holdings }) ≡ Less) same all.0
below_among a n holdings (b ∷ actives) all (inr among) = below_among a n holdings actives all.1 among

-- a name of the one list is behind its first, so in the other it is too
behind : (a b : ActiveValue) (actives others : List ActiveValue) (n : Name) → AllByRecursion (λ c. package_cmp a c ≡ Less) actives → a.name ≡ b.name → IsAmong n actives
    → (b.name ≡ n) ⊎ IsAmong n others → IsAmong n others
behind a b actives others n all same among (inl is) =
    absurd (not_itself a (below_among a a.name a.holdings actives all (subst (λ (m : Name). IsAmong m actives) (sym (same ∙ is)) among)))
behind a b actives others n all same among (inr later) = later

pub one_list : (actives others : List ActiveValue) → Ordered actives → Ordered others → ((n : Name) → IsAmong n actives → IsAmong n others) → ((n : Name) → IsAmong n others → IsAmong n actives)
    → names_of actives ≡ names_of others
unfolding IsStrictlySortedBy
one_list [] [] up also there back = refl
one_list [] (b ∷ others) up also there back = absurd (back b.name (inl refl))
one_list (a ∷ actives) [] up also there back = absurd (there a.name (inl refl))
one_list (a ∷ actives) (b ∷ others) up also there back =
    let first : a.name ≡ b.name = elim (there a.name (inl refl)) [
      | inl same ↦ sym same
      | inr later ↦ elim (back b.name (inl refl)) [
        | inl same ↦ same
        | inr behind ↦ absurd (not_itself a (by_packages.trans a b a (below_among a b.name b.holdings actives up.0 behind) (below_among b a.name a.holdings others also.0 later)))
      ]
    ] in
    ap₂ (λ (n : Name) (ns : List Name). n ∷ ns) first
    (one_list actives others up.1 also.1
    (λ n among. behind a b actives others n up.0 first among (there n (inr among)))
    (λ n among. behind b a others actives n also.0 (sym first) among (back n (inr among))))

-- each release of the one list is reported at the other history, and so in the other list
in_other : (h k : History) (actives others : List ActiveValue) → ((package_name : List ℕ) (o : Option Name) → Reports h package_name o → Reports k package_name o) → AreReported h actives
    → AreReported k others
    → (n : Name) → IsAmong n actives → IsAmong n others
in_other h k actives others alike here there n among =
    let place = place_among n actives among in
    by actives place.0 place.1 place.2 here.each
  where
    by : (list : List ActiveValue) (i : ℕ) → i < length list → ((d : ActiveValue) → (get_or list i d).name ≡ n) → All (IsReported h) list → IsAmong n others
    by [] i lt is each = absurd (omega arith)
    by (a ∷ list) i lt is each =
        let told = (each i a lt).reports in
        let at = there.every n.package_name n (alike n.package_name (Some n) (subst (λ (m : Name). Reports h m.package_name (Some m)) (is a) told)) in
        among_place n others at.0 at.1 at.2

pub listed_alike : (h k : History) (one other : List ActiveValue) → ReportAlike h k → AreReported h one → AreReported k other → names_of one ≡ names_of other
listed_alike h k one other alike here there = one_list one other here.by_package there.by_package
    (in_other h k one other (λ package_name o. (alike package_name o).0) here there) (in_other k h other one (λ package_name o. (alike package_name o).1) there here)
