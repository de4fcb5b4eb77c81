-- A library has a day that is asked for and covered, if its days share one with each.
use Rattle.std.proofs.Common.{◌≡◌, ◌∙◌, ℕ, ℤ, ◌≤ℤ◌, int_le, Bool, true, false, cond, List, [], ◌∷◌, Option, Some, None, ap, refl, arith}
use Rattle.std.specs.Prelude.{◌&&◌, ◌||◌, int_lt, is_some, not, option_map, unwrap_or}
use Rattle.std.specs.List.{find}
use Rattle.std.specs.Str.{bytes_eq}
use Rattle.std.specs.Cmp.Lexicographic.{bytes_decides}
use Rattle.std.proofs.lemmas.Int.{ints}
use Rattle.feed_dates.specs.declared.day_range.DayRange.{DayRange}
use Rattle.node_site.specs.Site.{HoldingValue, SiteValue, TitleValue}
use Rattle.node_site.specs.Valid.{is_forward}
use Rattle.node_site.specs.HoldingsFiles.{has_bytes, rows_of}
use Rattle.node_site.specs.Held.{has_asked, has_days, holding_at, holding_beside, holding_of_title, is_on_listed, is_on_title, is_title, library_has, listed_package, listed_title}
use Rattle.node_site.specs.Held.{shares_day, title_holding, unlisted}
use Rattle.node_site.proofs.HoldingsRead.{no_rows}
use Rattle.node_site.specs.HeldLaws.{AllIsHeld, AreDays, Begun, HeldDaysAreShown, IsHeldDay, IsWithin, Lasts, OffIsNotHeld, OffPackageIsNotHeld, UnlistedIsNotHeld}

both_true : (s t : Bool) → (s && t) ≡ true → (s ≡ true) × (t ≡ true)
both_true true t h = (refl, h)
both_true false t h = absurd (cc)

not_true : (b : Bool) → not b ≡ true → b ≡ false
not_true true h = absurd (cc)
not_true false h = refl

-- the later one of two days
abbrev latest : Option ℤ → ℤ → ℤ
latest None day = day
latest (Some first) day = cond (int_le first day) day first

begun_by_latest : (first : Option ℤ) (day : ℤ) → Begun first (latest first day)
begun_by_latest None day = tt
begun_by_latest (Some first) day = go (int_le first day) refl
  where
    go : (b : Bool) → int_le first day ≡ b → first ≤ℤ cond b day first
    go true test = omega (arith, ints, test)
    go false test = omega (arith, ints)

latest_is_later : (first : Option ℤ) (day : ℤ) → day ≤ℤ latest first day
latest_is_later None day = omega (arith, ints)
latest_is_later (Some first) day = go (int_le first day) refl
  where
    go : (b : Bool) → int_le first day ≡ b → day ≤ℤ cond b day first
    go true test = omega (arith, ints)
    go false test = omega (arith, ints, test)

begun_later : (first : Option ℤ) (day later : ℤ) → day ≤ℤ later → Begun first day → Begun first later
begun_later None day later le begun = tt
begun_later (Some first) day later le begun = omega (arith, ints, le, begun)

latest_lasts : (first last : Option ℤ) (day : ℤ) → is_forward first last ≡ true → Lasts last day → Lasts last (latest first day)
latest_lasts None last day test lasts = lasts
latest_lasts (Some first) None day test lasts = tt
latest_lasts (Some first) (Some last) day test lasts = go (int_le first day)
  where
    go : (b : Bool) → cond b day first ≤ℤ last
    go true = lasts
    go false = let less = not_true (int_lt last first) test in omega (arith, ints, less)

day_lasts : (day : ℤ) (last : Option ℤ) → is_forward (Some day) last ≡ true → Lasts last day
day_lasts day None test = tt
day_lasts day (Some last) test = let less = not_true (int_lt last day) test in omega (arith, ints, less)

-- days with a day between them are in order
forward_by : (first last : Option ℤ) (day : ℤ) → Begun first day → Lasts last day → is_forward first last ≡ true
forward_by None last day begun lasts = refl
forward_by (Some first) None day begun lasts = refl
forward_by (Some first) (Some last) day begun lasts = go (int_lt last first) refl
  where
    go : (b : Bool) → int_lt last first ≡ b → not b ≡ true
    go false test = refl
    go true test = absurd (omega (arith, ints, test, begun, lasts))

shared_by : (first last other_first other_last : Option ℤ) (day : ℤ) → IsWithin first last day → IsWithin other_first other_last day
    → shares_day first last other_first other_last ≡ true
shared_by first last other_first other_last day one other =
    rw (forward_by first other_last day one.begun other.lasts, forward_by other_first last day other.begun one.lasts) refl

-- the latest of the first days
held_day : (holding : HoldingValue) (first last : Option ℤ) (days : DayRange) → AreDays holding first last days
    → has_days holding first last (Some days) ≡ true → (holding.is_held ≡ true) × (day : ℤ) × IsHeldDay holding first last days day
held_day holding first last days are shown =
    let switched = both_true holding.is_held (shares_day holding.first holding.last first last && has_asked holding (Some days)) shown in
    let parts = both_true (shares_day holding.first holding.last first last) (has_asked holding (Some days)) switched.1 in
    let coverage = both_true (is_forward holding.first last) (is_forward first holding.last) parts.0 in
    let asking = both_true (is_forward holding.first (Some days.last)) (is_forward (Some days.first) holding.last) parts.1 in
    let shared = both_true (is_forward first (Some days.last)) (is_forward (Some days.first) last) are.shared in
    let early = latest first days.first in
    let day = latest holding.first early in
    let after = latest_is_later holding.first early in
    let until : (end : Option ℤ) → is_forward holding.first end ≡ true → is_forward first end ≡ true → is_forward (Some days.first) end ≡ true → Lasts end day =
    λ end one two three. latest_lasts holding.first end early one (latest_lasts first end days.first two (day_lasts days.first end three)) in (
      switched.0,
      day,
      record {
        held = record { begun = begun_by_latest holding.first early; lasts = until holding.last are.held coverage.1 asking.1 };
        covered = record { begun = begun_later first early day after (begun_by_latest first days.first); lasts = until last coverage.0 are.covered shared.1 };
        asked = record {
          begun = begun_later (Some days.first) early day after (latest_is_later first days.first);
          lasts = until (Some days.last) asking.0 shared.0 are.asked;
        };
      },
    )

day_held : (holding : HoldingValue) (first last : Option ℤ) (days : DayRange) (day : ℤ) → holding.is_held ≡ true → IsHeldDay holding first last days day
    → has_days holding first last (Some days) ≡ true
day_held holding first last days day on is =
    rw (
      on,
      shared_by holding.first holding.last first last day is.held is.covered,
      shared_by holding.first holding.last (Some days.first) (Some days.last) day is.held is.asked,
    ) refl

pub shown : HeldDaysAreShown
shown holding first last days are = (held_day holding first last days are, λ is. day_held holding first last days is.1 is.0 is.2)

pub off : OffIsNotHeld
unfolding library_has
off site package_id id first last asked is = rw is refl

-- ---- a package without a title that the library may have

neither : (a b : Bool) → (a || b) ≡ false → (a ≡ false) × (b ≡ false)
neither true b e = absurd (cc)
neither false b e = (refl, e)

-- no table switches a title on, so that of a title switches it off
title_off : (package_id id : List ℕ) (rules : List TitleValue) (rest : HoldingValue) → is_some (find (is_on_title package_id) rules) ≡ false → rest.is_held ≡ false
    → (unwrap_or (title_holding package_id id rules) rest).is_held ≡ false
title_off package_id id [] rest none off = off
title_off package_id id (rule ∷ rules) rest none off =
    go rule.holding.is_held (bytes_eq rule.package_id package_id) (bytes_eq rule.id id) refl none (title_off package_id id rules rest)
  where
    go : (held same title : Bool) → rule.holding.is_held ≡ held → is_some (cond (held && same) (Some rule) (find (is_on_title package_id) rules)) ≡ false
        → (is_some (find (is_on_title package_id) rules) ≡ false → rest.is_held ≡ false → (unwrap_or (title_holding package_id id rules) rest).is_held ≡ false)
        → (unwrap_or (option_map holding_of_title (cond (same && title) (Some rule) (find (is_title package_id id) rules))) rest).is_held ≡ false
    go true true title is some more = absurd (cc)
    go true false title is some more = more some off
    go false false title is some more = more some off
    go false true true is some more = is
    go false true false is some more = more some off

-- no row of the holdings file switches a title on either
listed_off : (package_id id : List ℕ) (rows : List TitleValue) (rest : HoldingValue) → has_bytes id ≡ true
    → is_some (find (is_on_listed package_id) rows) ≡ false → rest.is_held ≡ false
    → (unwrap_or (title_holding package_id id rows) rest).is_held ≡ false
listed_off package_id id [] rest named none off = off
listed_off package_id id (row ∷ rows) rest named none off =
    go row.holding.is_held (bytes_eq row.package_id package_id) (bytes_eq row.id id) (has_bytes row.id) refl
    (λ same. ap has_bytes ((bytes_decides row.id id).0 same) ∙ named) none (listed_off package_id id rows rest named)
  where
    go : (held same title is_named : Bool) → row.holding.is_held ≡ held → (title ≡ true → is_named ≡ true)
        → is_some (cond (is_named && (held && same)) (Some row) (find (is_on_listed package_id) rows)) ≡ false
        → (is_some (find (is_on_listed package_id) rows) ≡ false → rest.is_held ≡ false → (unwrap_or (title_holding package_id id rows) rest).is_held ≡ false)
        → (unwrap_or (option_map holding_of_title (cond (same && title) (Some row) (find (is_title package_id id) rows))) rest).is_held ≡ false
    go true true title true is has some more = absurd (cc)
    go true true true false is has some more = let never : false ≡ true = has refl in absurd (cc)
    go true true false false is has some more = more some off
    go true false title true is has some more = more some off
    go true false title false is has some more = more some off
    go false true true is_named is has some more = is
    go false true false true is has some more = more some off
    go false true false false is has some more = more some off
    go false false title true is has some more = more some off
    go false false title false is has some more = more some off

listed_title_off : (package_id id : List ℕ) (rows : List TitleValue) (rest : HoldingValue) → is_some (find (is_on_listed package_id) rows) ≡ false
    → rest.is_held ≡ false → (unwrap_or (listed_title package_id id rows) rest).is_held ≡ false
listed_title_off package_id [] rows rest none off = off
listed_title_off package_id (b ∷ id) rows rest none off = listed_off package_id (b ∷ id) rows rest refl none off

pub off_package : OffPackageIsNotHeld
unfolding library_has
off_package site package_id id first last asked is =
    let rows : List TitleValue = rows_of site.listing in
    let parts = neither (holding_beside site package_id).is_held (is_some (find (is_on_title package_id) site.titles) || is_some (find (is_on_listed package_id) rows)) is in
    let titles = neither (is_some (find (is_on_title package_id) site.titles)) (is_some (find (is_on_listed package_id) rows)) parts.1 in
    let beside : HoldingValue = unwrap_or (listed_title package_id id rows) (holding_beside site package_id) in
    let held : (holding_at site package_id id).is_held ≡ false =
    title_off package_id id site.titles beside titles.0 (listed_title_off package_id id rows (holding_beside site package_id) titles.1 parts.0) in
    rw held refl

open_days : (first last : Option ℤ) → shares_day None None first last ≡ true
open_days None None = refl
open_days None (Some last) = refl
open_days (Some first) last = refl

open_asked : (site : SiteValue) (asked : Option DayRange) → has_asked (unlisted site) asked ≡ true
open_asked site None = refl
open_asked site (Some days) = refl

nothing_listed : (package_id id : List ℕ) → listed_title package_id id (rows_of []) ≡ None
nothing_listed package_id [] = refl
nothing_listed package_id (b ∷ id) = rw no_rows refl

nothing_of_package : (package_id : List ℕ) → listed_package package_id (rows_of []) ≡ None
nothing_of_package package_id = rw no_rows refl

pub all_held : AllIsHeld
unfolding library_has
all_held site package_id id first last asked packages titles listed held =
    rw (packages, titles, listed, nothing_listed package_id id, nothing_of_package package_id, held, open_days first last, open_asked site asked) refl

pub unlisted_not_held : UnlistedIsNotHeld
unfolding library_has
unlisted_not_held site package_id id first last asked title row table whole held = rw (title, row, table, whole, held) refl
