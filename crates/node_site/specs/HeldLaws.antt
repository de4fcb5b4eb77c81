-- Laws of what a library has.
use Rattle.std.specs.Prelude.{◌≡◌, ◌↔◌, ℕ, ℤ, ◌≤ℤ◌, true, false, List, [], Option, Some, None}
use Rattle.feed_dates.specs.declared.day_range.DayRange.{DayRange}
use Rattle.node_site.specs.Site.{HoldingValue, SiteValue}
use Rattle.node_site.specs.Valid.{is_forward, is_holding}
use Rattle.node_site.specs.HoldingsFiles.{rows_of}
use Rattle.node_site.specs.Held.{has_days, holding_at, library_has, listed_package, listed_title, may_hold, package_holding, shares_day, title_holding}

-- a day is not before the first one, and not after the last one; a side without a day is open
abbrev pub Begun : Option ℤ → ℤ → Type 0
Begun None day = Unit {0}
Begun (Some first) day = first ≤ℤ day

abbrev pub Lasts : Option ℤ → ℤ → Type 0
Lasts None day = Unit {0}
Lasts (Some last) day = day ≤ℤ last

pub record IsWithin (first last : Option ℤ) (day : ℤ) : Type 0 where
  pub begun : Begun first day
  pub lasts : Lasts last day

-- a day that the library has, of the coverage from a first to a last day, and that is asked for
pub record IsHeldDay (holding : HoldingValue) (first last : Option ℤ) (days : DayRange) (day : ℤ) : Type 0 where
  pub held : IsWithin holding.first holding.last day
  pub covered : IsWithin first last day
  pub asked : IsWithin (Some days.first) (Some days.last) day

-- days in order: a query asks for some of the covered ones
pub record AreDays (holding : HoldingValue) (first last : Option ℤ) (days : DayRange) : Type 0 where
  pub held : is_holding holding ≡ true
  pub covered : is_forward first last ≡ true
  pub asked : is_forward (Some days.first) (Some days.last) ≡ true
  pub shared : shares_day first last (Some days.first) (Some days.last) ≡ true

-- where a query asks for covered days, the library has what is asked for exactly if it has the title, and on such a day
abbrev pub HeldDaysAreShown : Type 0
HeldDaysAreShown = (holding : HoldingValue) (first last : Option ℤ) (days : DayRange) → AreDays holding first last days
    → (has_days holding first last (Some days) ≡ true) ↔ ((holding.is_held ≡ true) × (day : ℤ) × IsHeldDay holding first last days day)

-- a library has nothing of a title that is switched off
abbrev pub OffIsNotHeld : Type 0
OffIsNotHeld = (site : SiteValue) (package_id id : List ℕ) (first last : Option ℤ) (asked : Option DayRange)
    → (holding_at site package_id id).is_held ≡ false → library_has site package_id id first last asked ≡ false

-- nor of a package without a title that it may have
abbrev pub OffPackageIsNotHeld : Type 0
OffPackageIsNotHeld = (site : SiteValue) (package_id id : List ℕ) (first last : Option ℤ) (asked : Option DayRange)
    → may_hold site package_id ≡ false → library_has site package_id id first last asked ≡ false

-- a site without packages and titles, whose default is not turned round, has everything
abbrev pub AllIsHeld : Type 0
AllIsHeld = (site : SiteValue) (package_id id : List ℕ) (first last : Option ℤ) (asked : Option DayRange)
    → site.packages ≡ [] → site.titles ≡ [] → site.listing ≡ [] → site.holds_unlisted ≡ true → library_has site package_id id first last asked ≡ true

-- a site with `held = false` as its default has nothing of what no table mentions
abbrev pub UnlistedIsNotHeld : Type 0
UnlistedIsNotHeld = (site : SiteValue) (package_id id : List ℕ) (first last : Option ℤ) (asked : Option DayRange)
    → title_holding package_id id site.titles ≡ None → listed_title package_id id (rows_of site.listing) ≡ None → package_holding package_id site.packages ≡ None
    → listed_package package_id (rows_of site.listing) ≡ None → site.holds_unlisted ≡ false → library_has site package_id id first last asked ≡ false
