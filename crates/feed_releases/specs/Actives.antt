-- The active releases of a feed, ordered by package.
use Rattle.std.specs.Prelude.{◌≡◌, ◌↔◌, ◌<◌, ℕ, Bool, false, if◌then◌else◌, All, List, [], ◌∷◌, length, map, slice_index_or, option_map, Option, Some, None}
use Rattle.std.specs.List.{filter_map, AllByRecursion}
use Rattle.std.specs.List.Sorted.{IsStrictlySortedBy}
use Rattle.std.specs.declared.cmp.Ordering.{Ordering}
use Rattle.std.specs.Ordering.{is_lt, nat_cmp}
use Rattle.std.specs.Cmp.Lexicographic.{slice_cmp}
use Rattle.feed_names.specs.ReleaseName.{Name}
use Rattle.feed_kbart.specs.HoldingsValue.{HoldingsValue}
use Rattle.feed_kbart.specs.Files.{holdings_of}
use Rattle.feed_model.specs.History.{History, IsFile, Reports}
use Rattle.feed_releases.specs.ReleaseValue.{ReleaseValue, IsKnown}

-- an active release: its name, and its holdings
pub record ActiveValue : Type 0 where
  pub name : Name
  pub holdings : HoldingsValue

-- a release, if it is active; only then does it have holdings
abbrev pub active_of : ReleaseValue → Option ActiveValue
active_of release = option_map (λ holdings. record { name = release.kept.name; holdings = holdings }) release.holdings

-- compares the packages of two releases, by bytes
abbrev pub package_cmp : ActiveValue → ActiveValue → Ordering
package_cmp a b = slice_cmp nat_cmp a.name.package_name b.name.package_name

-- the package of the one is less than that of the other
abbrev pub is_package_before : ActiveValue → ActiveValue → Bool
is_package_before a b = is_lt (package_cmp a b)

-- no package is less than that of one in front of it
abbrev pub AreInOrder : List ActiveValue → Type 0
AreInOrder [] = Unit {0}
AreInOrder (a ∷ actives) = AllByRecursion (λ b. is_package_before b a ≡ false) actives × AreInOrder actives

-- inserts an active release among others, behind those whose packages are less than its own
abbrev pub insert_active : ActiveValue → List ActiveValue → List ActiveValue
insert_active a [] = a ∷ []
insert_active a (b ∷ others) = if is_package_before b a then b ∷ insert_active a others else a ∷ b ∷ others

-- inserts active releases among others, one after another
abbrev pub inserted : List ActiveValue → List ActiveValue → List ActiveValue
inserted others [] = others
inserted others (a ∷ actives) = inserted (insert_active a others) actives

-- the active releases among all, ordered by package
abbrev pub actives_of : List ReleaseValue → List ActiveValue
actives_of releases = inserted [] (filter_map active_of releases)

-- the holdings of a release agree with its file
abbrev pub IsKnownRelease : ReleaseValue → Type 0
IsKnownRelease r = IsKnown r.kept.state r.kept.size r.kept.parts r.holdings

-- the holdings of each release agree with its file
abbrev pub AreKnown : List ReleaseValue → Type 0
AreKnown releases = (k : ℕ) (d : ReleaseValue) → k < length releases → IsKnownRelease (slice_index_or releases k d)

-- the release is the active one of its package, and the holdings are those of its complete file
pub record IsReported (h : History) (active : ActiveValue) : Type 0 where
  pub reports : Reports h active.name.package_name (Some active.name)
  pub text : List ℕ
  pub file : IsFile h active.name text
  pub holdings : active.holdings ≡ holdings_of text

-- the active release of a package, with the holdings of its complete file; none if no release of it is complete and good
abbrev pub IsReportedFor : History → List ℕ → Option ActiveValue → Type 0
IsReportedFor h package_name None = Reports h package_name None
IsReportedFor h package_name (Some active) = IsReported h active × (active.name.package_name ≡ package_name)

-- one of the active releases has this name
abbrev pub HasActive : List ActiveValue → Name → Type 0
HasActive actives n = (k : ℕ) × (k < length actives) × ((d : ActiveValue) → (slice_index_or actives k d).name ≡ n)

-- the list has exactly the active releases of the history, each once, ordered by package
pub record AreReported (h : History) (actives : List ActiveValue) : Type 0 where
  pub each : All (IsReported h) actives
  pub every : (package_name : List ℕ) (n : Name) → Reports h package_name (Some n) → HasActive actives n
  pub by_package : IsStrictlySortedBy package_cmp actives

-- the names of active releases
abbrev pub names_of : List ActiveValue → List Name
names_of actives = map (λ active. active.name) actives

-- the two histories report the same release for each package
abbrev pub ReportAlike : History → History → Type 0
ReportAlike h k = (package_name : List ℕ) (o : Option Name) → Reports h package_name o ↔ Reports k package_name o

-- if two histories report the same releases, their lists are the same
abbrev pub ListAlike : Type 0
ListAlike = (h k : History) (one other : List ActiveValue) → ReportAlike h k → AreReported h one → AreReported k other → names_of one ≡ names_of other
