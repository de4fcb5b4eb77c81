-- Records that a later active one of their package has replaced.
use Rattle.std.specs.Prelude.{◌&&◌, Bool, true, false, not, List, filter}
use Rattle.std.specs.List.{list_any}
use Rattle.std.specs.List.Sorted.{IsSortedBy}
use Rattle.std.specs.declared.cmp.Ordering.{Ordering}
use Rattle.std.specs.Ordering.{int_cmp, is_lt, nat_cmp, on, then_cmp}
use Rattle.std.specs.Cmp.Lexicographic.{slice_cmp}
use Rattle.std.specs.Borrow.{Bor}
use Rattle.feed_names.specs.ReleaseName.{Name}
use Rattle.feed_model.specs.declared.state.State.{State}
use Rattle.feed_model.specs.declared.state.State.TheVariants.{Staged, Broken, Active}
use Rattle.feed_model.specs.Content.{Record, Content}
use Rattle.feed_model.specs.Change.{is_earlier}

-- whether the state is that of an active release
abbrev pub is_active : State → Bool
is_active Staged = false
is_active Broken = false
is_active Active = true

-- whether the record is active, and of a later day of the name's package
abbrev pub retires : Name → Record → Bool
retires n r = is_active r.state && is_earlier n r.name

-- whether a record of the content retires the name
abbrev pub is_retired : Content → Name → Bool
is_retired c n = list_any (retires n) c

-- the content without the records that are retired
abbrev pub current : Content → Content
current c = filter (λ r. not (is_retired c r.name)) c

-- compares names by their packages, and those of one package by their days
abbrev pub day_cmp : Name → Name → Ordering
day_cmp = then_cmp (on (λ n. n.package_name) (slice_cmp nat_cmp)) (on (λ n. n.day) int_cmp)

-- the names are in the order of their packages and days
abbrev pub AreInDayOrder : List (Bor Name) → Type 0
AreInDayOrder ns = IsSortedBy (λ m n. is_lt (day_cmp m.now n.now)) ns
