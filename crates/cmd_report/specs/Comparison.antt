-- The comparison of two lists, and when it is right.
use Rattle.std.specs.Prelude.{◌≡◌, ◌≤◌, ◌++◌, ◌⊎◌, Bool, true, List, map}
use Rattle.std.specs.List.{All, count_by}
use Rattle.std.specs.List.Sorted.{IsNonDecreasingBy, IsPermutation}
use Rattle.feed_kbart.specs.RowValue.{RowValue, content}

-- a row of the old list, and the row of the new list that takes its place
pub record ChangeValue : Type 0 where
  pub old : RowValue
  pub new : RowValue

-- the rows that a new list removes, changes and adds
pub record ComparisonValue : Type 0 where
  pub removed : List RowValue
  pub changed : List ChangeValue
  pub added : List RowValue

-- the rows of the old list, and those of the new list that take their places
abbrev pub olds : List ChangeValue → List RowValue
olds changes = map (λ change. change.old) changes

abbrev pub news : List ChangeValue → List RowValue
news changes = map (λ change. change.new) changes

-- the rows of the old list that a comparison mentions, and those of the new list
abbrev pub mentioned_old : ComparisonValue → List RowValue
mentioned_old c = c.removed ++ olds c.changed

abbrev pub mentioned_new : ComparisonValue → List RowValue
mentioned_new c = c.added ++ news c.changed

-- rows with one title id and the same identifiers
abbrev pub HasSameTitle : RowValue → RowValue → Type 0
HasSameTitle one other = (one.title_id ≡ other.title_id) × (one.identifiers ≡ other.identifiers)

-- rows with one URL and the same identifiers
abbrev pub HasSameUrl : RowValue → RowValue → Type 0
HasSameUrl one other = (one.url ≡ other.url) × (one.identifiers ≡ other.identifiers)

-- at most one of some rows has a row's title id and identifiers: a test that only such rows pass, at most one passes
abbrev pub IsOnlyTitle : RowValue → List RowValue → Type 0
IsOnlyTitle row rows = (test : RowValue → Bool) → ((other : RowValue) → test other ≡ true → HasSameTitle row other) → count_by test rows ≤ 1

-- two rows have one title id and the same identifiers, and no other rows do that a comparison mentions
abbrev pub IsTitlePair : ComparisonValue → RowValue → RowValue → Type 0
IsTitlePair c old new = HasSameTitle old new × IsOnlyTitle old (mentioned_old c) × IsOnlyTitle new (mentioned_new c)

-- a comparison of an old list with a new one; `same` are the rows that it does not mention, in pairs
pub record IsComparison (old new : List RowValue) (c : ComparisonValue) : Type 0 where
  pub same : List ChangeValue
  pub old_rows : IsPermutation old (mentioned_old c ++ olds same)
  pub new_rows : IsPermutation new (mentioned_new c ++ news same)
  pub equal : All (λ change. content change.old ≡ content change.new) same
  pub apart : All (λ one. All (λ other. content one ≡ content other → ⊥) (mentioned_new c)) (mentioned_old c)
  pub paired : All (λ change. IsTitlePair c change.old change.new ⊎ HasSameUrl change.old change.new) c.changed
  pub unpaired : All (λ one. All (λ other. (HasSameUrl one other → ⊥) × (IsTitlePair c one other → ⊥)) c.added) c.removed
  pub removed_order : IsNonDecreasingBy (λ row. row.number) c.removed
  pub changed_order : IsNonDecreasingBy (λ change. change.old.number) c.changed
  pub added_order : IsNonDecreasingBy (λ row. row.number) c.added
