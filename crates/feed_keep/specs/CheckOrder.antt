-- Lists that ascend.
use Rattle.std.specs.Prelude.{List}
use Rattle.std.specs.List.Sorted.{IsStrictlySortedBy}
use Rattle.std.specs.Ordering.{nat_cmp, on}
use Rattle.std.specs.Cmp.Lexicographic.{slice_cmp}
use Rattle.feed_names.specs.ReleaseName.{Name, text_of}
use Rattle.feed_model.specs.Content.{Part}

-- the text of each name is less than those of the names behind it
abbrev pub AreNamesAscending : List Name → Type 0
AreNamesAscending = IsStrictlySortedBy (on text_of (slice_cmp nat_cmp))

-- each part begins before those behind it
abbrev pub ArePartsAscending : List Part → Type 0
ArePartsAscending = IsStrictlySortedBy (on (λ p. p.first) nat_cmp)
