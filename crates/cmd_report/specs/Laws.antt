-- The laws of comparisons.
use Rattle.std.specs.Prelude.{◌≡◌, ◌+◌, ℕ, Bool, true, List}
use Rattle.std.specs.List.{count_by}
use Rattle.feed_kbart.specs.RowValue.{RowValue, content}
use Rattle.feed_kbart.specs.declared.label.Label.{Label}
use Rattle.cmd_report.specs.Columns.{is_same}
use Rattle.cmd_report.specs.Comparison.{ComparisonValue, IsComparison, mentioned_new, mentioned_old}

-- how many rows have columns that pass a test
abbrev pub count : (RowValue → Bool) → List RowValue → ℕ
count test rows = count_by (λ row. test (content row)) rows

-- the old list without the rows mentioned of it, and with those mentioned of the new list, is the new list
abbrev pub CountsAddUp : Type 0
CountsAddUp =
    (old new : List RowValue) (c : ComparisonValue) (test : RowValue → Bool) → IsComparison old new c
    → count test old + count test (mentioned_new c) ≡ count test new + count test (mentioned_old c)

-- two rows are equal exactly if they have the same value in each column
abbrev pub ChangesHaveAColumn : Type 0
ChangesHaveAColumn =
    (one other : RowValue)
    → (((label : Label) → is_same label one other ≡ true) → content one ≡ content other)
    × (content one ≡ content other → (label : Label) → is_same label one other ≡ true)
