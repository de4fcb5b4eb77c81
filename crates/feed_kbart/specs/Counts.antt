-- The records that are skipped for a reason.
use Rattle.std.specs.Prelude.{ℕ, Bool, ◌==◌}
use Rattle.feed_kbart.specs.declared.fault.Reason.{Reason}
use Rattle.feed_kbart.specs.declared.fault.Reason.TheVariants.{OtherType, NoIssn, NoIsbn, BadDate, Reversed}
use Rattle.feed_kbart.specs.declared.holdings.Aside.{Aside}

-- the place of a reason in the order of the checks
abbrev pub place_of : Reason → ℕ
place_of OtherType = 1
place_of NoIssn = 2
place_of NoIsbn = 3
place_of BadDate = 4
place_of Reversed = 5

-- a record is skipped for this reason
abbrev pub is_for : Reason → Aside → Bool
is_for reason aside = place_of aside.reason == place_of reason
