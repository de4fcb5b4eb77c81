-- All proofs that two contents are equal are equal, so equality follows from a truncated premise.
use Rattle.std.specs.Coded.{coded_option, coded_ℕ, coded_ℤ}
use base.Stored.{Coded-set}
use mathlib.Core.List.{is_set}
use Rattle.feed_kbart.specs.contracts.fault.BadFile as reason_row
use Rattle.feed_model.specs.contracts.state.State as state_row
use Rattle.feed_model.specs.Content.{Content}

pub content_set : IsSet Content
content_set = hlevel (is_set, Coded-set coded_ℕ, Coded-set coded_ℤ, Coded-set state_row.the_row.coded, Coded-set (coded_option reason_row.the_row.coded))
