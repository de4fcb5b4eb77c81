-- The bytes that a check of a list has received.
use Rattle.std.specs.Prelude.{ℕ, List}
use Rattle.feed_text.specs.Checks.{IsTextCheckOf}
use Rattle.feed_kbart.specs.IndexedStores.{AreStoredAndIndexed}
use Rattle.feed_kbart.specs.ListTexts.{IsTextOf}
use Rattle.feed_kbart.specs.declared.list_check.ListCheck.{ListCheck}

-- the check received this text: all of it was checked, and its records were added as far as they have arrived
pub record IsCheckOfList (text : List ℕ) (check : ListCheck) : Type 0 where
  pub checked : IsTextCheckOf text check.text
  pub list : IsTextOf AreStoredAndIndexed text check.list
