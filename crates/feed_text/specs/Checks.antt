-- Checking a text that is read in pieces.
use Rattle.std.specs.Prelude.{◌≡◌, ℕ, ◌≤◌, ◌<◌, true, false, List, length, min, take, Option, Result, Ok, Err}
use Rattle.std.specs.Io.KnownBytes.{Consumes}
use Rattle.std.specs.Str.{is_utf8}
use Rattle.feed_limits.specs.Limits.{file_limit}
use Rattle.feed_text.specs.Records.{has_two_marks}
use Rattle.feed_text.specs.Utf8.{IsCheckOf}
use Rattle.feed_text.specs.declared.fault.TextFault.{TextFault}
use Rattle.feed_text.specs.declared.fault.TextFault.TheVariants.{NotUtf8, TwoMarks, Memory, Read, TooLong}
use Rattle.feed_text.specs.declared.text_check.TextCheck.{TextCheck}

-- the bytes are within the limit, are UTF-8 and begin with at most one byte-order mark
abbrev pub IsValidText : List ℕ → Type 0
IsValidText text = (length text ≤ file_limit) × (is_utf8 text ≡ true) × (has_two_marks text ≡ false)

-- what a fault says about the bytes of a reader; `Memory` and `Read` say nothing about them
abbrev pub IsTextFaultOf : List ℕ → TextFault → Type 0
IsTextFaultOf text NotUtf8 = (length text ≤ file_limit) × (is_utf8 text ≡ false)
IsTextFaultOf text TwoMarks = (length text ≤ file_limit) × (is_utf8 text ≡ true) × (has_two_marks text ≡ true)
IsTextFaultOf text TooLong = file_limit < length text
IsTextFaultOf text Memory = Unit {0}
IsTextFaultOf text Read = Unit {0}

-- what checking a text may return: success if it is valid, or a fault
abbrev pub IsCheckResult : List ℕ → Result (Unit {0}) TextFault → Type 0
IsCheckResult text (Ok done) = IsValidText text
IsCheckResult text (Err fault) = IsTextFaultOf text fault

-- how many bytes a check has seen
abbrev pub bytes_seen : TextCheck → ℕ
bytes_seen check = check.total

-- the state of the text checks after these bytes
pub record IsTextCheckOf (text : List ℕ) (check : TextCheck) : Type 0 where
  pub utf8 : IsCheckOf text check.utf8
  pub size : check.total ≡ length text
  pub front : take (min (length text) 6) check.front ≡ take 6 text

-- a reader has returned a text so far, and all of it was checked
pub record IsReadTo (given now : Option (List ℕ)) (check : TextCheck) : Type 0 where
  pub text : List ℕ
  pub read : Consumes given now text
  pub checked : IsTextCheckOf text check
