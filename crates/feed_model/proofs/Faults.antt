-- All that is known here of the judgement of a file.
use Rattle.std.proofs.Common.{◌≡◌, ◌≢◌, [], Some, None, refl}
use Rattle.std.proofs.lemmas.Str.{IsUtf8-nil, is_utf8-from_IsUtf8}
use Rattle.feed_kbart.specs.Files.{bad_of}
use Rattle.feed_kbart.specs.declared.fault.BadFile.TheVariants.{NoHeader}
use Rattle.feed_model.specs.File.{fault_of}

-- a file without bytes has no header
pub fault_of-empty : fault_of [] ≡ Some NoHeader
unfolding fault_of bad_of
fault_of-empty = rw (is_utf8-from_IsUtf8 [] IsUtf8-nil) refl

pub empty_bad : fault_of [] ≢ None
empty_bad e = cc fault_of-empty
