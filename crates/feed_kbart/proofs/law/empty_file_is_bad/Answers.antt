use Rattle.std.proofs.Common.{[], refl}
use Rattle.std.proofs.lemmas.Str.{IsUtf8-nil, is_utf8-from_IsUtf8}
use Rattle.feed_kbart.specs.Files.{bad_of}
use Rattle.feed_kbart.proofs.law.empty_file_is_bad.Goals as goal

pub returns : goal.returns
unfolding bad_of
returns c = rw (is_utf8-from_IsUtf8 [] IsUtf8-nil) refl
