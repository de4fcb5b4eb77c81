use Rattle.std.proofs.Common.{◌≡◌, ◌++◌}
use Rattle.form_urlencoded.specs.Form.{byte_serialize}
use Rattle.form_urlencoded.specs.Serialize.{serialized_text}
use Rattle.feed_openurl.proofs.writing.push_text.Given as goal

-- the text so far, with the pieces that are left, is the whole text
abbrev pub invariant-loop-piece : goal.invariant-loop-piece
invariant-loop-piece l =
    l.out.items ++ serialized_text l.piece-iterator ≡ l.fn.out.items ++ byte_serialize l.text
