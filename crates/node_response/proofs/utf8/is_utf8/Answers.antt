use Rattle.std.proofs.Common.{inl, inr, sym}
use Rattle.std.specs.Str.{is_utf8}
use Rattle.std.proofs.lemmas.Bool.{cases_Bool}
use Rattle.std.proofs.lemmas.Str.{IsUtf8-from_is_utf8, is_utf8-from_IsUtf8}
use Rattle.node_response.proofs.utf8.is_utf8.Goals as goal

pub returns-in-Ok : goal.returns-in-Ok
returns-in-Ok c = sym (is_utf8-from_IsUtf8 c.args.text.now c.in-Ok.ensures.1)

pub returns-in-Err : goal.returns-in-Err
returns-in-Err c = elim (cases_Bool (is_utf8 c.args.text.now)) [
  | inl is ↦ absurd (c.in-Err.ensures (IsUtf8-from_is_utf8 c.args.text.now is))
  | inr not ↦ sym not
]
