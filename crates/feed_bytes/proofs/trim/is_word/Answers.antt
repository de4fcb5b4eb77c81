use Rattle.std.proofs.Common.{◌∙◌, ap, eqb, inl, inr, sym}
use Rattle.std.specs.Int.{to_le_bytes, w64}
use Rattle.std.proofs.lemmas.Bool.{cases_Bool, eqb-true}
use Rattle.std.proofs.lemmas.Nat.{le_bytes_8}
use Rattle.feed_bytes.proofs.trim.is_word.Goals as goal

pub returns : goal.returns
returns c =
    let word = c.from_le_bytes.result in
    elim (cases_Bool (eqb word c.args.word)) [
      | inl y ↦ rw y (sym (le_bytes_8 c.args.bytes.now word c.told-bytes c.fits-bytes c.from_le_bytes.ensures) ∙ ap (to_le_bytes w64) (eqb-true word c.args.word y))
      | inr n ↦ rw n tt
    ]
