-- The reader's result for the file of a record.
use Rattle.std.proofs.Common.{◌≡◌, ℕ, List, Some, None, Ok, Err, refl, sym, ◌∙◌, ap, arith}
use Rattle.feed_kbart.specs.HoldingsValue.{HoldingsValue}
use Rattle.feed_kbart.specs.Files.{IsReadOf, bad_of}
use Rattle.feed_kbart.specs.declared.fault.BadFile.{BadFile}
use Rattle.feed_kbart.specs.declared.fault.KbartFault.TheVariants.{Bad, TooLong}
use Rattle.feed_model.specs.File.{fault_of}
use Rattle.feed_model.specs.Content.{Part, Record, IsText}
use Rattle.feed_model.proofs.Tests.{same_at}
use Rattle.feed_parts.specs.Segments.{IsFull}
use Rattle.feed_keep.specs.BadFile.{IsBadOf}

pub fault_is : (text : List ℕ) → fault_of text ≡ bad_of text
unfolding fault_of
fault_is text = refl

-- parts are one text
pub one_text : (size : ℕ) (parts : List Part) (x y : List ℕ) → IsText size parts x → IsText size parts y → x ≡ y
one_text size parts x y a b = same_at x y (a.count ∙ sym b.count) (λ place lt. sym (a.bytes place (omega (arith, a.count, lt))) ∙ b.bytes place (omega (arith, a.count, lt)))

pub good_file : (r : Record) (text : List ℕ) (holdings : HoldingsValue) → IsFull r.size r.parts → IsText r.size r.parts text → IsReadOf text (Ok holdings) → IsBadOf r None
good_file r text holdings full is read = λ has other same. ap fault_of (one_text r.size r.parts other text same is) ∙ fault_is text ∙ read.1

pub bad_file : (r : Record) (text : List ℕ) (why : BadFile) → IsFull r.size r.parts → IsText r.size r.parts text → IsReadOf text (Err (Bad why)) → IsBadOf r (Some why)
bad_file r text why full is read = (record { full = full; limit = omega (arith, is.count, read.0) }, text, is, fault_is text ∙ read.1)

pub long_file : (r : Record) (text : List ℕ) → IsText r.size r.parts text → IsReadOf text (Err TooLong) → IsBadOf r None
long_file r text is read = λ has other same. absurd (let limit = has.limit in let count = is.count in omega (arith, limit, count, read))

pub no_file : (r : Record) → (IsFull r.size r.parts → ⊥) → IsBadOf r None
no_file r lacks = λ has text is. absurd (lacks has.full)
