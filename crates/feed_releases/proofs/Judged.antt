-- The reader's result for a file, as the feed reads it.
use Rattle.std.proofs.Common.{◌≡◌, ◌<◌, ◌≤◌, List, [], ◌∷◌, ℕ, zero, suc, Option, Some, None}
use Rattle.std.proofs.Common.{IsSome, Result, Ok, Err, length, slice_get, refl, sym, ◌∙◌, ap, subst, arith}
use Rattle.feed_names.specs.ReleaseName.{Name}
use Rattle.feed_kbart.specs.HoldingsValue.{HoldingsValue}
use Rattle.feed_kbart.specs.Files.{IsReadOf}
use Rattle.feed_kbart.specs.declared.fault.BadFile.{BadFile}
use Rattle.feed_kbart.specs.declared.fault.KbartFault.{KbartFault}
use Rattle.feed_kbart.specs.declared.fault.KbartFault.TheVariants as faults
use Rattle.feed_model.specs.declared.state.State.{State}
use Rattle.feed_model.specs.declared.state.State.TheVariants.{Staged, Broken, Active}
use Rattle.feed_model.specs.File.{fault_of}
use Rattle.feed_model.specs.Reply.{max_file, missing_below}
use Rattle.feed_model.specs.Content.{Part, Record, byte_in, IsText}
use Rattle.feed_model.specs.Sound.{IsStateOf, Explains, IsSoundRecord}
use Rattle.feed_model.specs.Parts.{AreWithin}
use Rattle.feed_model.proofs.Keeps.{none_missing}
use Rattle.feed_keep.proofs.BadFile.{fault_is, one_text}
use Rattle.feed_releases.specs.declared.standing.Standing.{Standing}
use Rattle.feed_releases.specs.declared.standing.Standing.TheVariants.{Partial, Bad, Good}
use Rattle.feed_releases.specs.Judged.{IsJudged}
use Rattle.feed_releases.specs.Standing.{IsStandingOf, state_of, reason_of, rows_of}
use Rattle.feed_releases.specs.ReleaseValue.{IsKnown, record_with}

pub judged : (size : ℕ) (parts : List Part) (text : List ℕ) (outcome : Result HoldingsValue KbartFault) → IsText size parts text → IsReadOf text outcome → IsJudged size parts outcome
judged size parts text (Ok holdings) is read = (text, is, fault_is text ∙ read.1, read.2)
judged size parts text (Err (faults.Bad why)) is read = (text, is, fault_is text ∙ read.1)
judged size parts text (Err faults.Memory) is read = tt
judged size parts text (Err faults.Read) is read = tt
judged size parts text (Err faults.TooLong) is read = tt

get_some : (xs : List ℕ) (i : ℕ) → i < length xs → IsSome (slice_get xs i)
get_some [] i lt = absurd (omega arith)
get_some (x ∷ xs) zero lt = refl
get_some (x ∷ xs) (suc i) lt = get_some xs i (omega arith)

-- a text has every place
text_whole : (size : ℕ) (parts : List Part) (text : List ℕ) → IsText size parts text → missing_below (byte_in parts) size ≡ 0
text_whole size parts text is = (none_missing (byte_in parts) size).1 (λ place lt. subst IsSome (sym (is.bytes place lt)) (get_some text place (omega (arith, is.count, lt))))

-- the status of a file matches the state and the reason of its release
pub stands_sound : (size : ℕ) (parts : List Part) (s : Standing) → IsStandingOf size parts (missing_below (byte_in parts) size) s
    → IsStateOf (state_of s) size parts × Explains (state_of s) size parts (reason_of s)
stands_sound size parts Partial so = (so, refl)
stands_sound size parts (Bad why) so = ((so.1.0, so.1.1, λ good. (let e = so.1.2 in cc)), (so.1.0, so.1.1, so.1.2))
stands_sound size parts (Good holdings) so = ((so.1.0, so.1.1, so.1.2), refl)

-- and no other state
pub state_stands : (size : ℕ) (parts : List Part) (s : Standing) (state : State) → IsStandingOf size parts (missing_below (byte_in parts) size) s → IsStateOf state size parts → state_of s ≡ state
state_stands size parts Partial Staged so bears = refl
state_stands size parts Partial Broken so bears = absurd (omega (arith, so, text_whole size parts bears.0 bears.1))
state_stands size parts Partial Active so bears = absurd (omega (arith, so, text_whole size parts bears.0 bears.1))
state_stands size parts (Bad why) Staged so bears = absurd (omega (arith, so.0, bears))
state_stands size parts (Bad why) Broken so bears = refl
state_stands size parts (Bad why) Active so bears = absurd (let e : fault_of bears.0 ≡ Some why = ap fault_of (one_text size parts bears.0 so.1.0 bears.1 so.1.1) ∙ so.1.2 in let f = bears.2 in cc)
state_stands size parts (Good holdings) Staged so bears = absurd (omega (arith, so.0, bears))
state_stands size parts (Good holdings) Broken so bears = absurd (bears.2 (ap fault_of (one_text size parts bears.0 so.1.0 bears.1 so.1.1) ∙ so.1.2))
state_stands size parts (Good holdings) Active so bears = refl

-- nor another reason
pub reason_stands : (size : ℕ) (parts : List Part) (s : Standing) (reason : Option BadFile) → IsStandingOf size parts (missing_below (byte_in parts) size) s
    → Explains (state_of s) size parts reason → reason_of s ≡ reason
reason_stands size parts Partial reason so explains = sym explains
reason_stands size parts (Bad why) reason so explains = sym so.1.2 ∙ ap fault_of (one_text size parts so.1.0 explains.0 so.1.1 explains.1) ∙ explains.2
reason_stands size parts (Good holdings) reason so explains = sym explains

-- the record with these parts
abbrev pub kept_as : Name → ℕ → State → Option BadFile → List Part → Record
kept_as name size state reason parts = record { name = name; size = size; state = state; reason = reason; parts = parts }

-- a sound record has the status that it claims
pub sound_stands : (name : Name) (size : ℕ) (state : State) (reason : Option BadFile) (parts ps : List Part) (s : Standing) → ps ≡ parts
    → IsStandingOf size ps (missing_below (byte_in ps) size) s → IsSoundRecord (kept_as name size state reason parts) → (state_of s ≡ state) × (reason_of s ≡ reason)
sound_stands name size state reason parts ps s same so sound =
    let here = subst (λ (x : List Part). IsStandingOf size x (missing_below (byte_in x) size) s) same so in
    let is = state_stands size parts s state here sound.state in
    (is, reason_stands size parts s reason here (subst (λ (x : State). Explains x size parts reason) (sym is) sound.reason))

-- a record that claims the status of its file is sound
pub stands_as : (name : Name) (size : ℕ) (state : State) (reason : Option BadFile) (parts ps : List Part) (s : Standing) → parts ≡ ps → state ≡ state_of s → reason ≡ reason_of s
    → AreWithin size ps → size ≤ max_file → IsStandingOf size ps (missing_below (byte_in ps) size) s
    → (record_with name size s ps ≡ kept_as name size state reason parts) × IsSoundRecord (kept_as name size state reason parts)
stands_as name size state reason parts ps s same is why within limit so =
    let sound = stands_sound size ps s so in
    rw (same, is, why) (refl, record { size = limit; parts = within.parts; inside = within.inside; state = sound.0; reason = sound.1 })

-- the holdings that a status implies
pub known_so : (size : ℕ) (parts : List Part) (missing : ℕ) (s : Standing) → IsStandingOf size parts missing s → IsKnown (state_of s) size parts (rows_of s)
known_so size parts missing Partial so = refl
known_so size parts missing (Bad why) so = (so.1.0, so.1.1, (λ good. let e = so.1.2 in cc), refl)
known_so size parts missing (Good holdings) so = (so.1.0, so.1.1, so.1.2, ap Some so.1.3)

-- where a place is missing the release is staged
pub staged_so : (size : ℕ) (parts : List Part) (missing : ℕ) (s : Standing) → IsStandingOf size parts missing s → 0 < missing → state_of s ≡ Staged
staged_so size parts missing Partial so some = refl
staged_so size parts missing (Bad why) so some = absurd (omega (arith, so.0, some))
staged_so size parts missing (Good holdings) so some = absurd (omega (arith, so.0, some))

-- a staged release has no reason
pub staged_plain : (s : Standing) → state_of s ≡ Staged → reason_of s ≡ None
staged_plain Partial is = refl
staged_plain (Bad why) is = absurd (cc)
staged_plain (Good holdings) is = refl
