-- The reasons of files, and the numbers by which they are stored.
use Rattle.std.proofs.Common.{◌≡◌, ◌≢◌, ℕ, zero, suc, List, [], ◌∷◌, find, Bool, true, false, not, Option, Some, None, nat_le, if◌then◌else◌, is_none, refl, sym, ◌∙◌, ◌-◌, eqb, subst, arith}
use Rattle.std.proofs.lemmas.Bool.Decides.{nat_tests}
use Rattle.std.specs.List.{AllByRecursion, Contains}
use Rattle.feed_kbart.specs.Labels.{label_at, required_labels}
use Rattle.feed_text.specs.Records.{has_two_marks, records_of}
use Rattle.feed_kbart.specs.Columns.{column, bad_labels, first_missing, first_twice}
use Rattle.feed_kbart.specs.Files.{bad_of, bad_records}
use Rattle.feed_kbart.specs.declared.label.Label.{Label}
use Rattle.feed_kbart.specs.declared.label.Label.TheVariants.{TitleId, EmbargoInfo, CoverageDepth, PublicationType, AccessType}
use Rattle.feed_kbart.specs.declared.fault.BadFile.{BadFile}
use Rattle.feed_kbart.specs.declared.fault.BadFile.TheVariants.{NotUtf8, TwoMarks, NoHeader, MissingLabel, LabelTwice}
use Rattle.feed_model.specs.File.{fault_of}
use Rattle.feed_store_model.specs.Tables.{IsStored}
use Rattle.std.specs.Str.{is_utf8}

found_among : (p : Label → Bool) (xs : List Label) (x : Label) → find p xs ≡ Some x → Contains xs x
found_among p [] x e = absurd (cc)
found_among p (y ∷ ys) x e = by (p y) e (found_among p ys x)
  where
    by : (b : Bool) → (if b then Some y else find p ys) ≡ Some x → (find p ys ≡ Some x → Contains ys x) → Contains (y ∷ ys) x
    by true e more = (0, omega arith, (let same : y ≡ x = cc in same))
    by false e more = let it = more e in (suc it.0, omega (arith, it.1), it.2)

labels_missing : (o t : Option Label) (label : Label) → bad_labels o t ≡ Some (MissingLabel label) → o ≡ Some label
labels_missing (Some l) t label e = (let same : l ≡ label = cc in (let x : Some l ≡ Some label = cc in x))
labels_missing None (Some l) label e = absurd (cc)
labels_missing None None label e = absurd (cc)

records_missing : (rs : List (List (List ℕ))) (label : Label) → bad_records rs ≡ Some (MissingLabel label) → Contains required_labels label
records_missing [] label e = absurd (cc)
records_missing (header ∷ rs) label e = found_among (λ l. is_none (column l header)) required_labels label (labels_missing (first_missing header) (first_twice header) label e)

-- a label that is missing is a required one
missing_is_required : (text : List ℕ) (label : Label) → fault_of text ≡ Some (MissingLabel label) → Contains required_labels label
unfolding fault_of bad_of
missing_is_required text label e = by (is_utf8 text) (has_two_marks text) (records_of text) e
  where
    by : (a b : Bool) (rs : List (List (List ℕ))) → (if not a then Some NotUtf8 else if b then Some TwoMarks else bad_records rs) ≡ Some (MissingLabel label)
        → Contains required_labels label
    by false b rs e = absurd (cc)
    by true true rs e = absurd (cc)
    by true false rs e = records_missing rs label e

none_among : (xs : List Label) (l : Label) → AllByRecursion (λ x. x ≢ l) xs → Contains xs l → ⊥
none_among [] l all (k, lt, is) = omega (arith, lt)
none_among (x ∷ xs) l all (zero, lt, is) = all.0 is
none_among (x ∷ xs) l all (suc k, lt, is) = none_among xs l all.1 (k, omega (arith, lt), is)

late : (l : Label) → AllByRecursion (λ x. x ≢ l) required_labels → (label : Label) → Some l ≡ Some label → Contains required_labels label → ⊥
late l all label e has = none_among required_labels l all (let same : label ≡ l = cc in subst (Contains required_labels) same has)

-- after the last label there is none
beyond : (k : ℕ) → label_at (suc (suc (suc (suc (suc (suc (suc (suc (suc (suc (suc (suc (suc (suc k)))))))))))))) ≡ None
beyond k =
    let off : eqb (suc (suc (suc (suc (suc (suc (suc (suc (suc (suc (suc (suc (suc (suc k)))))))))))))) 0 ≡ false = grind (arith, nat_tests) in
    let before : (suc (suc (suc (suc (suc (suc (suc (suc (suc (suc (suc (suc (suc (suc k)))))))))))))) - 1
    ≡ (suc (suc (suc (suc (suc (suc (suc (suc (suc (suc (suc (suc (suc k))))))))))))) = omega arith in
    rw (off, before) refl

-- a required label is at one of the first eight places
pub required_early : (place : ℕ) (label : Label) → label_at place ≡ Some label → Contains required_labels label → nat_le place 8 ≡ true
required_early zero label at has = refl
required_early (suc zero) label at has = refl
required_early (suc (suc zero)) label at has = refl
required_early (suc (suc (suc zero))) label at has = refl
required_early (suc (suc (suc (suc zero)))) label at has = refl
required_early (suc (suc (suc (suc (suc zero))))) label at has = refl
required_early (suc (suc (suc (suc (suc (suc zero)))))) label at has = refl
required_early (suc (suc (suc (suc (suc (suc (suc zero))))))) label at has = refl
required_early (suc (suc (suc (suc (suc (suc (suc (suc zero)))))))) label at has = refl
required_early (suc (suc (suc (suc (suc (suc (suc (suc (suc zero))))))))) label at has =
    absurd (late TitleId (λ e. cc e, (λ e. cc e, (λ e. cc e, (λ e. cc e, (λ e. cc e, (λ e. cc e, (λ e. cc e, (λ e. cc e, tt)))))))) label at has)
required_early (suc (suc (suc (suc (suc (suc (suc (suc (suc (suc zero)))))))))) label at has =
    absurd (late EmbargoInfo (λ e. cc e, (λ e. cc e, (λ e. cc e, (λ e. cc e, (λ e. cc e, (λ e. cc e, (λ e. cc e, (λ e. cc e, tt)))))))) label at has)
required_early (suc (suc (suc (suc (suc (suc (suc (suc (suc (suc (suc zero))))))))))) label at has =
    absurd (late CoverageDepth (λ e. cc e, (λ e. cc e, (λ e. cc e, (λ e. cc e, (λ e. cc e, (λ e. cc e, (λ e. cc e, (λ e. cc e, tt)))))))) label at has)
required_early (suc (suc (suc (suc (suc (suc (suc (suc (suc (suc (suc (suc zero)))))))))))) label at has =
    absurd (late PublicationType (λ e. cc e, (λ e. cc e, (λ e. cc e, (λ e. cc e, (λ e. cc e, (λ e. cc e, (λ e. cc e, (λ e. cc e, tt)))))))) label at has)
required_early (suc (suc (suc (suc (suc (suc (suc (suc (suc (suc (suc (suc (suc zero))))))))))))) label at has =
    absurd (late AccessType (λ e. cc e, (λ e. cc e, (λ e. cc e, (λ e. cc e, (λ e. cc e, (λ e. cc e, (λ e. cc e, (λ e. cc e, tt)))))))) label at has)
required_early (suc (suc (suc (suc (suc (suc (suc (suc (suc (suc (suc (suc (suc (suc k)))))))))))))) label at has =
    absurd (let e : Some label ≡ None = sym at ∙ beyond k in cc)

-- a reason of a file is stored
pub stored : (text : List ℕ) (why : BadFile) → fault_of text ≡ Some why → IsStored why
stored text NotUtf8 e = tt
stored text TwoMarks e = tt
stored text NoHeader e = tt
stored text (LabelTwice label) e = tt
stored text (MissingLabel label) e = missing_is_required text label e
