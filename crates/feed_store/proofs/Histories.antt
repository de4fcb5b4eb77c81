-- A content of a history that gets its reasons is explained.
use Rattle.std.proofs.Common.{◌≡◌, ◌<◌, ℕ, List, [], ◌∷◌, suc, length, Option, Some, None, IsSome, get_or, refl, sym, subst, ◌∙◌, arith}
use Rattle.feed_names.specs.ReleaseName.{Name}
use Rattle.feed_kbart.specs.declared.fault.BadFile.{BadFile}
use Rattle.feed_model.specs.declared.state.State.{State}
use Rattle.feed_model.specs.declared.state.State.TheVariants.{Staged, Broken, Active}
use Rattle.feed_model.specs.History.{History, IsFile}
use Rattle.feed_model.specs.Content.{Content, Record, IsState, IsText, record_of}
use Rattle.feed_model.specs.Earlier.{AreExplained, IsEarlierContent, IsEarlierRecord, IsExplained, IsSameRelease, without_refused}
use Rattle.feed_model.specs.Sound.{Explains}
use Rattle.feed_model.specs.Reply.{IsLegal, max_held}
use Rattle.feed_model.proofs.Bytes.{slice_some, within_by}
use Rattle.feed_model.proofs.Earlier.{legal_now, release_same}
use Rattle.feed_model.proofs.Limits.{kept_inside, size_limit}
use Rattle.feed_model.proofs.Places.{record_of-at}
use Rattle.feed_keep.specs.BadFile.{HasFile}
use Rattle.feed_store.specs.Upgraded.{AddReasons, IsReasonOf, AddsReason}

module _ (h : History) (n : Name) (r : Record) (is : IsEarlierRecord h n r) (legal : IsLegal (without_refused h)) where
  same : IsSameRelease h (without_refused h) n
  same = release_same h n

  is_text : (text : List ℕ) → IsFile h n text → IsText r.size r.parts text
  is_text text file =
      let size : length text ≡ r.size = (let e : Some r.size ≡ Some (length text) = sym is.size ∙ file.0 in cc) in
      record { count = size; bytes = λ place lt. is.bytes place ∙ file.1 place (omega (arith, size, lt)) }

  has_file : (text : List ℕ) → IsText r.size r.parts text → HasFile r
  has_file text whole = record {
    full = record {
      within = record {
        parts = is.parts;
        inside = within_by 0 r.size r.parts is.parts
            (λ place some. kept_inside max_held (without_refused h) legal n r.size place (same.size ∙ is.size) (subst IsSome (is.bytes place ∙ sym (same.bytes place)) some));
      };
      every = λ place lt. subst IsSome (sym (whole.bytes place lt)) (slice_some text place (omega (arith, whole.count, lt)));
    };
    limit = size_limit max_held (without_refused h) legal n r.size (same.size ∙ is.size);
  }

  -- a broken release has a file, and the reason is that of the file
  explains : (state : State) (o : Option BadFile) → IsState h n state → IsReasonOf state r o → Explains state r.size r.parts o
  explains Staged o lacks none = none
  explains Active o active none = none
  explains Broken (Some why) bad it = (it.1, it.2, it.3)
  explains Broken None bad it =
      let whole = is_text bad.0 bad.1 in
      absurd (bad.2 (it (has_file bad.0 whole) bad.0 whole))

one_explained : (h : History) (n : Name) (r s : Record) → IsEarlierRecord h n r → IsLegal (without_refused h) → AddsReason r s → IsExplained r s
one_explained h n r s is legal it = subst (IsExplained r) (sym it.2) (record {
  name = refl;
  size = refl;
  state = refl;
  parts = refl;
  reason = explains h n r is legal r.state it.0 is.state it.1;
})

all_explained : (h : History) (c d : Content) → IsLegal (without_refused h)
    → ((k : ℕ) (x : Record) → k < length c → IsEarlierRecord h (get_or c k x).name (get_or c k x)) → AddReasons c d → AreExplained c d
all_explained h [] [] legal each all = tt
all_explained h [] (s ∷ ss) legal each all = absurd all
all_explained h (r ∷ rs) [] legal each all = absurd all
all_explained h (r ∷ rs) (s ∷ ss) legal each all =
    (one_explained h r.name r s (each 0 r (omega arith)) legal all.0, all_explained h rs ss legal (λ k x lt. each (suc k) x (omega (arith, lt))) all.1)

pub explained : (h : History) (c d : Content) → IsEarlierContent c h → AddReasons c d → AreExplained c d
explained h c d is all = all_explained h c d (legal_now h is.legal) (λ k x lt. of_name (get_or c k x).name (get_or c k x) (record_of-at c k x is.distinct lt)) all
  where
    of_name : (n : Name) (r : Record) → record_of c n ≡ Some r → IsEarlierRecord h n r
    of_name n r found = let it = is.each n in rw found at it
