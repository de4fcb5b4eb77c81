-- Each answer to a piece that keeps its new bytes.
use Rattle.std.proofs.Common.{◌≡◌, ◌<◌, ℕ, zero, suc, true, false, List, ◌∷◌, length, Option, Some, None, Ok, IsSome, slice_get, inl, inr, refl, sym, ◌∙◌, ap, subst, arith}
use Rattle.std.specs.Prelude.{is_none}
use Rattle.feed_names.specs.ReleaseName.{Name}
use Rattle.feed_kbart.specs.declared.fault.BadFile.{BadFile}
use Rattle.feed_model.specs.declared.state.State.TheVariants.{Staged, Active}
use Rattle.feed_model.specs.declared.reply.Reply.TheVariants as replies
use Rattle.feed_model.specs.File.{fault_of}
use Rattle.feed_model.specs.History.{Piece, History, Answer, is_taken, or_else, byte_at, IsFile, IsWhole, IsBad}
use Rattle.feed_model.specs.Reply.{IsRightWith, kept_with, missing_below, verdict}
use Rattle.feed_model.specs.Content.{Part, Record, Content, record_of, byte_in, IsRecord, IsContentWithin, within}
use Rattle.feed_model.specs.Change.{merged, grown, broken_with, changed, without_earlier}
use Rattle.feed_model.specs.Parts.{AgreesIn, HasNew, Adds, Reaches}
use Rattle.feed_model.specs.Handles.{Handles}
use Rattle.feed_model.proofs.Bytes.{slice_some}
use Rattle.feed_model.proofs.Tests.{of_record, good_not_bad}
use Rattle.feed_model.proofs.Growth.{Keeps, kept_here, grown_is, broken_is, no_reason, piece_moves}
use Rattle.feed_model.proofs.Activation.{activate_moves}
use Rattle.feed_model.proofs.Pieces.{stores_right}

-- counts of missing places
pub missing_same : (f g : ℕ → Option ℕ) → ((place : ℕ) → f place ≡ g place) → (n : ℕ) → missing_below f n ≡ missing_below g n
missing_same f g e zero = refl
missing_same f g e (suc n) = rw (missing_same f g e n, e n) refl

not_none : (o : Option ℕ) → IsSome o → is_none o ≡ false
not_none (Some x) s = refl
not_none None s = absurd (let u : false ≡ true = s in cc)

pub missing_none : (f : ℕ → Option ℕ) (n : ℕ) → ((place : ℕ) → place < n → IsSome (f place)) → missing_below f n ≡ 0
missing_none f zero all = refl
missing_none f (suc n) all = rw (missing_none f n (λ place lt. all place (omega arith)), not_none (f n) (all n (omega arith))) refl

-- what is kept with the piece is what the parts have with the new ones
with_new : {most : ℕ} (c : Content) (h : History) (n : Name) (first : ℕ) (bytes : List ℕ) (r : Record) (ps : List Part) → IsContentWithin most c h → record_of c n ≡ Some r
    → Adds r.size r.parts first bytes ps
    → (place : ℕ) → kept_with h n first bytes place ≡ byte_in (merged r.parts ps) place
with_new c h n first bytes r ps is found adds place = sym (adds.union place ∙ ap (λ o. or_else o (byte_at first bytes place)) ((of_record c h n r is found).bytes place))

keeps_by : {most : ℕ} (c : Content) (h : History) (n : Name) (first : ℕ) (bytes : List ℕ) (r : Record) (ps : List Part) → IsContentWithin most c h → record_of c n ≡ Some r → r.state ≡ Staged
    → Adds r.size r.parts first bytes ps → Keeps most c h n first bytes r ps
keeps_by c h n first bytes r ps is found staged adds = record { content = is; found = found; staged = staged; parts = adds.whole.parts; new = adds.union }

stored_at : {most : ℕ} (c : Content) (h : History) (n : Name) (first : ℕ) (total : Option ℕ) (bytes : List ℕ) (r : Record) (ps : List Part) (missing : ℕ) → Reaches c n first total bytes r
    → r.state ≡ Staged → AgreesIn r.parts first bytes → HasNew r.parts first bytes → Adds r.size r.parts first bytes ps
    → missing ≡ missing_below (byte_in (merged r.parts ps)) r.size → 0 < missing → IsContentWithin most c h
    → IsRightWith most h (Piece n first total bytes) (Ok (replies.Stored missing)) × IsContentWithin most
    (changed n (grown ps Staged) c) ((Piece n first total bytes, Ok (replies.Stored missing)) ∷ h)
stored_at {most = most} c h n first total bytes r ps missing reach staged agrees new adds lack some is = (
  right,
  piece_moves c h n first total bytes a r ps (grown ps Staged) (grown_is ps Staged r) (keeps_by c h n first bytes r ps is reach.found staged adds) refl right (λ g. lacks (g.0, g.1)) lacks
      (no_reason c h n r is reach.found staged),
)
  where
    a : Answer
    a = Ok (replies.Stored missing)

    was : IsRecord h n r
    was = of_record c h n r is reach.found

    count : missing_below (kept_with h n first bytes) r.size ≡ missing
    count = missing_same (kept_with h n first bytes) (byte_in (merged r.parts ps)) (with_new c h n first bytes r ps is reach.found adds) r.size ∙ sym lack

    right : IsRightWith most h (Piece n first total bytes) a
    right = stores_right c h n first total bytes r a reach agrees new is (inl (r.size, was.size, inl (omega (arith, count), ap (λ k. Ok (replies.Stored k)) (sym count))))

    lacks : ¬ (IsWhole ((Piece n first total bytes, a) ∷ h) n)
    lacks w =
        let size : length w.0 ≡ r.size = (let u : Some (length w.0) ≡ Some r.size = sym w.1.0 ∙ was.size in cc) in
        let none : missing_below (kept_with h n first bytes) r.size ≡ 0 = missing_none (kept_with h n first bytes) r.size
        (λ place lt. let in' : place < length w.0 = omega arith in subst IsSome (sym (w.1.1 place in') ∙ kept_here h n first total bytes a refl place) (slice_some w.0 place in')) in
        absurd (omega (arith, count))

pub piece_stored : {most : ℕ} (c : Content) (n : Name) (first : ℕ) (total : Option ℕ) (bytes : List ℕ) (r : Record) (ps : List Part) (missing : ℕ) → Reaches c n first total bytes r
    → r.state ≡ Staged → AgreesIn r.parts first bytes → HasNew r.parts first bytes → Adds r.size r.parts first bytes ps
    → missing ≡ missing_below (byte_in (merged r.parts ps)) r.size → 0 < missing
    → Handles (within most c) (Piece n first total bytes) (Ok (replies.Stored missing)) (within most (changed n (grown ps Staged) c))
piece_stored c n first total bytes r ps missing reach staged agrees new adds lack some = λ h is. stored_at c h n first total bytes r ps missing reach staged agrees new adds lack some is

-- the whole file
file_by : {most : ℕ} (c : Content) (h : History) (n : Name) (first : ℕ) (total : Option ℕ) (bytes : List ℕ) (r : Record) (ps : List Part) (text : List ℕ) (a : Answer) → IsContentWithin most c h
    → record_of c n ≡ Some r → Adds r.size r.parts first bytes ps → is_taken a ≡ true → length text ≡ r.size
    → ((place : ℕ) → place < r.size → byte_in (merged r.parts ps) place ≡ slice_get text place) → IsFile ((Piece n first total bytes, a) ∷ h) n text
file_by c h n first total bytes r ps text a is found adds taken len at = (
  (of_record c h n r is found).size ∙ ap Some (sym len),
  λ place lt. kept_here h n first total bytes a taken place ∙ with_new c h n first bytes r ps is found adds place
      ∙ at place (omega arith),
)

whole_right : {most : ℕ} (c : Content) (h : History) (n : Name) (first : ℕ) (total : Option ℕ) (bytes : List ℕ) (r : Record) (ps : List Part) (text : List ℕ) (a : Answer)
    → Reaches c n first total bytes r → AgreesIn r.parts first bytes → HasNew r.parts first bytes → Adds r.size r.parts first bytes ps
    → missing_below (byte_in (merged r.parts ps)) r.size ≡ 0 → length text ≡ r.size →
    ((place : ℕ) → place < r.size → byte_in (merged r.parts ps) place ≡ slice_get text place) → IsContentWithin most c h → a ≡ Ok (verdict (fault_of text))
    → IsRightWith most h (Piece n first total bytes) a
whole_right c h n first total bytes r ps text a reach agrees new adds none len at is answer =
    let same = with_new c h n first bytes r ps is reach.found adds in
    let count : missing_below (kept_with h n first bytes) r.size ≡ missing_below (byte_in (merged r.parts ps)) r.size = missing_same (kept_with h n first bytes)
    (byte_in (merged r.parts ps)) same r.size in
    stores_right c h n first total bytes r a reach agrees new is (inl
    (r.size, (of_record c h n r is reach.found).size, inr ((λ lt. absurd (omega (arith, count))), (text, len, (λ place lt. same place ∙ at place lt), answer))))

pub piece_broken : {most : ℕ} (c : Content) (n : Name) (first : ℕ) (total : Option ℕ) (bytes : List ℕ) (r : Record) (ps : List Part) (text : List ℕ) (why : BadFile) → Reaches c n first total bytes r
    → r.state ≡ Staged → AgreesIn r.parts first bytes → HasNew r.parts first bytes → Adds r.size r.parts first bytes ps
    → missing_below (byte_in (merged r.parts ps)) r.size ≡ 0 → length text ≡ r.size →
    ((place : ℕ) → place < r.size → byte_in (merged r.parts ps) place ≡ slice_get text place) → fault_of text ≡ Some why
    → Handles (within most c) (Piece n first total bytes) (Ok (replies.Broken why)) (within most (changed n (broken_with ps why) c))
piece_broken {most = most} c n first total bytes r ps text why reach staged agrees new adds none len at bad = λ h is.
    let a : Answer = Ok (replies.Broken why) in
    let right : IsRightWith most h (Piece n first total bytes) a = whole_right c h n first total bytes r ps text a reach agrees new adds none len at is (ap (λ o. Ok (verdict o)) (sym bad)) in
    let file = file_by c h n first total bytes r ps text a is reach.found adds refl len at in
    let is_bad : IsBad ((Piece n first total bytes, a) ∷ h) n = (text, file, λ e. (let u : Some why ≡ None = sym bad ∙ e in absurd (cc))) in (
      right,
      piece_moves c h n first total bytes a r ps (broken_with ps why) (broken_is ps why r) (keeps_by c h n first bytes r ps is reach.found staged adds) refl right
          (λ g. good_not_bad ((Piece n first total bytes, a) ∷ h) n g is_bad) is_bad (text, file, bad),
    )

pub piece_activated : {most : ℕ} (c : Content) (n : Name) (first : ℕ) (total : Option ℕ) (bytes : List ℕ) (r : Record) (ps : List Part) (text : List ℕ) → Reaches c n first total bytes r
    → r.state ≡ Staged → AgreesIn r.parts first bytes → HasNew r.parts first bytes → Adds r.size r.parts first bytes ps
    → missing_below (byte_in (merged r.parts ps)) r.size ≡ 0 → length text ≡ r.size → ((place : ℕ) → place < r.size → byte_in (merged r.parts ps) place ≡ slice_get text place)
    → fault_of text ≡ None → Handles (within most c) (Piece n first total bytes) (Ok replies.Activated) (within most (without_earlier n (changed n (grown ps Active) c)))
piece_activated {most = most} c n first total bytes r ps text reach staged agrees new adds none len at good = λ h is.
    let a : Answer = Ok replies.Activated in
    let right : IsRightWith most h (Piece n first total bytes) a = whole_right c h n first total bytes r ps text a reach agrees new adds none len at is (ap (λ o. Ok (verdict o)) (sym good)) in (
      right,
      activate_moves c h n first total bytes a r ps (keeps_by c h n first bytes r ps is reach.found staged adds) refl right
          (text, file_by c h n first total bytes r ps text a is reach.found adds refl len at, good),
    )
