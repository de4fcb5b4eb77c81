-- The active release of a package has the holdings of its complete file, and answers like it.
use Rattle.std.proofs.Common.{◌≡◌, ◌<◌, ℕ, List, length, get_or, Some, Ok, refl, sym, ◌∙◌, ap, subst}
use Rattle.feed_answer.specs.QueryValue.{QueryValue}
use Rattle.feed_answer.specs.HitValue.{HitValue}
use Rattle.feed_answer.specs.Answers.{answer_of}
use Rattle.feed_model.specs.declared.state.State.{State}
use Rattle.feed_model.specs.declared.state.State.TheVariants.{Active}
use Rattle.feed_model.specs.History.{History, Reports}
use Rattle.feed_model.specs.Content.{record_of, IsContentWithin}
use Rattle.feed_model.proofs.Reports.{file_of_record}
use Rattle.feed_releases.specs.ReleaseValue.{ReleaseValue, content_of, IsActiveOf, IsKnown}
use Rattle.feed_releases.specs.Actives.{ActiveValue, active_of, IsKnownRelease, IsReportedFor}
use Rattle.feed_releases.specs.Answered.{IsAnswered}
use Rattle.feed_releases.proofs.Finding.{own_at, reports_at}

-- the release that was read at the place of an active one is reported, with the holdings of its file
pub reported_for : {most : ℕ} (rs : List ReleaseValue) (h : History) (package_name : List ℕ) (i : ℕ) (r : ReleaseValue) → IsContentWithin most (content_of rs) h → i < length rs
    → ((d : ReleaseValue) → IsActiveOf package_name (get_or rs i d)) → r ≡ get_or rs i r → IsKnownRelease r → IsReportedFor h package_name (active_of r)
reported_for rs h package_name i r is lt active here known =
    let own : IsActiveOf package_name r = subst (IsActiveOf package_name) (sym here) (active r) in
    let knows : IsKnown Active r.kept.size r.kept.parts r.holdings = subst (λ (s : State). IsKnown s r.kept.size r.kept.parts r.holdings) own.0 known in
    let reports : Reports h package_name (Some r.kept.name) = subst (λ (y : ReleaseValue). Reports h package_name (Some y.kept.name)) (sym here) (reports_at rs h package_name i r is lt (active r)) in
    let kept = subst (λ (y : ReleaseValue). record_of (content_of rs) y.kept.name ≡ Some y.kept) (sym here) (own_at rs i r is.distinct lt) in
    rw knows.3 (
      record {
        reports = subst (λ (p : List ℕ). Reports h p (Some r.kept.name)) (sym own.1) reports;
        text = knows.0;
        file = file_of_record (content_of rs) h r.kept knows.0 is kept knows.1.count knows.1.bytes;
        holdings = refl;
      },
      own.1,
    )

-- it is the one that is reported
pub reported_here : (h : History) (package_name : List ℕ) (active : ActiveValue) → IsReportedFor h package_name (Some active) → Reports h package_name (Some active.name)
reported_here h package_name active is = subst (λ (p : List ℕ). Reports h p (Some active.name)) is.1 is.0.reports

pub answered : (h : History) (package_name : List ℕ) (query : QueryValue) (active : ActiveValue) (hits : List HitValue) → IsReportedFor h package_name (Some active)
    → hits ≡ answer_of active.holdings query → IsAnswered h package_name query (Ok hits)
answered h package_name query active hits is found =
    (active.name, is.0.text, reported_here h package_name active is, is.0.file, found ∙ ap (λ x. answer_of x query) is.0.holdings)
