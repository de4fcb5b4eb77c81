-- The reason of a release, seen from its record and from the history.
use Rattle.std.proofs.Common.{◌≡◌, ℕ, Option, Some, None, inr}
use Rattle.feed_names.specs.ReleaseName.{Name}
use Rattle.feed_kbart.specs.declared.fault.BadFile.{BadFile}
use Rattle.feed_model.specs.declared.state.State.{State}
use Rattle.feed_model.specs.declared.state.State.TheVariants.{Staged, Broken, Active}
use Rattle.feed_model.specs.History.{History, IsHeld}
use Rattle.feed_model.specs.Content.{Record, Content, IsContentWithin, IsState, IsReason, record_of}
use Rattle.feed_model.proofs.Tests.{of_record, good_not_bad}
use Rattle.feed_releases.specs.Reason.{HasReason}

reason_so : (h : History) (n : Name) (s : State) (o : Option BadFile) → IsHeld h n → IsState h n s → IsReason h n s o → HasReason h n o
reason_so h n Staged None held lacks is = inr (λ bad. lacks (bad.0, bad.1))
reason_so h n Staged (Some why) held lacks is = absurd (cc)
reason_so h n Active None held active is = inr (λ bad. good_not_bad h n active.0 bad)
reason_so h n Active (Some why) held active is = absurd (cc)
reason_so h n Broken None held bad is = inr (λ other. good_not_bad h n (is.0, is.1, is.2) other)
reason_so h n Broken (Some why) held bad is = (held, is.0, is.1, is.2)

pub reason_of_record : {most : ℕ} (c : Content) (h : History) (n : Name) (r : Record) → IsContentWithin most c h → record_of c n ≡ Some r → HasReason h n r.reason
reason_of_record c h n r is found =
    let there = of_record c h n r is found in
    reason_so h n r.state r.reason there.held there.state there.reason
