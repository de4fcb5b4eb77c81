use Rattle.std.proofs.Common.{◌≡◌, ◌++◌, ℕ, List, Some, Err, sym, subst, ◌∙◌}
use Rattle.std.specs.Prelude.{◌⊎◌}
use Rattle.feed_model.specs.History.{Piece}
use Rattle.feed_releases.specs.Feeds.{recorded}
use Rattle.feed_fetch.specs.Answers.{HasRightAnswer, piece_result, response_or_stop}
use Rattle.feed_fetch.specs.declared.stop.Stop.TheVariants.{Print}
use Rattle.feed_http.specs.ArrivingResponses.{file_length}
use Rattle.node_machine.specs.Exchanges.{HasArrived, HasArrivedPart}
use Rattle.node_machine.proofs.Exchanging.{arrived_part, part_is}
use Rattle.node_machine.proofs.fetching.submit_part.Goals as goal

pub returns-clause-right : goal.returns-clause-right
returns-clause-right g c first size bytes is =
    let asked = part_is c.args.arrival (file_length c.args.arrival.machine.place) first size bytes is in
    let shown = part_is c.args.arrival (file_length c.args.arrival.machine.place) c.in-Some.part.first c.in-Some.part.length c.in-Some.part.bytes.now c.in-Some.ensures.some in
    let long : c.in-Some.part.length ≡ size = cc (sym shown.0 ∙ asked.0) in
    let n = c.args.name.now in
    let out = c.take_part-outcome.result in
    let before = recorded c.args.feed.now in
    let after = recorded c.take_part-outcome.new.feed in
    subst (λ (b : List ℕ). HasRightAnswer (λ answer. (out ≡ piece_result (response_or_stop answer)) ⊎ (out ≡ Err Print)) before (Piece n first (Some size) b) after) (sym shown.2 ∙ asked.2)
    (subst (λ (s : ℕ). HasRightAnswer (λ answer. (out ≡ piece_result (response_or_stop answer)) ⊎ (out ≡ Err Print)) before (Piece n first (Some s) c.in-Some.part.bytes.now) after) long
    (subst (λ (f : ℕ). HasRightAnswer (λ answer. (out ≡ piece_result (response_or_stop answer)) ⊎ (out ≡ Err Print)) before
    (Piece n f (Some c.in-Some.part.length) c.in-Some.part.bytes.now) after) (sym shown.1 ∙ asked.1) c.take_part-outcome.ensures.right))

pub returns-clause-passed : goal.returns-clause-passed
returns-clause-passed g c first size bytes is events given h =
    let asked = part_is c.args.arrival (file_length c.args.arrival.machine.place) first size bytes is in
    let shown = part_is c.args.arrival (file_length c.args.arrival.machine.place) c.in-Some.part.first c.in-Some.part.length c.in-Some.part.bytes.now c.in-Some.ensures.some in (
      subst (λ (b : List ℕ). HasArrived c.pass_part.result events (given ++ b)) asked.2 (c.pass_part.ensures events given shown.0 h),
      subst (λ (f : ℕ). HasArrivedPart events size f bytes) asked.1
          (subst (λ (b : List ℕ). HasArrivedPart events size c.args.arrival.given b) asked.2 (arrived_part events given c.args.arrival size h asked.0)),
    )
