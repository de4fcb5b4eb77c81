use Rattle.std.proofs.Common.{◌≡◌, List, ℕ, ap, subst}
use Rattle.node_site.specs.ReadingValue.{ReadingValue}
use Rattle.node_site.specs.declared.holdings_reading.Phase.TheVariants.{Done}
use Rattle.node_site.specs.HoldingsFaults.{IsHoldingsFile}
use Rattle.node_site.specs.HoldingsReadings.{IsPhase}
use Rattle.node_site.proofs.HoldingsRead.{file_is}
use Rattle.node_site.proofs.holdings_reading.HoldingsReading.step.Goals as goal

pub returns-in-Done-clause-step : goal.returns-in-Done-clause-step
returns-in-Done-clause-step c =
    let text = c.self.inside.text.items in
    let same : text ≡ c.args.self.text = ap (λ (r : ReadingValue). r.text) c.self.view_is in
    let at_end : IsPhase text (Done c.in-Done.entries c.in-Done.on) =
    subst (λ (t : List ℕ). IsPhase t (Done c.in-Done.entries c.in-Done.on)) c.deref.ensures.value (subst (IsPhase c.deref.result.now) c.in-Done.is c.in-Ok.ensures.is) in
    (same, subst IsHoldingsFile same (file_is text c.in-Done.entries.items c.in-Done.on c.self.invariant.headed at_end))
