use Rattle.std.proofs.Common.{◌≡◌, true≢false, refl, sym, arith, rules, of_z, to_z, w16}
use Rattle.jiff_core.proofs.SignedLemmas.{signed_arith}
use Rattle.feed_answer.proofs.Months.{epoch_day_of, year_in, month_here}
use Rattle.feed_answer.proofs.today.Today.new.Goals as goal

pub returns-in_default : goal.returns-in_default
returns-in_default c = λ month h.
    let day = epoch_day_of month c.args.day h in
    absurd (true≢false (sym (c.in_default.ensures.succeeds.1 (search (rules, arith, signed_arith)))))

pub returns-then-date-lt1 : goal.returns-then-date-lt1
returns-then-date-lt1 c = λ month h.
    let year = year_in month c.args.day c.in-Ok.date (search (rules, arith, signed_arith)) h in
    grind (rules, arith, signed_arith)

pub returns : goal.returns
returns c =
    let date = c.in-Ok.date in
    let cast : to_z w16 (of_z w16 date.year) ≡ date.year = search (rules, arith, signed_arith) in (
      search (rules, arith, signed_arith),
      month_here _ c.args.day date (search (rules, arith, signed_arith)) (search (rules, arith, signed_arith)) (rw (cast, c.from-2.ensures) refl),
    )
