use Rattle.std.proofs.Common.{◌≡◌, ℤ, unsigned_abs, true≢false, sym, ap, ◌∙◌, arith, rules, of_z, to_z, w16}
use Rattle.jiff_core.proofs.SignedLemmas.{signed_arith}
use Rattle.feed_dates.specs.Days.{ymd_text}
use Rattle.feed_dates.proofs.DatesWritten.{dated, undated, epoch_day_of, year_of_date, date_here}
use Rattle.feed_dates.proofs.day.write_date.Goals as goal

pub returns-in_default : goal.returns-in_default
returns-in_default c = undated c.args.day (λ text h.
    let day = epoch_day_of c.args.day text h in
    absurd (true≢false (sym (c.in_default.ensures.succeeds.1 (search (rules, arith, signed_arith))))))

pub returns-then-date-lt1 : goal.returns-then-date-lt1
returns-then-date-lt1 c = undated c.args.day (λ text h.
    let year = year_of_date c.args.day c.in-Ok.date text (search (rules, arith, signed_arith)) h in
    grind (rules, arith, signed_arith))

pub returns : goal.returns
returns c =
    let date = c.in-Ok.date in
    let cast : to_z w16 (of_z w16 date.year) ≡ date.year = search (rules, arith, signed_arith) in
    let text : c.ymd_text.result ≡ ymd_text (unsigned_abs date.year) date.month date.day =
    c.ymd_text.ensures ∙ ap (λ (y : ℤ). ymd_text (unsigned_abs y) date.month date.day) cast in
    dated c.args.day c.ymd_text.result
    (date_here c.args.day date c.ymd_text.result (search (rules, arith, signed_arith)) (search (rules, arith, signed_arith)) text)
