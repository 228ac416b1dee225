use Rattle.std.proofs.Common.{◌≡◌, ℕ, ◌+◌, refl, arith, pos, ◌+ℤ◌}
use Rattle.jiff_core.specs.declared.civil.date.Date.{Date}
use Rattle.jiff_core.specs.Date.{epoch_day}
use Rattle.jiff_core.proofs.SignedLemmas.{signed_arith}
use Rattle.tablet_text.specs.Moments.{day_at}
use Rattle.tablet_text.proofs.MomentLemmas.{IsSame, date_is, year_within, year_back}
use Rattle.tablet_text.proofs.moment.day_at.Goals as goal

pub same : (d : Date) (n : ℕ) → epoch_day d +ℤ pos 4_371_587 ≡ pos (n + 4_371_587) → IsSame d (day_at n)
same d n e = date_is d n (omega (arith, signed_arith))

pub overflow_cast-result : goal.overflow_cast-result
overflow_cast-result c =
    let d = c.from_days_since_min-date.result in
    let is = same d c.args.days c.from_days_since_min-date.ensures in
    let low = year_within d (day_at c.args.days).year is.0 in
    rw (year_back d.year (day_at c.args.days).year is.0 low) (tt, omega arith)

pub returns-clause-year : goal.returns-clause-year
returns-clause-year c =
    let d = c.from_days_since_min-date.result in
    let is = same d c.args.days c.from_days_since_min-date.ensures in
    let low = year_within d (day_at c.args.days).year is.0 in
    rw (year_back d.year (day_at c.args.days).year is.0 low) refl

pub returns-clause-month : goal.returns-clause-month
returns-clause-month c = (same c.from_days_since_min-date.result c.args.days c.from_days_since_min-date.ensures).1

pub returns-clause-day : goal.returns-clause-day
returns-clause-day c = (same c.from_days_since_min-date.result c.args.days c.from_days_since_min-date.ensures).2
