-- The years' days in closed form. Assumes nothing.
use Rattle.std.proofs.Common.{sym}
use Rattle.calendar.proofs.YearLaws.{years_closed}
use Rattle.calendar.proofs.counting.before_year.Goals as goal

pub returns : goal.returns
returns c = rw c.from-k.ensures (sym (years_closed _))
