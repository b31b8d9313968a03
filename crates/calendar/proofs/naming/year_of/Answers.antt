-- The year and the days into it, by quarters of days. Assumes nothing.
use Rattle.calendar.proofs.CenturyLaws.{year_found}
use Rattle.calendar.proofs.naming.year_of.Goals as goal

pub returns : goal.returns
returns c = year_found _ c.requires
