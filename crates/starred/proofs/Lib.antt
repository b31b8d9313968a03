-- The starred runs, the leading words on the sample plan, links that end half withdrawn, days and windows, rights, isolation, the largest numbers
-- of entries, and the firings still due.
pub mod Starred
pub mod LeadingRuns
pub mod HalfWithdrawn
pub mod DayRuns
pub mod RightsRuns
pub mod IsolationRuns
pub mod LargestRuns
pub mod FiringRuns
pub mod LimitRuns
