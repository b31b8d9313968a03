-- Property 3's mathematics, said of document 01: the rules are an instance of the theory, and its theorems in the rules' own terms, on words.
pub mod Document01
pub mod Theorems01
pub mod Runs01
pub mod SoundLive
pub mod SoundWords
pub mod Restoration
pub mod Allowed
pub mod WrongPlan
pub mod Endings
pub mod Continuation
pub mod Days
pub mod Rights
pub mod Bound
pub mod LiteralRuns
-- What is held: the most, and the firings still due.
pub mod Plain
pub mod Ways
pub mod WaysKept
pub mod HeldMost
pub mod Withdrawing
pub mod FiringOrders
pub mod FiringsDue
-- Books for the sample plan; what would be false.
pub mod SampleTracks
pub mod SampleBooks
pub mod SampleRun
pub mod ChainRuns
pub mod ChainBooks
pub mod Counterexamples
