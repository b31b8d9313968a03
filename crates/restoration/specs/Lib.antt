-- What the theorems of this crate say beside the rules: firings in a row, a way on to a withdrawn ledger, books for the sample plan and for
-- one with a chain of moves, and weaker conditions.
pub mod Firings
pub mod Continuation
pub mod SampleAccount
pub mod SamplePiles
pub mod SampleChain
pub mod LenientBooks
