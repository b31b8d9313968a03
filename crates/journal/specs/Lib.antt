-- What the contracts of this crate speak of beside the rules.
pub mod Writing
pub mod Records
pub mod Tallied
