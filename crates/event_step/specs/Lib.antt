-- What an event answers and leaves.
pub mod Outcome
