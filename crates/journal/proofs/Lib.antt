-- Laws for the proofs of this crate.
pub mod Decimal
pub mod Written
pub mod LineText
pub mod Records
pub mod OfLedger
