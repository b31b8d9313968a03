-- Laws for the proofs of this crate.
pub mod Keeping
pub mod SameText
pub mod CarriedOut
pub mod Underway
pub mod WholeText
