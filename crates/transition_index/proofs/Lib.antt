-- Laws for the proofs of this crate.
pub mod Walks
