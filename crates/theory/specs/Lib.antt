-- What the theory is about: the seams, and what is said over them.
pub mod Seams
pub mod Runs
