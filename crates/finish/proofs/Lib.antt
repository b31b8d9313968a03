-- Finish as the code asks it and does it.
pub mod Roots
pub mod Sleeping
