-- Laws of signed numbers.
pub mod Integers
pub mod FloorLaws
pub mod WordLaws
