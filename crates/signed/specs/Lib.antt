-- Division of signed numbers.
pub mod Floor
