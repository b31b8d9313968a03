-- Laws of packed answers.
pub mod Packing
pub mod Unpacking
pub mod OptionLaws
pub mod Showing
