-- What the exported functions' contracts speak of beside the rules.
pub mod Options
pub mod Packed
pub mod Shown
