-- What the contracts of this crate speak of beside the rules.
pub mod Chosen
pub mod Laid
pub mod Table
