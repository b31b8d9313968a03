-- What the contracts of refusal 27 speak of beside the rules.
pub mod Pairs
