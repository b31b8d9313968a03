-- What the contracts of fields and passes speak of beside the rules.
pub mod Holds
pub mod Plans
pub mod Accepts
pub mod Chain
pub mod Chains
pub mod Passes
