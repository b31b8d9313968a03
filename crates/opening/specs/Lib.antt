-- What entering states speaks of beside the rules.
pub mod Entering
