-- Laws of entering states.
pub mod FirstStates
pub mod WakingLaws
pub mod EnteringLaws
pub mod BeginLaws
