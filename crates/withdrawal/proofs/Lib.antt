-- Laws of the backward steps.
pub mod Counted
pub mod Climbing
pub mod SignalLaws
pub mod FireLaws
pub mod ScopesNested
pub mod Storing
pub mod TrackVisits
pub mod AbandoningLaws
pub mod Outcomes
pub mod DeviatingLaws
pub mod FiredWords
