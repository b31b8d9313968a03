-- Laws of an event's outcome.
pub mod Answering
pub mod Ended
