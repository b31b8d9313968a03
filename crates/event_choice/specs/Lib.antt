-- What an event will do, and the choice that says so.
pub mod Next
pub mod Chosen
