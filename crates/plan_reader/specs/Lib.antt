-- What the reader's contracts speak of beside the rules and the plan's fields.
pub mod Told
pub mod TracksPass
pub mod Keys
