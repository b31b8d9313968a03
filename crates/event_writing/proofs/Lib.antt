-- Laws of an event's writing.
pub mod OneTrack
pub mod InstallingPass
pub mod ClosingPass
pub mod EventWritten
