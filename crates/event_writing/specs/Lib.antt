-- What the writing of an event needs, and what it comes to for one track.
pub mod EventParts
