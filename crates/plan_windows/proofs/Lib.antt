-- Laws of refusal 25.
pub mod WindowTests
