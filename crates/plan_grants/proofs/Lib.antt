-- Laws of refusal 27.
pub mod GrantTests
