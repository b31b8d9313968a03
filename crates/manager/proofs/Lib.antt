-- Laws of the calls.
pub mod FurtherRead
pub mod Checks
pub mod BitLaws
