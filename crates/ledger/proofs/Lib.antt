-- Laws of the ledger's words.
pub mod Loops
pub mod Branches
pub mod LayoutLaws
pub mod Modes
pub mod Words
pub mod TidyLaws
pub mod ReadTracks
pub mod LeadingLaws
