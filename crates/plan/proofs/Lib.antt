-- Laws of a plan's fields and of the passes over its records.
pub mod FieldLaws
pub mod WindowLaws
pub mod ChainLaws
pub mod Searches
pub mod Members
pub mod ForestLaws
pub mod Hosting
pub mod RefusalTests
pub mod PassLaws
pub mod PassedLaws
