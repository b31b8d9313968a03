-- Laws of the plan reader.
pub mod CellLaws
pub mod MarkLaws
pub mod Reader
