-- Laws of the parts of soundness.
pub mod Clauses
pub mod Asking
pub mod Marks
