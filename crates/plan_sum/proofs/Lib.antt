-- Laws of the sum.
pub mod SumLaws
