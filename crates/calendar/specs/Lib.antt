-- What the steps from days to a date find.
pub mod Parts
