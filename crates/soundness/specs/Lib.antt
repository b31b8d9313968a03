-- What soundness asks of one entry, one track and one scope.
pub mod Parts
