-- Laws of what the passes over grants and tracks keep.
pub mod Held
