-- What the backward steps' contracts speak of beside the rules.
pub mod Scopes
pub mod Deviating
pub mod Turning
