-- What finish is told of open scopes.
pub mod UndoingScopes
