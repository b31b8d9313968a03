-- What the ledger's contracts speak of beside the rules.
pub mod Ladder
pub mod Words
