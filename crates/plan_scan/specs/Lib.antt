-- What the scan's contracts speak of beside the rules.
pub mod Kinds
pub mod Scanned
pub mod RecordRuns
