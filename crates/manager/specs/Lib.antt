-- What the manager's contracts speak of beside the rules.
pub mod Checked
