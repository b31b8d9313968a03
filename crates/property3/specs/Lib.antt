-- What the contract of `run_calls` speaks of beside the rules.
pub mod FreeBooks
pub mod FreeRun
pub mod SmallProperty3
pub mod Encoding
pub mod CallsRun
