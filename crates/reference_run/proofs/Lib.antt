-- A run of the program as the reference run of its journal's calls.
pub mod JournalCalls
pub mod ReferenceRun
