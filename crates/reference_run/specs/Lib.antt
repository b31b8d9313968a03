-- What a run has to do with the reference run of its journal's calls.
pub mod JournalCalls
pub mod AsReference
