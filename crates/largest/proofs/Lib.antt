-- Laws for the proofs of this crate.
pub mod ChosenLaws
pub mod EntriesLaws
pub mod OutgoingLaws
pub mod BestLaws
pub mod OnwardLaws
pub mod FollowingLaws
pub mod ExploreLaws
pub mod StatesLaws
pub mod FitLaws
pub mod ShowingLaws
pub mod AnswerLaws
pub mod LaidLaws
