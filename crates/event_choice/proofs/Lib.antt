-- Laws of an event's choice.
pub mod Visits
pub mod Takers
pub mod Moved
pub mod Still
pub mod Ending
pub mod Undoing
pub mod OneMove
pub mod DayMoves
pub mod Choosing
