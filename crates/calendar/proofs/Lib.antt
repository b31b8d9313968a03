-- Laws of the calendar, its theorems, and examples.
pub mod YearLaws
pub mod MonthLaws
pub mod DateLaws
pub mod CenturyLaws
pub mod DayLaws
pub mod Theorems
pub mod Examples
