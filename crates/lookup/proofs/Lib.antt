-- Laws of where a step starts, of its figures and of one track replaced.
pub mod Facts
pub mod FiguresLaws
pub mod OneTrackLaws
pub mod Inside
