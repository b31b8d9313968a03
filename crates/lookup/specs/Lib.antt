-- Where a step starts, the figures that it keeps for each track, and one track replaced.
pub mod HostTrack
pub mod Figures
pub mod OneTrack
