pub mod Year
pub mod YearLaws
pub mod YearHolds
pub mod YearMet
pub mod AsReleased
pub mod AsReleasedHolds
