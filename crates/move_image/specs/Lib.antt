pub mod Fixed
pub mod FixedLaws
pub mod Moving
pub mod MovingLaws
pub mod Small
