pub mod Near
pub mod NearLaws
pub mod FillLaws
pub mod StandingLaws
