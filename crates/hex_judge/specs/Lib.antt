pub mod Stands
pub mod StandsLaws
