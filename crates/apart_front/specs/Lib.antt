pub mod Fronts
pub mod FrontsLaws
