pub mod Folded
pub mod Placing
pub mod PlacingLaws
pub mod WindowLaws
