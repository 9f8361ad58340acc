pub mod Listing
pub mod ListingLaws
pub mod Filling
pub mod Theorems
pub mod Small
