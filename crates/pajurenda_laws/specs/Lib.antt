pub mod Theorems
pub mod FieldLaws
pub mod Small
pub mod Demand
pub mod DemandHolds
