pub mod Set
pub mod SetLaws
pub mod PartLaws
pub mod Small
