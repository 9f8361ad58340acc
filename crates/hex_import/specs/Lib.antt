pub mod Import
pub mod Found
pub mod ImportLaws
