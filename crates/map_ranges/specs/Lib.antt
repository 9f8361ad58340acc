pub mod Ranges
pub mod Table
pub mod RangesLaws
pub mod Gathering
