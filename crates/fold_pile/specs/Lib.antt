pub mod Pile
pub mod PileLaws
pub mod Refused
pub mod Judged
pub mod SheetsLaws
