pub mod Table
pub mod Entry
pub mod EntryLaws
pub mod Passes
pub mod PassesLaws
pub mod TableLaws
