pub mod Log
pub mod Grammar
pub mod GrammarHolds
pub mod Said
pub mod Theorems
pub mod Example
