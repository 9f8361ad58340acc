pub mod Ranks
pub mod Insert
pub mod InsertLaws
pub mod RanksLaws
