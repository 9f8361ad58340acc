pub mod Ranks
pub mod RanksLaws
