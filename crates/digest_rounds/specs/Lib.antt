pub mod Rounds
pub mod RoundsLaws
