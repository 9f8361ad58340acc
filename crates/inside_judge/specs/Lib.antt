pub mod Rules
pub mod RulesLaws
pub mod Judges
pub mod JudgesLaws
pub mod Runs
pub mod RunsLaws
pub mod Parts
pub mod PartsLaws
