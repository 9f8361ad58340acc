pub mod Modules
pub mod ModulesFit
pub mod ModulesLaws
pub mod Bounds
pub mod Frame
