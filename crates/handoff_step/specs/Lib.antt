pub mod Step
pub mod StepLaws
pub mod Passing
pub mod Types
