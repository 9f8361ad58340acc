pub mod MoveStep
pub mod Within
pub mod SetStep
pub mod TwoSteps
