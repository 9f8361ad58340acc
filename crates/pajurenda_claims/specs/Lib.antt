pub mod Outcomes
pub mod OutcomesHold
pub mod Claims
pub mod ClaimsHold
pub mod Met
pub mod Steps
pub mod StepsHold
