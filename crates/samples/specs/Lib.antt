pub mod Samples
pub mod SamplesHold
