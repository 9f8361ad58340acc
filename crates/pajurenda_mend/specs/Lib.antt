pub mod Promises
pub mod PromiseLaws
