pub mod Told
pub mod Places
