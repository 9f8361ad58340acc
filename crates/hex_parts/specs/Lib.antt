pub mod Decoded
pub mod DecodedLaws
pub mod Told
