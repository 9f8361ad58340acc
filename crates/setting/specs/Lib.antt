pub mod Setting
pub mod SettingLaws
pub mod Theorems
pub mod Small
pub mod Finding
pub mod FindingLaws
