pub mod Volume
pub mod VolumeLaws
pub mod SumLaws
