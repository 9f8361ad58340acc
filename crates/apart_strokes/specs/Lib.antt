pub mod Strokes
pub mod StrokesLaws
