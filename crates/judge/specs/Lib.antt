pub mod Lines
pub mod Interim
