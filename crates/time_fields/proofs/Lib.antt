pub mod Widths
pub mod Spelled
