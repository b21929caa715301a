pub mod Moments
pub mod Coding
