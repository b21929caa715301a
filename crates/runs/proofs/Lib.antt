pub mod Founds
pub mod Turns
pub mod Steps
pub mod Keeping
pub mod Logs
pub mod Standing
pub mod Openings
