pub mod Naming
pub mod Recording
pub mod Endings
