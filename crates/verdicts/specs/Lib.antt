pub mod Meanings
pub mod Faults
