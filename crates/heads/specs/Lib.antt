pub mod Heads
pub mod Faults
