pub mod Verdicts
pub mod Faults
