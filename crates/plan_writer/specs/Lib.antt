pub mod Faults
pub mod Lent
