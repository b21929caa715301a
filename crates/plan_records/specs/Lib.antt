pub mod Names
pub mod Records
pub mod Sorts
pub mod Faults
pub mod Readers
