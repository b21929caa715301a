pub mod Faults
pub mod Runs
pub mod Words
pub mod Plays
