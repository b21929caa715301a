pub mod Meanings
pub mod Parameters
pub mod Bases
pub mod Seen
pub mod Delays
pub mod Histories
pub mod Multiples
