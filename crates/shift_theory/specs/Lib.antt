pub mod Shifts
pub mod Promises
pub mod Lent
