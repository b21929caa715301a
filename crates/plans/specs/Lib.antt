pub mod Plans
pub mod Views
pub mod Lent
pub mod Memory
pub mod Faults
