pub mod Chains
pub mod Laid
pub mod Readings
