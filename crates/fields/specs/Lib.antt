pub mod Fields
pub mod Laid
pub mod Readings
