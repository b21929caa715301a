pub mod Faults
pub mod Layouts
pub mod Readings
pub mod Writings
pub mod Trips
