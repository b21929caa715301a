pub mod Contents
pub mod Readings
pub mod Writings
pub mod Trips
pub mod Named
