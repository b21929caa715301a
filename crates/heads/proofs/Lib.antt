pub mod Tests
pub mod Outlines
