pub mod Checked
pub mod Counting
pub mod Filled
pub mod Timed
