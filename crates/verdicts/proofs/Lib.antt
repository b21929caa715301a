pub mod Order
pub mod Splits
pub mod Accepts
pub mod Answering
