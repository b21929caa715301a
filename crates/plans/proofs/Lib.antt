pub mod Views
pub mod Memories
