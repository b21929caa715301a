pub mod Answers
pub mod Rooms
pub mod Searches
