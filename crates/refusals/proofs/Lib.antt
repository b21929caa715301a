pub mod Firsts
pub mod Chained
pub mod Numbered
