pub mod Judgements
pub mod Meanings
