pub mod Judgements
pub mod Acts
pub mod Trailer
