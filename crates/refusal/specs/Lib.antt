pub mod Refusal
pub mod Same
