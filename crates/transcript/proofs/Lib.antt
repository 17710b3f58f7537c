pub mod Back
pub mod Hope
pub mod Turns
