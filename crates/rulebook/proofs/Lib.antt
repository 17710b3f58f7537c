pub mod Entries
pub mod Questions
