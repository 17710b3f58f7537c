pub mod Line
pub mod Reading
pub mod Transcript
