pub mod Programs
pub mod RunLaws
pub mod Runs
pub mod StepLaws
pub mod Steps
