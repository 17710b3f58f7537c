pub mod Routine
