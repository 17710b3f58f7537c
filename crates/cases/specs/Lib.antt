pub mod AtDepthZero
pub mod Marked
pub mod Routine
pub mod Sample
