pub mod Answer
pub mod Cache
pub mod Entry
pub mod Group
pub mod Pair
pub mod Question
pub mod Same
