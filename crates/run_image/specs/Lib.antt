pub mod Running
