pub mod Decode
pub mod Instruction
pub mod Operation
