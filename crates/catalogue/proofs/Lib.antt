pub mod Learning
pub mod Writing
pub mod Replying
