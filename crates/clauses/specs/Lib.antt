pub mod Meaning
pub mod Falsity
pub mod Statements
