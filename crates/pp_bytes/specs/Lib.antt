pub mod Bytes
pub mod Fold
pub mod Number
pub mod Ranges
pub mod Runs
pub mod steps
