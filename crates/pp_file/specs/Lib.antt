pub mod Fields
pub mod Held
pub mod Parts
pub mod Reading
pub mod Spelling
pub mod steps
