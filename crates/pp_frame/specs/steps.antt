pub mod Codings
pub mod Heads
pub mod Places
