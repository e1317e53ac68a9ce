pub mod Bytes
pub mod Lines
pub mod Fields
pub mod Framing
pub mod StartLine
pub mod Chunked
pub mod Cut
pub mod steps
