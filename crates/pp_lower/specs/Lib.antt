pub mod Tree
pub mod Lowered
pub mod LoweredGraph
pub mod Kept
pub mod steps
