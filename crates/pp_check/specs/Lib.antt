pub mod Edges
pub mod Loops
pub mod Spans
pub mod Checked
pub mod steps
