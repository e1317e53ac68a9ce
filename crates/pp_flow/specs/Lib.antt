pub mod Chart
pub mod Faults
pub mod Flow
pub mod Loops
pub mod Rows
pub mod Spans
pub mod Standing
pub mod steps
