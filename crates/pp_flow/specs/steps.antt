-- Words of private steps alone. No public clause cites them.
pub mod Bits
pub mod Faults
pub mod Judging
pub mod Parts
pub mod Ranked
pub mod Reach
pub mod Round
pub mod Search
pub mod Spans
pub mod Spread
pub mod Table
