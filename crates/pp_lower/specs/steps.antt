-- Words of private steps alone. No public clause cites them.
pub mod Order
pub mod Links
pub mod Parts
pub mod Rows
