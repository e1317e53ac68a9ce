-- Words of private steps alone. No public clause cites them.
pub mod Ends
pub mod Rows
