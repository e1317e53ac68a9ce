-- Words of private steps alone. No public clause cites them.
pub mod Places
pub mod Readers
