-- What the private steps hand to each other. No public clause cites these.
pub mod Reading
pub mod Checking
pub mod Stops
