-- Definitions of the private steps of the reader. No clause of a public function cites them.
pub mod FirstWord
pub mod Kinds
pub mod Lexing
pub mod Lines
pub mod Places
pub mod Reading
pub mod Rows
pub mod Settled
pub mod Shapes
pub mod View
