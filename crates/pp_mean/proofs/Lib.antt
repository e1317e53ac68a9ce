pub mod EachLemmas
pub mod MatchLemmas
pub mod TurnLemmas
pub mod RunLemmas
pub mod WholeLemmas
pub mod SteadyLaws
pub mod ReturnLaws
mod Rows
