pub mod AddsLemmas
pub mod MovesLemmas
pub mod TakeLemmas
