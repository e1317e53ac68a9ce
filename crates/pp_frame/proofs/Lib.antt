pub mod LineLemmas
pub mod HeadLemmas
pub mod FieldLemmas
pub mod FoldLemmas
pub mod NumberLemmas
pub mod ValueLemmas
pub mod Rows
pub mod PlaceLemmas
pub mod ComeLemmas
pub mod OneReading
mod PartLemmas
