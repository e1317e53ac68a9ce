pub mod ByteLemmas
pub mod CountLemmas
pub mod NumberLemmas
pub mod NumberRows
pub mod RangesLemmas
pub mod RunLemmas
pub mod TableLemmas
