pub mod StateTurns
pub mod LeastLemmas
pub mod NameLemmas
pub mod RowLemmas
pub mod FlowLemmas
pub mod MoveLemmas
pub mod BridgeLemmas
pub mod SpanLemmas
pub mod SoundLemmas
pub mod TextLemmas
pub mod VerifyLemmas
pub mod MergeLaws
pub mod ValidLaws
pub mod RunnableLemmas
pub mod StandLemmas
pub mod TableLemmas
mod Rows
