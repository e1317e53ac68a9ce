mod Bond
mod Keys
mod MatchLaws
mod TreeLaws
mod EdgeLaws
mod WalkLaws
mod NodeWalks
mod StateLaws
mod LowerLaws
mod FormLaws
mod OrderLaws
mod LinkLaws
mod EdgeCode
mod CutLemmas
mod AnswerLemmas
mod NodeLemmas
mod RowLemmas
mod PlaceLemmas
mod FromStates
mod ValidTargets
mod KeyTree
mod Rows
mod ValidWidths
mod ValidNames
mod ValidSpans
mod LoopWalks
mod ValidLoops
mod TreeForms
mod EdgeCounts
mod LengthLemmas
pub mod FrameLemmas
pub mod ValidLaws
pub mod EmptyLaws
mod PrefixLaws
