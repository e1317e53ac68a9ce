pub mod StepLaws
pub mod IsolationLaws
pub mod FeedLaws
pub mod CutLaws
pub mod BeginLaws
pub mod GrowthLaws
pub mod RunsLaws
pub mod SameLaws
pub mod KeptLaws
pub mod FaultLaws
pub mod OrderLaws
mod Rows
