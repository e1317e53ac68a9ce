pub mod Words
pub mod Answers
pub mod Verdict
pub mod GraphText
pub mod Capture
pub mod Report
pub mod Checks
pub mod Check
pub mod Print
pub mod Trace
pub mod Commands
pub mod steps
pub mod Facts
pub use Rattle.pp_graph.specs.Plan
pub use Rattle.pp_graph.specs.Calls
pub use Rattle.pp_graph.specs.Built
pub use Rattle.pp_rules.specs.Rules
pub use Rattle.pp_text.specs.Tokens
pub use Rattle.pp_text.specs.Keys
pub use Rattle.pp_text.specs.Statements
pub use Rattle.pp_text.specs.Text
pub use Rattle.pp_text.specs.Outcome
pub use Rattle.pp_text.specs.Printed
pub use Rattle.pp_event.specs.Chain
pub use Rattle.pp_event.specs.Run
pub use Rattle.pp_event.specs.Loops as RunLoops
pub use Rattle.pp_event.specs.Answers as RunAnswers
pub use Rattle.pp_mean.specs.Nodes
pub use Rattle.pp_mean.specs.Mean
pub use Rattle.pp_mean.specs.Loops as GraphLoops
pub use Rattle.pp_mean.specs.Plain
pub use Rattle.pp_check.specs.Edges
pub use Rattle.pp_check.specs.Loops as CheckLoops
pub use Rattle.pp_check.specs.Spans
pub use Rattle.pp_check.specs.Checked
pub use Rattle.pp_outside.specs.Faults
pub use Rattle.pp_capture.specs.Spelling
