pub mod Nodes
pub mod Mean
pub mod Loops
pub mod Plain
pub mod Whole
pub mod Steps
pub use Rattle.pp_event.specs.Chain
pub use Rattle.pp_event.specs.Run
pub use Rattle.pp_event.specs.Answers
pub use Rattle.pp_event.specs.Loops as RunLoops
pub use Rattle.pp_event.specs.Turns
pub use Rattle.pp_graph.specs.Plan
