-- The rows of a match node's prefixes.
use Rattle.pp_graph.specs.Plan.{key_bytes}
use Rattle.pp_graph.specs.declared.node.Key.{Key}
use Rattle.std.specs.Prelude.{List}
use Rattle.pp_lower.specs.declared.states.Rows.{Rows}
use Rattle.pp_lower.specs.Lowered.{inner_of}
use Rattle.pp_lower.specs.steps.Links.{links_in, AreLinks, AreEnds}

-- the rows are those of these keys
pub record AreRows (keys : List Key) (rows : Rows) : Type 0 where
  pub inner : AreLinks (inner_of keys) (inner_of keys) (links_in rows.inner.items)
  pub longer : AreLinks (inner_of keys) (key_bytes keys) (links_in rows.keys.items)
  pub ends : AreEnds (inner_of keys) (key_bytes keys) rows.ends.items
