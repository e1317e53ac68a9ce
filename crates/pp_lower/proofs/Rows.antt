-- A worked tree and its states, which the definitions compute.
use Rattle.std.proofs.Common.{◌≡◌, ℕ, List, [], ◌∷◌, None, true, false, refl}
use Rattle.pp_bytes.specs.declared.fold.Fold.TheVariants.{Same}
use Rattle.pp_graph.specs.declared.node.Key.{Key}
use Rattle.pp_graph.specs.declared.node.Code.TheVariants as code
use Rattle.pp_graph.specs.declared.node.Kind.TheVariants as kind
use Rattle.pp_graph.specs.declared.node.Node.{Node}
use Rattle.pp_graph.specs.Plan.{key_bytes}
use Rattle.pp_program.specs.declared.program.Edge.{Edge}
use Rattle.pp_program.specs.declared.program.Instr.TheVariants as instr
use Rattle.pp_lower.specs.Tree.{prefixes}
use Rattle.pp_lower.specs.Lowered.{states_by}

-- `ab` to the node 1, `abc` to the node 2
abbrev keys : List Key
keys = record { bytes = 97 ∷ 98 ∷ []; number = None; target = 1 } ∷ record { bytes = 97 ∷ 98 ∷ 99 ∷ []; number = None; target = 2 } ∷ []

tree : prefixes (key_bytes keys) ≡ [] ∷ (97 ∷ []) ∷ (97 ∷ 98 ∷ []) ∷ (97 ∷ 98 ∷ 99 ∷ []) ∷ []
tree = refl

abbrev nodes : List Node
nodes =
    record { name = 115 ∷ []; kind = kind.Match Same keys [] (record { skip = false; target = 3 }) }
    ∷ record { name = 120 ∷ []; kind = kind.Invoke (code.Call 0) [] 0 }
    ∷ record { name = 121 ∷ []; kind = kind.Invoke (code.Call 1) [] 0 }
    ∷ record { name = 122 ∷ []; kind = kind.Fail 1 [] } ∷ []

abbrev edge : ℕ → ℕ → Edge
edge b target = record { lo = b; hi = b; take = true; number = None; target = target }

-- the node has three states: the root, that of `a`, whose rest leads to the otherwise, and that of `ab`, whose rest leads
-- to the key's target; no rest is a skip
states : states_by nodes ≡
    record { origin = 0; instr = instr.Branch Same [] (edge 97 1 ∷ []) (record { skip = false; number = None; target = 5 }) }
    ∷ record { origin = 0; instr = instr.Branch Same [] (edge 98 2 ∷ []) (record { skip = false; number = None; target = 5 }) }
    ∷ record { origin = 0; instr = instr.Branch Same [] (edge 99 4 ∷ []) (record { skip = false; number = None; target = 3 }) }
    ∷ record { origin = 1; instr = instr.Invoke (code.Call 0) [] 0 }
    ∷ record { origin = 2; instr = instr.Invoke (code.Call 1) [] 0 }
    ∷ record { origin = 3; instr = instr.Fail 1 [] } ∷ []
states = refl
