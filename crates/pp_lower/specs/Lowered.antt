-- The program that a graph is lowered to.
use Rattle.std.specs.Prelude.{ℕ, zero, suc, ◌+◌, List, [], ◌∷◌, ◌++◌, Option, Some, None, true, false, length, map, nat_le, ◌==◌, if◌then◌else◌, find, bytes_eq}
use Rattle.pp_bytes.specs.declared.fold.Fold.{Fold}
use Rattle.pp_graph.specs.declared.node.Key.{Key}
use Rattle.pp_graph.specs.declared.node.Peek.{Peek}
use Rattle.pp_graph.specs.declared.node.Answer.{Answer}
use Rattle.pp_graph.specs.declared.node.Other.{Other}
use Rattle.pp_graph.specs.declared.node.Kind.{Kind}
use Rattle.pp_graph.specs.declared.node.Kind.TheVariants as kind
use Rattle.pp_graph.specs.declared.node.Node.{Node}
use Rattle.pp_graph.specs.Plan.{Plan, key_bytes}
use Rattle.pp_program.specs.declared.program.Edge.{Edge}
use Rattle.pp_program.specs.declared.program.Rest.{Rest}
use Rattle.pp_program.specs.declared.program.Instr.{Instr}
use Rattle.pp_program.specs.declared.program.Instr.TheVariants as instr
use Rattle.pp_program.specs.declared.program.State.{State}
use Rattle.pp_program.specs.declared.program.Program.{Program}
use Rattle.pp_program.specs.Merge.{merged}
use Rattle.pp_lower.specs.Tree.{inner_prefixes, place_of, each_below}

-- the proper prefixes of a node's keys that aren't empty
abbrev pub inner_of : List Key → List (List ℕ)
inner_of keys = inner_prefixes (key_bytes keys)

-- the key of these bytes
abbrev pub key_of : List Key → List ℕ → Option Key
key_of keys p = find (λ (k : Key). bytes_eq p k.bytes) keys

-- how many states a node gives: a match node one for its root and one for each inner prefix, any other one
abbrev pub size : Kind → ℕ
size (kind.Match fold keys peeks other) = suc (length (inner_of keys))
size (kind.Invoke code answers other) = 1
size (kind.Consume prop next) = 1
size (kind.SpanOpen span next) = 1
size (kind.SpanClose span next) = 1
size (kind.Pause code reason next) = 1
size (kind.Fail code reason) = 1

-- the place of a node's first state; behind the last node, how many states all give
abbrev pub root_of : List Node → ℕ → ℕ
root_of [] i = 0
root_of (n ∷ nodes) zero = 0
root_of (n ∷ nodes) (suc i) = size n.kind + root_of nodes i

-- the peek edge of a byte, which the root alone has
abbrev pub peek_of : List Peek → List ℕ → ℕ → Option Peek
peek_of peeks [] b = find (λ (p : Peek). p.byte == b) peeks
peek_of peeks (x ∷ prefix) b = None

-- An edge on the byte b: to an inner state, else by a key, else by a peek. root is the place of the node's first state,
-- and roots are those of all nodes.
abbrev pub edge_by : (ℕ → ℕ) → ℕ → ℕ → Option ℕ → Option Key → Option Peek → Option Edge
edge_by roots root b (Some i) key peek = Some (record { lo = b; hi = b; take = true; number = None; target = root + suc i })
edge_by roots root b None (Some k) peek = Some (record { lo = b; hi = b; take = true; number = k.number; target = roots k.target })
edge_by roots root b None None (Some p) = Some (record { lo = b; hi = b; take = false; number = None; target = roots p.target })
edge_by roots root b None None None = None

-- the edge on b of the state of a prefix
abbrev pub edge_at : (ℕ → ℕ) → ℕ → List Key → List Peek → List ℕ → ℕ → Option Edge
edge_at roots root keys peeks prefix b =
    edge_by roots root b (place_of (prefix ++ b ∷ []) (inner_of keys)) (key_of keys (prefix ++ b ∷ [])) (peek_of peeks prefix b)

-- what the state of a prefix does on other bytes: by the key of these very bytes, without a skip, else by the node's otherwise
abbrev pub rest_by : (ℕ → ℕ) → Other → Option Key → Rest
rest_by roots other None = record { skip = other.skip; number = None; target = roots other.target }
rest_by roots other (Some k) = record { skip = false; number = k.number; target = roots k.target }

-- the branch of the state of a prefix, with an edge for each row of bytes on which it does the same
abbrev pub branch_of : (ℕ → ℕ) → ℕ → Fold → List Key → List Peek → Other → List ℕ → Instr
branch_of roots root fold keys peeks other prefix =
    instr.Branch fold [] (merged (each_below (edge_at roots root keys peeks prefix) 256)) (rest_by roots other (key_of keys prefix))

-- answers in order of their numbers, with one more
abbrev pub with_answer : Answer → List Answer → List Answer
with_answer a [] = a ∷ []
with_answer a (x ∷ l) = if nat_le a.number x.number then a ∷ x ∷ l else x ∷ with_answer a l

-- answers in order of their numbers, each to the root of where it led
abbrev pub answers_of : (ℕ → ℕ) → List Answer → List Answer
answers_of roots [] = []
answers_of roots (a ∷ answers) = with_answer (record { number = a.number; target = roots a.target }) (answers_of roots answers)

-- the instructions of a node, whose first state is at the place root
abbrev pub instrs_of : (ℕ → ℕ) → ℕ → Kind → List Instr
instrs_of roots root (kind.Match fold keys peeks other) = map (branch_of roots root fold keys peeks other) ([] ∷ inner_of keys)
instrs_of roots root (kind.Invoke code answers other) = instr.Invoke code (answers_of roots answers) (roots other) ∷ []
instrs_of roots root (kind.Consume prop next) = instr.Consume prop (roots next) ∷ []
instrs_of roots root (kind.SpanOpen span next) = instr.SpanOpen span (roots next) ∷ []
instrs_of roots root (kind.SpanClose span next) = instr.SpanClose span (roots next) ∷ []
instrs_of roots root (kind.Pause code reason next) = instr.Pause code reason (roots next) ∷ []
instrs_of roots root (kind.Fail code reason) = instr.Fail code reason ∷ []

-- the states of a node
abbrev pub states_of : (ℕ → ℕ) → ℕ → ℕ → Kind → List State
states_of roots origin root k = map (λ (i : Instr). record { origin = origin; instr = i }) (instrs_of roots root k)

-- the states of nodes, the first of which is the node of this number and begins at the place root
abbrev pub states_from : (ℕ → ℕ) → ℕ → ℕ → List Node → List State
states_from roots origin root [] = []
states_from roots origin root (n ∷ nodes) = states_of roots origin root n.kind ++ states_from roots (suc origin) (root + size n.kind) nodes

-- the states of all nodes
abbrev pub states_by : List Node → List State
states_by nodes = states_from (root_of nodes) 0 0 nodes

-- the program of a graph: its declarations, and its nodes in order
abbrev pub lowered : Plan → Program
lowered g = record {
  props = g.props;
  hosts = g.hosts;
  spans = g.spans;
  names = map (λ (n : Node). n.name) g.nodes;
  states = states_by g.nodes;
  entry = root_of g.nodes g.entry;
  finish = g.finish;
}
