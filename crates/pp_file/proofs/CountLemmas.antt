-- A program whose file is short has few entries in each of its lists.
use Rattle.std.proofs.Common.{◌≡◌, ℕ, zero, suc, ◌+◌, ◌*◌, ◌^◌, ◌<◌, ◌≤◌, List, [], ◌∷◌, length, Some, refl, sym, subst, arith}
use Rattle.std.specs.Prelude.{sum_by, slice_get}
use Rattle.std.proofs.lemmas.List.Sums.{sum_by-cons}
use Rattle.pp_graph.specs.declared.node.Answer.{Answer}
use Rattle.pp_rules.specs.declared.declaration.PropDecl.{PropDecl}
use Rattle.pp_rules.specs.declared.declaration.HostDecl.{HostDecl}
use Rattle.pp_rules.specs.declared.declaration.SpanDecl.{SpanDecl}
use Rattle.pp_program.specs.declared.program.Edge.{Edge}
use Rattle.pp_program.specs.declared.program.Instr.{Instr}
use Rattle.pp_program.specs.declared.program.Instr.TheVariants.{Branch, Invoke, Consume, SpanOpen, SpanClose, Pause, Fail}
use Rattle.pp_program.specs.declared.program.State.{State}
use Rattle.pp_program.specs.declared.program.Program.{Program}
use Rattle.pp_program.specs.FileLength.{text_length, edge_length, answers_length, code_length, rest_length, instr_length, state_length, finish_length, file_length}
use Rattle.pp_program.specs.Countable.{HasFew, IsCountable}

-- where each item has a byte, there are at least as many bytes as items
each_counts : (X : Type 0) (size : X → ℕ) → ((x : X) → 1 ≤ size x) → (xs : List X) → length xs ≤ sum_by size xs
each_counts X size some [] = omega arith
each_counts X size some (x ∷ xs) = omega (arith, some x, each_counts X size some xs, sum_by-cons size x xs)

-- one item has no more bytes than all
one_below : (X : Type 0) (size : X → ℕ) (xs : List X) (i : ℕ) (x : X) → slice_get xs i ≡ Some x → size x ≤ sum_by size xs
one_below X size [] i x at = absurd cc
one_below X size (y ∷ xs) zero x at =
    let same : y ≡ x = cc in
    subst (λ (z : X). size z ≤ sum_by size (y ∷ xs)) same (omega (arith, sum_by-cons size y xs))
one_below X size (y ∷ xs) (suc i) x at = omega (arith, one_below X size xs i x at, sum_by-cons size y xs)

few_in : (i : Instr) → instr_length i < 2 ^ 32 → HasFew i
few_in (Branch fold stay edges rest) short = omega (arith, each_counts Edge edge_length (λ e. omega arith) edges)
few_in (Invoke what answers other) short = omega arith
few_in (Consume prop next) short = tt
few_in (SpanOpen span next) short = tt
few_in (SpanClose span next) short = tt
few_in (Pause number reason next) short = tt
few_in (Fail number reason) short = tt

pub countable : (p : Program) → file_length p < 2 ^ 32 → IsCountable p
countable p short = record {
  props = omega (arith, each_counts PropDecl (λ d. text_length d.name + 1) (λ d. omega arith) p.props);
  hosts = omega (arith, each_counts HostDecl (λ d. text_length d.name + 1) (λ d. omega arith) p.hosts);
  spans = omega (arith, each_counts SpanDecl (λ d. text_length d.name) (λ d. omega arith) p.spans);
  names = omega (arith, each_counts (List ℕ) text_length (λ t. omega arith) p.names);
  states = omega (arith, each_counts State state_length (λ s. omega arith) p.states);
  lists = λ i s at. few_in s.instr (omega (arith, one_below State state_length p.states i s at));
}
