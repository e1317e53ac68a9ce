-- The flow of a program has the moves of its machine.
use Rattle.std.proofs.Common.{subst, ◌≡◌, ◌<◌, ℕ, List, Option, length, inl, inr}
use Rattle.std.specs.Prelude.{slice_get}
use Rattle.std.proofs.lemmas.Option.{slice_get_past}
use Rattle.std.proofs.lemmas.Bool.{cases_lt}
use Rattle.pp_flow.specs.Chart.{Chart}
use Rattle.pp_flow.specs.Rows.{Way}
use Rattle.pp_flow.proofs.RowLemmas.{free-ends, onward-ends}
use Rattle.pp_event.proofs.FlowLemmas.{HasMoves}
use Rattle.pp_program.specs.declared.program.State.{State}
use Rattle.pp_program.specs.declared.program.Program.{Program}
use Rattle.pp_program.specs.Moves.{program_moves}
use Rattle.pp_program.specs.steps.Ends.{EndsAt, ends_of}
use Rattle.pp_program.specs.steps.Rows.{IsFlowOf, TellsBelow}
use Rattle.pp_program.proofs.MoveLemmas.{free-told, onward-told, free-made-by, onward-made-by}

pub ends-there : (nodes : List State) (way : Way) (b node next : ℕ) → EndsAt node (slice_get nodes node) way b next → node < length nodes
ends-there nodes way b node next e = elim (cases_lt node (length nodes)) [
  | inl less ↦ less
  | inr past ↦ absurd (subst (λ (o : Option State). EndsAt node o way b next) (slice_get_past nodes node past) e)
]

module _ (p : Program) (c : Chart) (is : IsFlowOf p c) (told : c.told ≡ length p.states) where
  pub tells : TellsBelow p.states (length p.states) c.moves
  tells = subst (λ n. TellsBelow p.states n c.moves) told is.tells

  pub has-moves : HasMoves (program_moves p) c
  has-moves = record {
    entry = is.entry;
    free = λ b node next h.
        (let ends = free-ends (ends_of p.states) (length p.states) c.moves tells (ends-there p.states) b node next h in
        ((λ f. free-made-by p b node next (ends.0 f)), (λ m. ends.1 (free-told p b node next h m))));
    onward = λ b node next h.
        (let ends = onward-ends (ends_of p.states) (length p.states) c.moves tells (ends-there p.states) b node next h in
        ((λ f. onward-made-by p b node next (ends.0 f)), (λ m. ends.1 (onward-told p b node next h m))));
  }
