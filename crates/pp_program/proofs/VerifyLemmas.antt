-- What the flow of a program tells of its loops and spans.
use Rattle.std.proofs.Common.{subst, ◌≡◌, ℕ, ◌<◌, List, sym, length}
use Rattle.pp_flow.specs.Chart.{Chart}
use Rattle.pp_flow.specs.Loops as judged
use Rattle.pp_flow.specs.Faults as faults
use Rattle.pp_flow.specs.Spans as points
use Rattle.pp_flow.specs.Standing.{IsFirstFault, node_of}
use Rattle.pp_flow.specs.Standing as standing
use Rattle.pp_flow.specs.declared.faults.SpanFault.{SpanFault}
use Rattle.pp_flow.proofs.StandingLemmas.{HasWays, spans-fit, same-masks, same-fault, has-fault, none-before, no-fault-has}
use Rattle.pp_event.specs.Loops.{IsGap}
use Rattle.pp_event.proofs.FlowLemmas.{HasMoves, HasTable, cycle-here, cycle-there, same-gap, ranks}
use Rattle.pp_program.specs.declared.program.Program.{Program}
use Rattle.pp_program.specs.declared.fault.VerifyRule.TheVariants.{Target, Width, Loop, Spans}
use Rattle.pp_program.specs.Moves.{program_moves}
use Rattle.pp_program.specs.Spans.{ways, TellsOpen}
use Rattle.pp_program.specs.Valid.{Holds, IsBroken, HasRanks}
use Rattle.pp_program.specs.steps.Rows.{IsFlowOf}
use Rattle.pp_program.proofs.BridgeLemmas.{has-moves}
use Rattle.pp_program.proofs.SpanLemmas.{has-ways}
use Rattle.pp_program.proofs.SoundLemmas.{sound-of}

module _ (p : Program) (c : Chart) (targets : Holds p Target) (is : IsFlowOf p c) (told : c.told ≡ length p.states) (long : length c.acts ≡ length p.states) where
  moves : HasMoves (program_moves p) c
  moves = has-moves p c is told

  spans : HasWays (ways p) c
  spans = has-ways p c (sound-of p targets) is told long

  -- no loop, and the gap
  pub gap-holds : (gap : ℕ) → judged.IsWithoutLoop c.moves c.entry (length c.acts) gap → Holds p Loop × IsGap (program_moves p) gap × HasRanks p gap
  gap-holds gap h =
      let table : HasTable (program_moves p) gap = ranks (program_moves p) c moves gap h.ranks in (
        (λ at cycle. h.free cycle.0 at (cycle-there (program_moves p) c moves cycle.0 at cycle.1)),
        same-gap (program_moves p) c moves gap h.exact,
        record { rank = table.0; table = table.1; low = table.2 },
      )

  -- the least state on a cycle
  pub loop-broken : (at : ℕ) → Holds p Width → judged.IsLeastLooping c.moves c.entry at → IsBroken p Loop at
  loop-broken at widths h = record {
    fails = (h.met.0, cycle-here (program_moves p) c moves h.met.0 at h.met.1);
    least = λ other low cycle. h.least_point cycle.0 other low (cycle-there (program_moves p) c moves cycle.0 other cycle.1);
    first = (targets, widths);
  }

  -- no fault, and the masks
  pub spans-hold : (opened : List ℕ) → ((x : ℕ) → x < length c.acts → faults.HasNoFault (points.MayStand c.moves c.acts c.entry) c.acts x) × points.TellsOpen c.moves c.acts c.entry (length c.acts) opened →
      Holds p Spans × TellsOpen p opened
  spans-hold opened h = (
    (λ at fault. no-fault-has (ways p) at (spans-fit (ways p) c spans h.0 at) fault),
    subst (λ n. standing.TellsOpen (ways p) n opened) long (same-masks (ways p) c spans opened h.1),
  )

  -- the least state with a fault
  pub spans-broken : (f : SpanFault) (at : ℕ) → at ≡ node_of f → Holds p Width → Holds p Loop → faults.IsFirstFault (points.MayStand c.moves c.acts c.entry) c.acts f → IsBroken p Spans at
  spans-broken f at e widths loops h =
      let first : IsFirstFault (ways p) f = same-fault (ways p) c spans f h in
      subst (IsBroken p Spans) (sym e) (record {
        fails = has-fault (ways p) f first;
        least = λ other low fault. no-fault-has (ways p) other (none-before (ways p) f first other low) fault;
        first = (targets, widths, loops);
      })
