-- What the calls of a parser leave of it.
use Rattle.std.proofs.Common.{◌≡◌, ℕ, ap, arith, sym, subst, List, Result}
use Rattle.pp_event.specs.Told.{Told}
use Rattle.pp_event.specs.Events.{Shown}
use Rattle.pp_engine.specs.declared.standing.FinishOutcome.{FinishOutcome}
use Rattle.pp_engine.specs.declared.standing.NotPaused.{NotPaused}
use Rattle.pp_engine.specs.declared.standing.Outcome.{Outcome}
use Rattle.pp_engine.specs.declared.standing.Stand.{Stand}
use Rattle.pp_engine.specs.declared.standing.Stand.TheVariants as stand
use Rattle.pp_engine.specs.Feeds.{Within}
use Rattle.pp_engine.specs.Finishing.{IsFinished, IsFinishedAt}
use Rattle.pp_engine.specs.Parsers.{IsFed, IsFedAt, IsResumed, IsResumedAt}
use Rattle.pp_engine.specs.Stood.{Shows}

same_program : {a b : Shows} → b ≡ a → b.program ≡ a.program
same_program e = ap (λ (q : Shows). q.program) e

-- a parser that did not change took no byte
took_none : {a b : Shows} (w : List ℕ) → b ≡ a → Within a.config b.config w
took_none {a} {b} w e = subst (λ (q : Shows). Within a.config q.config w) (sym e) (record { least = omega (arith); most = omega (arith) })

-- the program, and the bytes that were taken
record Leaves (a b : Shows) (w : List ℕ) : Type 0 where
  pub program : b.program ≡ a.program
  pub within : Within a.config b.config w

left_alone : {a b : Shows} (w : List ℕ) → b ≡ a → Leaves a b w
left_alone w e = record { program = same_program e; within = took_none w e }

module _ {View : Type 0} (allows : View → Told → Type 0) (next : View → Told → View) (a b : Shows) (old new : Shown View) where
  fed_at : (w : List ℕ) (n : ℕ) (o : Outcome) (s : Stand) → IsFedAt allows next a b w old new n o s → Leaves a b w
  fed_at w n o stand.Ready h = record { program = h.program; within = h.fed.within }
  fed_at w n o stand.Waiting h = record { program = h.program; within = h.fed.within }
  fed_at w n o (stand.Paused code onto) h = left_alone w h.parser
  fed_at w n o (stand.Failed code) h = left_alone w h.parser
  fed_at w n o (stand.Stopped answer) h = left_alone w h.parser
  fed_at w n o (stand.Refused answer) h = left_alone w h.parser
  fed_at w n o stand.Unsafe h = left_alone w h.parser
  fed_at w n o stand.Spent h = left_alone w h.parser
  fed_at w n o stand.Finished h = left_alone w h.parser

  -- a feed keeps the program
  pub fed_program : (w : List ℕ) (n : ℕ) (o : Outcome) → IsFed allows next a b w old new n o → b.program ≡ a.program
  fed_program w n o h = (fed_at w n o a.stand h).program

  -- and takes no more than its input
  pub fed_within : (w : List ℕ) (n : ℕ) (o : Outcome) → IsFed allows next a b w old new n o → Within a.config b.config w
  fed_within w n o h = (fed_at w n o a.stand h).within

  finished_at : (o : FinishOutcome) (s : Stand) → IsFinishedAt allows next a b old new o s → b.program ≡ a.program
  finished_at o stand.Ready h = ap (λ (q : Shows). q.program) h.parser
  finished_at o stand.Waiting h = ap (λ (q : Shows). q.program) h.parser
  finished_at o (stand.Paused code onto) h = same_program h.parser
  finished_at o (stand.Failed code) h = same_program h.parser
  finished_at o (stand.Stopped answer) h = same_program h.parser
  finished_at o (stand.Refused answer) h = same_program h.parser
  finished_at o stand.Unsafe h = same_program h.parser
  finished_at o stand.Spent h = same_program h.parser
  finished_at o stand.Finished h = same_program h.parser

  -- a finish keeps the program
  pub finished_program : (o : FinishOutcome) → IsFinished allows next a b old new o → b.program ≡ a.program
  finished_program o h = finished_at o a.stand h

module _ (a b : Shows) (result : Result (Unit {0}) NotPaused) where
  resumed_at : (s : Stand) → IsResumedAt a b result s → b.program ≡ a.program
  resumed_at stand.Ready h = same_program h.parser
  resumed_at stand.Waiting h = same_program h.parser
  resumed_at (stand.Paused code onto) h = ap (λ (q : Shows). q.program) h.0
  resumed_at (stand.Failed code) h = same_program h.parser
  resumed_at (stand.Stopped answer) h = same_program h.parser
  resumed_at (stand.Refused answer) h = same_program h.parser
  resumed_at stand.Unsafe h = same_program h.parser
  resumed_at stand.Spent h = same_program h.parser
  resumed_at stand.Finished h = same_program h.parser

  -- a resume keeps the program
  pub resumed_program : IsResumed a b result → b.program ≡ a.program
  resumed_program h = resumed_at a.stand h
