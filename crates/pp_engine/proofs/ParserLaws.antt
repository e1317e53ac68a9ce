-- A new parser can be fed. What a parser that is ready or waits does.
use Rattle.std.proofs.Common.{◌≡◌, ◌⊎◌, ℕ, zero, suc, inl, inr, subst, sym, List, Option, None, refl, ap, length}
use Rattle.std.specs.Prelude.{replicate}
use Rattle.pp_event.specs.Told.{Told}
use Rattle.pp_event.specs.Events.{Shown}
use Rattle.pp_event.specs.Loops.{at_entry}
use Rattle.pp_program.specs.Runnable.{IsRunnable}
use Rattle.pp_program.specs.States.{program_entry}
use Rattle.pp_program.specs.Valid.{Sound}
use Rattle.pp_engine.specs.declared.standing.Outcome.{Outcome}
use Rattle.pp_engine.specs.declared.standing.FinishOutcome.{FinishOutcome}
use Rattle.pp_engine.specs.declared.standing.Stand.TheVariants as stand
use Rattle.pp_engine.specs.Feeds.{OpenBelow, Fits, CanStand}
use Rattle.pp_engine.specs.Finishing.{Ruled, IsFinished, IsFinishedAt}
use Rattle.pp_engine.specs.Parsers.{Ran, IsFed, IsFedAt}
use Rattle.pp_engine.specs.Stood.{Shows}

all_shut : (n at : ℕ) → OpenBelow (replicate n None) at
all_shut zero at i from e = cc
all_shut (suc n) at zero from e = cc
all_shut (suc n) at (suc i) from e = all_shut n at i from e

shut_length : (n : ℕ) → length (replicate {A = Option ℕ} n None) ≡ n
shut_length zero = refl
shut_length (suc n) = ap suc (shut_length n)

module _ (v : Sound) (values : List ℕ) (good : IsRunnable v) (h : length values ≡ length v.program.props) where
  pub entry_fits : Fits v.program (program_entry v.program values)
  entry_fits = record {
    node = good.entry.within;
    values = h;
    spans = shut_length (length v.program.spans);
    open_below = all_shut (length v.program.spans) 0;
  }

  pub can_start : CanStand v.program (program_entry v.program values)
  can_start = record { fits = entry_fits; lies = inl (λ b n. at_entry n) }

-- a feed of a parser that is ready or waits
pub fed_if : {View : Type 0} (allows : View → Told → Type 0) (next : View → Told → View) (a b : Shows) (w : List ℕ) (old new : Shown View) (n : ℕ) (o : Outcome) →
    (a.stand ≡ stand.Ready) ⊎ (a.stand ≡ stand.Waiting) → Ran allows next a b w old new n o → IsFed allows next a b w old new n o
fed_if allows next a b w old new n o (inl e) r = subst (IsFedAt allows next a b w old new n o) (sym e) r
fed_if allows next a b w old new n o (inr e) r = subst (IsFedAt allows next a b w old new n o) (sym e) r

-- so is its finish
pub finished_if : {View : Type 0} (allows : View → Told → Type 0) (next : View → Told → View) (a b : Shows) (old new : Shown View) (o : FinishOutcome) →
    (a.stand ≡ stand.Ready) ⊎ (a.stand ≡ stand.Waiting) → Ruled allows next a b old new o → IsFinished allows next a b old new o
finished_if allows next a b old new o (inl e) r = subst (IsFinishedAt allows next a b old new o) (sym e) r
finished_if allows next a b old new o (inr e) r = subst (IsFinishedAt allows next a b old new o) (sym e) r
