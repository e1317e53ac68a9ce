-- A worked program.
use Rattle.std.proofs.Common.{subst, ◌≡◌, ℕ, zero, suc, ◌<◌, [], ◌∷◌, Some, None, true, false, refl, arith, Contains}
use Rattle.std.specs.Prelude.{slice_get}
use Rattle.std.proofs.lemmas.Option.{same_Some}
use Rattle.pp_bytes.specs.declared.fold.Fold.TheVariants.{Same}
use Rattle.pp_program.specs.declared.program.Instr.TheVariants.{Branch}
use Rattle.pp_program.specs.declared.program.State.{State}
use Rattle.pp_program.specs.declared.program.Program.{Program}
use Rattle.pp_clean.specs.Map.{EachMove}
use Rattle.pp_clean.specs.Skip.{instr_past, rest_number, NoNumber}
use Rattle.pp_clean.specs.Reach.{leads_to}
use Rattle.pp_clean.specs.Merge.{Ascend, EdgesAre}
use Rattle.pp_clean.specs.Finished.{AllStates, IsFinishable, finished}

-- a is a match node that goes on to b; b is a match node that skips to itself
abbrev lowered : Program
lowered = record {
  props = [];
  hosts = [];
  spans = [];
  names = (97 ∷ []) ∷ (98 ∷ []) ∷ [];
  states = record { origin = 0; instr = Branch Same [] [] (record { skip = false; number = None; target = 1 }) }
      ∷ record { origin = 1; instr = Branch Same [] [] (record { skip = true; number = None; target = 1 }) } ∷ [];
  entry = 0;
  finish = None;
}

pub row : finished lowered ≡ record {
  props = [];
  hosts = [];
  spans = [];
  names = (98 ∷ []) ∷ [];
  states = record { origin = 0; instr = Branch Same [] [] (record { skip = true; number = None; target = 0 }) } ∷ [];
  entry = 0;
  finish = None;
}
row = refl

-- the worked program meets what is asked of it
pub finishable : IsFinishable lowered
finishable = record {
  numberless = record { from = from; onto = onto };
  range = record { entry = omega arith; edges = edges };
  ascend = ascend;
  origins = origins;
}
  where
    from : (n t : ℕ) (s : State) → slice_get lowered.states n ≡ Some s → instr_past s.instr ≡ Some t → rest_number s.instr ≡ None
    from zero t s e h = subst (λ (x : State). rest_number x.instr ≡ None) (same_Some _ s e) refl
    from (suc zero) t s e h = subst (λ (x : State). rest_number x.instr ≡ None) (same_Some _ s e) refl
    from (suc (suc n)) t s e h = cc

    onto : (n : ℕ) (s : State) → slice_get lowered.states n ≡ Some s → EachMove (NoNumber lowered.states) s.instr
    onto zero s e = subst (λ (x : State). EachMove (NoNumber lowered.states) x.instr) (same_Some _ s e) (tt, λ t h. refl)
    onto (suc zero) s e = subst (λ (x : State). EachMove (NoNumber lowered.states) x.instr) (same_Some _ s e) (tt, λ t h. refl)
    onto (suc (suc n)) s e = cc

    one : (t : ℕ) → Contains (1 ∷ []) t → t < 2
    one t (zero, b, e) = let same : 1 ≡ t = e in omega arith
    one t (suc k, b, e) = let below : suc k < 1 = b in absurd (omega arith)

    edges : (n t : ℕ) → Contains (leads_to lowered.states n) t → t < 2
    edges zero t c = one t c
    edges (suc zero) t c = one t c
    edges (suc (suc n)) t c = let below : c.0 < 0 = c.1 in absurd (omega arith)

    ascend : AllStates (λ s. EdgesAre (Ascend 0) s.instr) lowered.states
    ascend zero s e = subst (λ (x : State). EdgesAre (Ascend 0) x.instr) (same_Some _ s e) tt
    ascend (suc zero) s e = subst (λ (x : State). EdgesAre (Ascend 0) x.instr) (same_Some _ s e) tt
    ascend (suc (suc n)) s e = cc

    origins : AllStates (λ s. s.origin < 2) lowered.states
    origins zero s e = subst (λ (x : State). x.origin < 2) (same_Some _ s e) (omega arith)
    origins (suc zero) s e = subst (λ (x : State). x.origin < 2) (same_Some _ s e) (omega arith)
    origins (suc (suc n)) s e = cc
