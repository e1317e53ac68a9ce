-- Merging edges keeps the meaning.
use Rattle.std.proofs.Common.{◌≡◌, ℕ, suc, ◌+◌, List, [], ◌∷◌, Some, Bool, true, cond, refl, ap}
use Rattle.std.specs.Prelude.{slice_get, ◌==◌}
use Rattle.std.proofs.lemmas.Bool.{and_parts}
use Rattle.pp_bytes.specs.declared.fold.Fold.{Fold}
use Rattle.pp_bytes.specs.Fold.{folded}
use Rattle.pp_bytes.specs.Ranges.{in_ranges}
use Rattle.pp_program.specs.declared.program.Edge.{Edge}
use Rattle.pp_program.specs.declared.program.Rest.{Rest}
use Rattle.pp_program.specs.declared.program.Instr.{Instr}
use Rattle.pp_program.specs.declared.program.Instr.TheVariants.{Branch, Invoke, Consume, SpanOpen, SpanClose, Pause, Fail}
use Rattle.pp_program.specs.declared.program.State.{State}
use Rattle.pp_program.specs.declared.program.Program.{Program}
use Rattle.pp_program.specs.Merge.{joins, merged}
use Rattle.pp_program.specs.Targets.{is_alike, may_follow, in_row}
use Rattle.pp_program.specs.States.{rest_turn, edge_on, is_empty_branch, branch_turn, instr_turn}
use Rattle.pp_program.proofs.MergeLaws.{AscendsFrom, merged-ascends, merged-in-row, merged-finds, merged-empty, bare-turn, alike-bare}
use Rattle.pp_event.specs.Run.{Config, Turn, Rests}
use Rattle.pp_event.specs.Turns.{to}
use Rattle.pp_lower.specs.Kept.{instr_reason}
use Rattle.pp_clean.specs.Keeps.{Keeps}
use Rattle.pp_clean.specs.Merge.{merged_instr, merged_state, merged_program, Ascend, EdgesAre}
use Rattle.pp_clean.proofs.SameLaws.{mapped_keeps}

ascend_from : (n : ℕ) (edges : List Edge) → Ascend n edges → AscendsFrom n edges
ascend_from n [] h = tt
ascend_from n (e ∷ edges) h = (h.0, h.1, ascend_from (suc e.hi) edges h.2)

from_ascend : (n : ℕ) (edges : List Edge) → AscendsFrom n edges → Ascend n edges
from_ascend n [] h = tt
from_ascend n (e ∷ edges) h = (h.0, h.1, from_ascend (suc e.hi) edges h.2)

-- merged edges ascend
pub merged_ascend : (edges : List Edge) → Ascend 0 edges → Ascend 0 (merged edges)
merged_ascend edges h = from_ascend 0 (merged edges) (merged-ascends 0 edges (ascend_from 0 edges h))

-- and none goes on with the one before it
pub merged_in_row : (edges : List Edge) → Ascend 0 edges → in_row may_follow (merged edges) ≡ true
merged_in_row edges h = merged-in-row 0 edges (ascend_from 0 edges h)

-- edges that go on with one another lead to one place
pub joined_target : (e f : Edge) → joins e f ≡ true → e.target ≡ f.target
joined_target e f h = ap (λ (x : Edge). x.target) (alike-bare e f (and_parts (e.hi + 1 == f.lo) (is_alike e f) h).1)

merged_empty : (stay : List (ℕ × ℕ)) (edges : List Edge) (rest : Rest) → is_empty_branch stay (merged edges) rest ≡ is_empty_branch stay edges rest
merged_empty [] edges rest = merged-empty edges rest
merged_empty (r ∷ stay) edges rest = refl

branch_same : (c : Config) (fold : Fold) (stay : List (ℕ × ℕ)) (edges : List Edge) (rest : Rest) (bytes : List ℕ) → Ascend 0 edges →
    branch_turn c fold stay (merged edges) rest bytes ≡ branch_turn c fold stay edges rest bytes
branch_same c fold stay edges rest [] h = ap (λ (v : Bool). cond v (rest_turn c rest) (Rests (record c { carried = 0 }))) (merged_empty stay edges rest)
branch_same c fold stay edges rest (b ∷ bytes) h =
    ap (λ (t : Turn). cond (in_ranges stay b) (to c c.node 1 0) t)
    (bare-turn c rest (edge_on (folded fold b) (merged edges)) (edge_on (folded fold b) edges) (merged-finds 0 (folded fold b) edges (ascend_from 0 edges h)))

pub merged_same : (i : Instr) → EdgesAre (Ascend 0) i → (c : Config) (bytes : List ℕ) → instr_turn (merged_instr i) c bytes ≡ instr_turn i c bytes
merged_same (Branch fold stay edges rest) h c bytes = branch_same c fold stay edges rest bytes h
merged_same (Invoke code answers other) h c bytes = refl
merged_same (Consume prop next) h c bytes = refl
merged_same (SpanOpen span next) h c bytes = refl
merged_same (SpanClose span next) h c bytes = refl
merged_same (Pause code reason next) h c bytes = refl
merged_same (Fail code reason) h c bytes = refl

merged_reason : (i : Instr) → instr_reason (merged_instr i) ≡ instr_reason i
merged_reason (Branch fold stay edges rest) = refl
merged_reason (Invoke code answers other) = refl
merged_reason (Consume prop next) = refl
merged_reason (SpanOpen span next) = refl
merged_reason (SpanClose span next) = refl
merged_reason (Pause code reason next) = refl
merged_reason (Fail code reason) = refl

-- merging edges keeps the meaning
pub merged_keeps : (p : Program) → ((n : ℕ) (s : State) → slice_get p.states n ≡ Some s → EdgesAre (Ascend 0) s.instr) → Keeps p (merged_program p)
merged_keeps p ascend = record {
  props = refl;
  hosts = refl;
  spans = refl;
  finish = refl;
  runs = mapped_keeps p (merged_program p) merged_state refl (λ n s e. record { turns = merged_same s.instr (ascend n s e); name = refl; reason = merged_reason s.instr }) refl refl;
}
