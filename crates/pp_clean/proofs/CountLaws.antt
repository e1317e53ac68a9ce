-- How many states and entries a finished program has.
use Rattle.std.proofs.Common.{◌≡◌, ℕ, zero, suc, ◌≤◌, List, [], ◌∷◌, Bool, true, false, arith, map, length, zero-le}
use Rattle.std.proofs.lemmas.List.{length-map}
use Rattle.pp_program.specs.declared.program.Instr.{Instr}
use Rattle.pp_program.specs.declared.program.Instr.TheVariants.{Branch, Invoke, Consume, SpanOpen, SpanClose, Pause, Fail}
use Rattle.pp_program.specs.declared.program.Program.{Program}
use Rattle.pp_program.specs.declared.fault.VerifyRule.TheVariants.{Target, Width, Names}
use Rattle.pp_program.specs.Countable.{HasFew, IsCountable}
use Rattle.pp_program.specs.Runnable.{InstrFits, HasLimits}
use Rattle.pp_program.specs.Valid.{IsValid}
use Rattle.pp_program.proofs.RunnableLemmas.{state-fits, limits}
use Rattle.pp_clean.specs.Map.{mapped_state}
use Rattle.pp_clean.specs.Skip.{landing, skipped}
use Rattle.pp_clean.specs.Reach.{picked, rank, reached, trimmed}
use Rattle.pp_clean.specs.Merge.{merged_state, merged_program}
use Rattle.pp_clean.specs.Names.{used, moved_origin}
use Rattle.pp_clean.specs.Finished.{finished}

-- those picked are no more
picked_most : {X : Type 0} (marks : List Bool) (xs : List X) (n : ℕ) → length xs ≤ n → length (picked marks xs) ≤ n
picked_most [] xs n h = zero-le
picked_most (m ∷ marks) [] n h = zero-le
picked_most (true ∷ marks) (x ∷ xs) zero h = absurd (omega arith)
picked_most (true ∷ marks) (x ∷ xs) (suc n) h = (let rest : length (picked marks xs) ≤ n = picked_most marks xs n (omega arith) in omega (arith, rest))
picked_most (false ∷ marks) (x ∷ xs) n h = picked_most marks xs n (omega arith)

map_most : {X Y : Type 0} (f : X → Y) (xs : List X) (n : ℕ) → length xs ≤ n → length (map f xs) ≤ n
map_most f xs n h = (let long : length (map f xs) ≡ length xs = length-map xs f in omega (arith, long, h))

-- finishing makes no states
pub finished_few : (p : Program) → length (finished p).states ≤ length p.states
finished_few p =
    let q : Program = skipped p in
    let r : Program = trimmed q in
    let s : Program = merged_program r in
    map_most (moved_origin (rank (used s))) s.states (length p.states)
    (map_most merged_state r.states (length p.states)
    (map_most (mapped_state (rank (reached q))) (picked (reached q) q.states) (length p.states)
    (picked_most (reached q) q.states (length p.states)
    (map_most (mapped_state (landing p.states)) p.states (length p.states) (omega arith)))))

instr_few : (p : Program) (i : Instr) → InstrFits p i → HasFew i
instr_few p (Branch fold stay edges rest) fits = (let few : length edges ≤ 256 = fits.0.few in omega (arith, few))
instr_few p (Invoke code answers other) fits = (let few : length answers ≤ 65535 = fits.1.few in omega (arith, few))
instr_few p (Consume prop next) fits = tt
instr_few p (SpanOpen span next) fits = tt
instr_few p (SpanClose span next) fits = tt
instr_few p (Pause code reason next) fits = tt
instr_few p (Fail code reason) fits = tt

-- the lists of a valid program are short
pub valid_countable : (p : Program) → IsValid p → IsCountable p
valid_countable p holds =
    let most : HasLimits p = limits p (holds Target) (holds Width) (holds Names) in
    let props : length p.props ≤ 64 = most.props in
    let hosts : length p.hosts ≤ 64 = most.hosts in
    let spans : length p.spans ≤ 32 = most.spans in
    let names : length p.names ≤ 4096 = most.names in
    let states : length p.states ≤ 65535 = most.states in
    record {
      props = omega (arith, props);
      hosts = omega (arith, hosts);
      spans = omega (arith, spans);
      names = omega (arith, names);
      states = omega (arith, states);
      lists = λ i s at. instr_few p s.instr (state-fits p (holds Target) (holds Width) (holds Names) i s at).1;
    }
