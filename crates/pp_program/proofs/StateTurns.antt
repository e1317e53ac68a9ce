-- The machine of a program is steady, goes on where it waited, and keeps its place and its order.
use Rattle.std.proofs.Common.{subst, ◌≡◌, ℕ, suc, ◌≤◌, List, [], ◌∷◌, ◌++◌, Option, Some, None, Bool, true, false, cond, refl, sym, ◌∙◌, ap, arith, length, zero, replicate, zero-le, zero-add, add-zero}
use Rattle.std.specs.Prelude.{slice_get, unwrap_or}
use Rattle.std.proofs.lemmas.Option.{slice_get_past}
use Rattle.pp_bytes.specs.declared.fold.Fold.{Fold}
use Rattle.pp_bytes.specs.Fold.{folded}
use Rattle.pp_bytes.specs.Ranges.{in_ranges}
use Rattle.pp_program.specs.declared.program.Edge.{Edge}
use Rattle.pp_program.specs.declared.program.Rest.{Rest}
use Rattle.pp_program.specs.declared.program.Instr.{Instr}
use Rattle.pp_program.specs.declared.program.Instr.TheVariants.{Branch, Invoke, Consume, SpanOpen, SpanClose, Pause, Fail}
use Rattle.pp_program.specs.declared.program.State.{State}
use Rattle.pp_program.specs.declared.program.Program.{Program}
use Rattle.pp_event.specs.Run.{Config, Turn, Rests, Fails}
use Rattle.pp_event.specs.Steady.{Keeps, IsSteady, GoesOn, IsResumable, Placed, IsPlaced}
use Rattle.pp_event.specs.Turns.{to}
use Rattle.pp_event.specs.Codes.{answered, effect_of}
use Rattle.pp_event.specs.Places.{SpansBehind, OrderlyTurn, IsOrderly}
use Rattle.pp_event.proofs.TurnLaws.{Keeps-if, effect-keeps, consume-keeps, consume-onward, effect-rests, effect-placed, consume-placed, Placed-if}
use Rattle.pp_event.proofs.PlaceLaws.{to-orderly, effect-orderly, orderly-if, consume-orderly, open-orderly, close-orderly}
use Rattle.pp_program.specs.States.{rest_turn, edge_turn, edge_on, is_empty_branch, branch_turn, instr_turn, state_turn, program_turn, program_entry}

one_of : (b : Bool) (n : ℕ) → cond b 1 0 ≤ suc n
one_of true n = omega arith
one_of false n = zero-le

edge-keeps : (c : Config) (rest : Rest) (e : Option Edge) (n : ℕ) → Keeps (suc n) (edge_turn c rest e) (edge_turn c rest e)
edge-keeps c rest None n = (one_of rest.skip n, refl)
edge-keeps c rest (Some e) n = (one_of e.take n, refl)

-- a branch without stay, edges and skip does the same whatever comes
empty-keeps : (c : Config) (fold : Fold) (skip : Bool) (number : Option ℕ) (target : ℕ) (more : List ℕ) →
    Keeps 0 (branch_turn c fold [] [] (record { skip = skip; number = number; target = target }) [])
    (branch_turn c fold [] [] (record { skip = skip; number = number; target = target }) more)
empty-keeps c fold true number target more = tt
empty-keeps c fold false number target [] = (zero-le, refl)
empty-keeps c fold false number target (b ∷ more) = (zero-le, refl)

branch-keeps : (c : Config) (fold : Fold) (stay : List (ℕ × ℕ)) (edges : List Edge) (rest : Rest) (bytes more : List ℕ) →
    Keeps (length bytes) (branch_turn c fold stay edges rest bytes) (branch_turn c fold stay edges rest (bytes ++ more))
branch-keeps c fold [] [] rest [] more = empty-keeps c fold rest.skip rest.number rest.target more
branch-keeps c fold [] (e ∷ edges) rest [] more = tt
branch-keeps c fold (r ∷ stay) edges rest [] more = tt
branch-keeps c fold stay edges rest (b ∷ bytes) more =
    let n : ℕ = length bytes in
    Keeps-if (suc n) (in_ranges stay b) (to c c.node 1 0) (edge_turn c rest (edge_on (folded fold b) edges))
    (omega arith, refl) (edge-keeps c rest (edge_on (folded fold b) edges) n)

instr-keeps : (i : Instr) (c : Config) (bytes more : List ℕ) → Keeps (length bytes) (instr_turn i c bytes) (instr_turn i c (bytes ++ more))
instr-keeps (Branch fold stay edges rest) c bytes more = branch-keeps c fold stay edges rest bytes more
instr-keeps (Invoke code answers other) c bytes more = effect-keeps c (answered answers other) (effect_of c.values c.carried code) (length bytes)
instr-keeps (Consume prop next) c bytes more = consume-keeps c prop next bytes more
instr-keeps (SpanOpen span next) c bytes more = (zero-le, refl)
instr-keeps (SpanClose span next) c bytes more = (zero-le, refl)
instr-keeps (Pause code reason next) c bytes more = refl
instr-keeps (Fail code reason) c bytes more = refl

state-keeps : (s : Option State) (c : Config) (bytes more : List ℕ) → Keeps (length bytes) (state_turn s c bytes) (state_turn s c (bytes ++ more))
state-keeps None c bytes more = refl
state-keeps (Some s) c bytes more = instr-keeps s.instr c bytes more

-- more bytes change no turn of a program but one that waits
pub program-steady : (p : Program) → IsSteady (program_turn p)
program-steady p c bytes more = state-keeps (slice_get p.states c.node) c bytes more

-- a waiting configuration carries nothing
abbrev idle : Config → Config
idle c = record c { carried = 0 }

-- a turn that goes or waits goes on from no byte as itself
goes_on_if : (b : Bool) (t u : Turn) → GoesOn 0 t t → GoesOn 0 u u → GoesOn 0 (cond b t u) (cond b t u)
goes_on_if true t u h k = h
goes_on_if false t u h k = k

edge-goes_on : (c : Config) (rest : Rest) (e : Option Edge) → GoesOn 0 (edge_turn c rest e) (edge_turn c rest e)
edge-goes_on c rest None = rw zero-add refl
edge-goes_on c rest (Some e) = rw zero-add refl

branch-goes_on : (c : Config) (fold : Fold) (stay : List (ℕ × ℕ)) (edges : List Edge) (rest : Rest) (more : List ℕ) →
    GoesOn 0 (branch_turn c fold stay edges rest more) (branch_turn (idle c) fold stay edges rest more)
branch-goes_on c fold stay edges rest [] = goes_on_if (is_empty_branch stay edges rest) (rest_turn c rest) (Rests (idle c)) (edge-goes_on c rest None) refl
branch-goes_on c fold stay edges rest (b ∷ more) =
    goes_on_if (in_ranges stay b) (to c c.node 1 0) (edge_turn c rest (edge_on (folded fold b) edges))
    refl (edge-goes_on c rest (edge_on (folded fold b) edges))

edge-goes : (c d : Config) (rest : Rest) (e : Option Edge) → edge_turn c rest e ≡ Rests d → ⊥
edge-goes c d rest None h = cc
edge-goes c d rest (Some e) h = cc

rests_only_if : (b : Bool) (t : Turn) (c d : Config) → (t ≡ Rests d → ⊥) → cond b t (Rests c) ≡ Rests d → c ≡ d
rests_only_if true t c d never h = absurd (never h)
rests_only_if false t c d never h = cc

goes_if : (b : Bool) (t u : Turn) (d : Config) → (t ≡ Rests d → ⊥) → (u ≡ Rests d → ⊥) → cond b t u ≡ Rests d → ⊥
goes_if true t u d p q h = p h
goes_if false t u d p q h = q h

pub branch-rests : (c d : Config) (fold : Fold) (stay : List (ℕ × ℕ)) (edges : List Edge) (rest : Rest) (bytes : List ℕ) →
    branch_turn c fold stay edges rest bytes ≡ Rests d → (bytes ≡ []) × (idle c ≡ d)
branch-rests c d fold stay edges rest [] h =
    (refl, rests_only_if (is_empty_branch stay edges rest) (rest_turn c rest) (idle c) d (edge-goes c d rest None) h)
branch-rests c d fold stay edges rest (b ∷ bytes) h =
    absurd (goes_if (in_ranges stay b) (to c c.node 1 0) (edge_turn c rest (edge_on (folded fold b) edges)) d
    (λ g. cc) (edge-goes c d rest (edge_on (folded fold b) edges)) h)

instr-onward : (i : Instr) (c d : Config) (bytes more : List ℕ) → instr_turn i c bytes ≡ Rests d →
    (d.node ≡ c.node) × GoesOn (length bytes) (instr_turn i c (bytes ++ more)) (instr_turn i d more)
instr-onward (Branch fold stay edges rest) c d bytes more h =
    let stands : (bytes ≡ []) × (idle c ≡ d) = branch-rests c d fold stay edges rest bytes h in
    let P : List ℕ → Config → Type 0 = λ l x. (x.node ≡ c.node) × GoesOn (length l) (branch_turn c fold stay edges rest (l ++ more)) (branch_turn x fold stay edges rest more) in
    subst (λ (l : List ℕ). P l d) (sym stands.0) (subst (P []) stands.1 (refl, branch-goes_on c fold stay edges rest more))
instr-onward (Invoke code answers other) c d bytes more h = absurd (effect-rests c d (answered answers other) (effect_of c.values c.carried code) h)
instr-onward (Consume prop next) c d bytes more h = consume-onward c d prop next bytes more h
instr-onward (SpanOpen span next) c d bytes more h = cc
instr-onward (SpanClose span next) c d bytes more h = cc
instr-onward (Pause code reason next) c d bytes more h = cc
instr-onward (Fail code reason) c d bytes more h = cc

state-onward : (states : List State) (s : Option State) (c d : Config) (bytes more : List ℕ) → slice_get states c.node ≡ s → state_turn s c bytes ≡ Rests d →
    GoesOn (length bytes) (state_turn (slice_get states c.node) c (bytes ++ more)) (state_turn (slice_get states d.node) d more)
state-onward states None c d bytes more e h = cc
state-onward states (Some s) c d bytes more e h =
    let on : (d.node ≡ c.node) × GoesOn (length bytes) (instr_turn s.instr c (bytes ++ more)) (instr_turn s.instr d more) = instr-onward s.instr c d bytes more h in
    let there : slice_get states d.node ≡ Some s = ap (slice_get states) on.0 ∙ e in
    rw (e, there) on.1

-- a program that waited goes on with more bytes as it would have gone on with all of them
pub program-resumable : (p : Program) → IsResumable (program_turn p)
program-resumable p c d bytes more h = state-onward p.states (slice_get p.states c.node) c d bytes more refl h

edge-placed : (c : Config) (rest : Rest) (e : Option Edge) (n : ℕ) → Placed c n (edge_turn c rest e)
edge-placed c rest None n = refl
edge-placed c rest (Some e) n = refl

branch-placed : (c : Config) (fold : Fold) (stay : List (ℕ × ℕ)) (edges : List Edge) (rest : Rest) (bytes : List ℕ) → Placed c (length bytes) (branch_turn c fold stay edges rest bytes)
branch-placed c fold stay edges rest [] = Placed-if c 0 (is_empty_branch stay edges rest) (rest_turn c rest) (Rests (idle c)) refl (sym (add-zero c.at))
branch-placed c fold stay edges rest (b ∷ bytes) =
    let n : ℕ = length bytes in
    Placed-if c (suc n) (in_ranges stay b) (to c c.node 1 0) (edge_turn c rest (edge_on (folded fold b) edges))
    refl (edge-placed c rest (edge_on (folded fold b) edges) (suc n))

instr-placed : (i : Instr) (c : Config) (bytes : List ℕ) → Placed c (length bytes) (instr_turn i c bytes)
instr-placed (Branch fold stay edges rest) c bytes = branch-placed c fold stay edges rest bytes
instr-placed (Invoke code answers other) c bytes = effect-placed c (answered answers other) (effect_of c.values c.carried code) (length bytes)
instr-placed (Consume prop next) c bytes = consume-placed c bytes prop next
instr-placed (SpanOpen span next) c bytes = sym (add-zero c.at)
instr-placed (SpanClose span next) c bytes = sym (add-zero c.at)
instr-placed (Pause code reason next) c bytes = refl
instr-placed (Fail code reason) c bytes = tt

state-placed : (s : Option State) (c : Config) (bytes : List ℕ) → Placed c (length bytes) (state_turn s c bytes)
state-placed None c bytes = tt
state-placed (Some s) c bytes = instr-placed s.instr c bytes

-- each turn of a program keeps the place
pub program-placed : (p : Program) → IsPlaced (program_turn p)
program-placed p c bytes = state-placed (slice_get p.states c.node) c bytes

edge-orderly : (c : Config) (rest : Rest) (e : Option Edge) → SpansBehind c → OrderlyTurn c (edge_turn c rest e)
edge-orderly c rest None h = to-orderly c rest.target (cond rest.skip 1 0) (unwrap_or rest.number 0) h
edge-orderly c rest (Some e) h = to-orderly c e.target (cond e.take 1 0) (unwrap_or e.number 0) h

branch-orderly : (c : Config) (fold : Fold) (stay : List (ℕ × ℕ)) (edges : List Edge) (rest : Rest) (bytes : List ℕ) → SpansBehind c → OrderlyTurn c (branch_turn c fold stay edges rest bytes)
branch-orderly c fold stay edges rest [] h = orderly-if c (is_empty_branch stay edges rest) (rest_turn c rest) (Rests (idle c)) (edge-orderly c rest None h) h
branch-orderly c fold stay edges rest (b ∷ bytes) h =
    orderly-if c (in_ranges stay b) (to c c.node 1 0) (edge_turn c rest (edge_on (folded fold b) edges))
    (to-orderly c c.node 1 0 h) (edge-orderly c rest (edge_on (folded fold b) edges) h)

instr-orderly : (i : Instr) (c : Config) (bytes : List ℕ) → SpansBehind c → OrderlyTurn c (instr_turn i c bytes)
instr-orderly (Branch fold stay edges rest) c bytes h = branch-orderly c fold stay edges rest bytes h
instr-orderly (Invoke code answers other) c bytes h = effect-orderly c (answered answers other) (effect_of c.values c.carried code) h
instr-orderly (Consume prop next) c bytes h = consume-orderly c bytes prop next h
instr-orderly (SpanOpen span next) c bytes h = open-orderly c span next h
instr-orderly (SpanClose span next) c bytes h = close-orderly c span next h
instr-orderly (Pause code reason next) c bytes h = h
instr-orderly (Fail code reason) c bytes h = tt

state-orderly : (s : Option State) (c : Config) (bytes : List ℕ) → SpansBehind c → OrderlyTurn c (state_turn s c bytes)
state-orderly None c bytes h = tt
state-orderly (Some s) c bytes h = instr-orderly s.instr c bytes h

-- each turn of a program keeps the open spans behind the place, and tells items in order
pub program-orderly : (p : Program) → IsOrderly (program_turn p)
program-orderly p c bytes h = state-orderly (slice_get p.states c.node) c bytes h

-- no slot of shut spans has a start
none-shut : (n span from : ℕ) (shut : Option ℕ) → (shut ≡ Some from → ⊥) → unwrap_or (slice_get (replicate n shut) span) shut ≡ Some from → ⊥
none-shut zero span from shut never h = never h
none-shut (suc n) zero from shut never h = never h
none-shut (suc n) (suc span) from shut never h = none-shut n span from shut never h

-- a run begins with all spans shut
pub entry-behind : (p : Program) (values : List ℕ) → SpansBehind (program_entry p values)
entry-behind p values span from h = absurd (none-shut (length p.spans) span from None (λ e. cc) h)

-- a place without a state fails
pub program-elsewhere : (p : Program) (c : Config) (rest : List ℕ) → length p.states ≤ c.node → (code : ℕ) × (program_turn p c rest ≡ Fails code)
program-elsewhere p c rest h = (0, ap (λ (o : Option State). state_turn o c rest) (slice_get_past p.states c.node h))
