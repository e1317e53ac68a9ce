-- Turns keep a configuration in range.
use Rattle.std.proofs.Common.{subst, ◌≡◌, ℕ, zero, suc, ◌+◌, ◌≤◌, ◌<◌, List, [], ◌∷◌, Option, Some, None, Bool, true, false, cond, refl, sym, ◌∙◌, ap, arith, length, set, length-set, leb, add-zero}
use Rattle.std.specs.Prelude.{slice_get, slice_index, ◌==◌, unwrap_or, find}
use Rattle.pp_bytes.specs.declared.fold.Fold.{Fold}
use Rattle.pp_bytes.specs.Fold.{folded}
use Rattle.pp_bytes.specs.Ranges.{in_ranges, in_pair}
use Rattle.pp_graph.specs.declared.node.Answer.{Answer}
use Rattle.pp_graph.specs.declared.node.Code.{Code}
use Rattle.pp_graph.specs.declared.node.Code.TheVariants as code
use Rattle.pp_event.specs.declared.item.Item.{Item}
use Rattle.pp_event.specs.declared.item.Item.TheVariants as item
use Rattle.pp_event.specs.Codes.{answered, effect_of}
use Rattle.pp_event.specs.Effects.{Uses}
use Rattle.pp_event.specs.Run.{Config, Turn, Goes, Asks, Rests, Stops, Fails}
use Rattle.pp_event.specs.Turns.{to, Effect, AsksHost, Answers, Sets, effect_turn, consumed, drained}
use Rattle.pp_event.proofs.TurnLaws.{effect-rests}
use Rattle.pp_program.specs.declared.program.Edge.{Edge}
use Rattle.pp_program.specs.declared.program.Rest.{Rest}
use Rattle.pp_program.specs.declared.program.Instr.{Instr}
use Rattle.pp_program.specs.declared.program.Instr.TheVariants.{Branch, Invoke, Consume, SpanOpen, SpanClose, Pause, Fail}
use Rattle.pp_program.specs.declared.program.State.{State}
use Rattle.pp_program.specs.declared.program.Program.{Program}
use Rattle.pp_program.specs.States.{rest_turn, edge_turn, edge_on, is_empty_branch, branch_turn, instr_turn, state_turn, program_turn}
use Rattle.pp_program.specs.Runnable.{CodeFits, InstrFits, IsRunnable}
use Rattle.pp_program.specs.Valid.{Sound, IsInstrAt}
use Rattle.pp_program.proofs.StateTurns.{branch-rests}
use Rattle.pp_engine.specs.Feeds.{OpenBelow, Fits}
use Rattle.pp_engine.specs.Spots.{Reads}

pub turn_at : (p : Program) (d : Config) (rest : List ℕ) (i : Instr) → IsInstrAt p.states d.node i → program_turn p d rest ≡ instr_turn i d rest
turn_at p d rest i h = ap (λ (x : Option State). state_turn x d rest) h.1 ∙ ap (λ (j : Instr). instr_turn j d rest) h.2

-- what the state at a place does fits
pub instr_at : (v : Sound) → IsRunnable v → (node : ℕ) (i : Instr) → IsInstrAt v.program.states node i → InstrFits v.program i
instr_at v good node i at = subst (InstrFits v.program) at.2 (good.states node at.0 at.1).1

open_set : (spans : List (Option ℕ)) (s : ℕ) (v : Option ℕ) (at : ℕ) → ((from : ℕ) → v ≡ Some from → from ≤ at) → OpenBelow spans at → OpenBelow (set spans s v) at
open_set [] s v at f h i from e = h i from e
open_set (x ∷ spans) zero v at f h zero from e = f from (cc)
open_set (x ∷ spans) zero v at f h (suc i) from e = h (suc i) from e
open_set (x ∷ spans) (suc s) v at f h zero from e = h zero from e
open_set (x ∷ spans) (suc s) v at f h (suc i) from e = open_set spans s v at f (λ j g q. h (suc j) g q) i from e

-- what is found in a list has what all its elements have
abbrev Each : {X : Type 0} → (X → Type 0) → Option X → Type 0
Each P None = Unit {0}
Each P (Some x) = P x

each_if : {X : Type 0} (P : X → Type 0) (b : Bool) (x : X) (more : Option X) → P x → Each P more → Each P (cond b (Some x) more)
each_if P true x more h k = h
each_if P false x more h k = k

each_found : {X : Type 0} (P : X → Type 0) (q : X → Bool) (xs : List X) → ((i : ℕ) (x : X) → slice_get xs i ≡ Some x → P x) → Each P (find q xs)
each_found P q [] h = tt
each_found P q (x ∷ xs) h = each_if P (q x) x (find q xs) (h 0 x refl) (each_found P q xs (λ i y t. h (suc i) y t))

answered_leads : (n : ℕ) (answers : List Answer) (other k : ℕ) → ((i : ℕ) (a : Answer) → slice_get answers i ≡ Some a → a.target < n) → other < n → answered answers other k < n
answered_leads n answers other k h o = go (find (λ (a : Answer). a.number == k) answers) refl (each_found (λ (a : Answer). a.target < n) (λ (a : Answer). a.number == k) answers h)
  where
    go : (f : Option Answer) → find (λ (a : Answer). a.number == k) answers ≡ f → Each (λ (a : Answer). a.target < n) f → answered answers other k < n
    go None e l = rw e o
    go (Some a) e l = rw e l

module _ (p : Program) where
  -- what a turn leads to is in range
  abbrev pub TurnFits : Turn → Type 0
  TurnFits (Goes e k items) = Fits p e
  TurnFits (Asks code value next) = (answer : ℕ) → Fits p (next answer)
  TurnFits (Rests e) = Fits p e
  TurnFits (Stops code e) = Fits p e
  TurnFits (Fails code) = Unit {0}

  fits_if : (b : Bool) (t u : Turn) → TurnFits t → TurnFits u → TurnFits (cond b t u)
  fits_if true t u h k = h
  fits_if false t u h k = k

  module _ (d : Config) (f : Fits p d) where
    fits_later : (node k carried : ℕ) (values : List ℕ) → node < length p.states → length values ≡ length d.values →
        Fits p (record { node = node; at = d.at + k; carried = carried; values = values; spans = d.spans })
    fits_later node k carried values n v = record {
      node = n;
      values = v ∙ f.values;
      spans = f.spans;
      open_below = λ i from e. (let h : from ≤ d.at = f.open_below i from e in omega arith);
    }

    fits_here : (node carried : ℕ) (values : List ℕ) → node < length p.states → length values ≡ length d.values →
        Fits p (record { node = node; at = d.at; carried = carried; values = values; spans = d.spans })
    fits_here node carried values n v = record { node = n; values = v ∙ f.values; spans = f.spans; open_below = f.open_below }

    fits_span : (node carried s : ℕ) (v : Option ℕ) → node < length p.states → ((from : ℕ) → v ≡ Some from → from ≤ d.at) →
        Fits p (record { node = node; at = d.at; carried = carried; values = d.values; spans = set d.spans s v })
    fits_span node carried s v n h = record { node = n; values = f.values; spans = length-set d.spans s v ∙ f.spans; open_below = open_set d.spans s v d.at h f.open_below }

    edge_fits : (rest : Rest) (e : Option Edge) → rest.target < length p.states → Each (λ (x : Edge). x.target < length p.states) e → TurnFits (edge_turn d rest e)
    edge_fits rest None n l = fits_later rest.target _ _ d.values n refl
    edge_fits rest (Some e) n l = fits_later e.target _ _ d.values l refl

    effect_fits : (edge : ℕ → ℕ) → ((k : ℕ) → edge k < length p.states) → (e : Effect) → TurnFits (effect_turn d edge e)
    effect_fits edge n (AsksHost host) = λ answer. fits_here (edge answer) 0 d.values (n answer) refl
    effect_fits edge n (Answers answer) = fits_here (edge answer) 0 d.values (n answer) refl
    effect_fits edge n (Sets prop value) = fits_here (edge 0) 0 (set d.values prop value) (n 0) (length-set d.values prop value)

    branch_fits : (fold : Fold) (stay : List (ℕ × ℕ)) (edges : List Edge) (rest : Rest) (bytes : List ℕ) →
        ((i : ℕ) (e : Edge) → slice_get edges i ≡ Some e → e.target < length p.states) → rest.target < length p.states → TurnFits (branch_turn d fold stay edges rest bytes)
    branch_fits fold stay edges rest [] h n =
        fits_if (is_empty_branch stay edges rest) (rest_turn d rest) (Rests (record d { carried = 0 }))
        (fits_later rest.target _ _ d.values n refl) (fits_here d.node 0 d.values f.node refl)
    branch_fits fold stay edges rest (b ∷ bytes) h n =
        fits_if (in_ranges stay b) (to d d.node 1 0) (edge_turn d rest (edge_on (folded fold b) edges))
        (fits_later d.node 1 0 d.values f.node refl)
        (edge_fits rest (edge_on (folded fold b) edges) n (each_found (λ (x : Edge). x.target < length p.states) (λ (e : Edge). in_pair (folded fold b) (e.lo, e.hi)) edges h))

    pub instr_fits : (i : Instr) (rest : List ℕ) → InstrFits p i → TurnFits (instr_turn i d rest)
    instr_fits (Branch fold stay edges other) rest h = branch_fits fold stay edges other rest (λ i e t. (h.0.lead i e t).within) h.1.lead.within
    instr_fits (Invoke c answers other) rest h =
        effect_fits (answered answers other) (λ k. answered_leads (length p.states) answers other k (λ i a t. (h.1.lead i a t).within) h.2.within) (effect_of d.values d.carried c)
    instr_fits (Consume q next) rest h =
        fits_if (leb (slice_index d.values q) (length rest)) (Goes (consumed d q next (slice_index d.values q)) (slice_index d.values q) [])
        (Rests (drained d q (slice_index d.values q) (length rest)))
        (fits_later next _ 0 (set d.values q 0) h.1.within (length-set d.values q 0))
        (fits_later d.node _ 0 (set d.values q _) f.node (length-set d.values q _))
    instr_fits (SpanOpen s next) rest h = fits_span next 0 s (Some d.at) h.1.within (λ from e. (let same : d.at ≡ from = cc in omega arith))
    instr_fits (SpanClose s next) rest h = fits_span next 0 s None h.1.within (λ from e. cc)
    instr_fits (Pause code reason next) rest h = fits_here next 0 d.values h.1.within refl
    instr_fits (Fail code reason) rest h = tt

-- what a code uses is there
code_uses : (p : Program) (n : ℕ) (c : Code) → n ≡ length p.props → length p.hosts ≤ 64 → CodeFits p c → Uses n c
code_uses p n (code.Call h) e l f = (let within : h < length p.hosts = f in omega arith)
code_uses p n (code.Store q) e l f = (let within : q < length p.props = f in omega arith)
code_uses p n (code.Load q) e l f = (let within : q < length p.props = f in omega arith)
code_uses p n (code.Update q v) e l f = (let within : q < length p.props = f.within in omega arith)
code_uses p n (code.Equal q v) e l f = (let within : q < length p.props = f.within in omega arith)
code_uses p n (code.And q v) e l f = (let within : q < length p.props = f.within in omega arith)
code_uses p n (code.Or q v) e l f = (let within : q < length p.props = f.within in omega arith)
code_uses p n (code.Test q v) e l f = (let within : q < length p.props = f.within in omega arith)
code_uses p n (code.MulAdd q base most) e l f = (let within : q < length p.props = f.within in omega arith)

-- what an instruction reads is there
pub instr_reads : (p : Program) (n m : ℕ) (i : Instr) → n ≡ length p.props → m ≡ length p.spans → length p.hosts ≤ 64 → InstrFits p i → Reads n m i
instr_reads p n m (Branch fold stay edges rest) e s l f = record { some = f.0.some; ascend = f.0.ascend }
instr_reads p n m (Invoke c answers other) e s l f = code_uses p n c e l f.0
instr_reads p n m (Consume q next) e s l f = (let h : q < length p.props = f.0 in omega arith)
instr_reads p n m (SpanOpen k next) e s l f = (let h : k < length p.spans = f.0 in omega arith)
instr_reads p n m (SpanClose k next) e s l f = (let h : k < length p.spans = f.0 in omega arith)
instr_reads p n m (Pause code reason next) e s l f = tt
instr_reads p n m (Fail code reason) e s l f = tt

consume_rests : (d e : Config) (v n next q : ℕ) (b : Bool) → cond b (Goes (consumed d q next v) v []) (Rests (drained d q v n)) ≡ Rests e → e.at ≡ d.at + n
consume_rests d e v n next q true h = cc
consume_rests d e v n next q false h = (let same : drained d q v n ≡ e = cc in sym (ap (λ (x : Config). x.at) same))

-- what waits has taken all bytes
pub instr_rests : (i : Instr) (d e : Config) (rest : List ℕ) → instr_turn i d rest ≡ Rests e → e.at ≡ d.at + length rest
instr_rests (Branch fold stay edges other) d e rest h =
    let r = branch-rests d e fold stay edges other rest h in
    sym (ap (λ (x : Config). x.at) r.1) ∙ sym (add-zero d.at) ∙ ap (λ (l : List ℕ). d.at + length l) (sym r.0)
instr_rests (Invoke c answers other) d e rest h = absurd (effect-rests d e (answered answers other) (effect_of d.values d.carried c) h)
instr_rests (Consume q next) d e rest h = consume_rests d e (slice_index d.values q) (length rest) next q (leb (slice_index d.values q) (length rest)) h
instr_rests (SpanOpen s next) d e rest h = cc
instr_rests (SpanClose s next) d e rest h = cc
instr_rests (Pause code reason next) d e rest h = cc
instr_rests (Fail code reason) d e rest h = cc

-- the turn tells no item
abbrev TellsNone : Turn → Type 0
TellsNone (Goes e k told) = told ≡ []
TellsNone (Asks code value next) = Unit {0}
TellsNone (Rests e) = Unit {0}
TellsNone (Stops code e) = Unit {0}
TellsNone (Fails code) = Unit {0}

tells_if : (b : Bool) (t u : Turn) → TellsNone t → TellsNone u → TellsNone (cond b t u)
tells_if true t u h k = h
tells_if false t u h k = k

edge_tells : (d : Config) (rest : Rest) (e : Option Edge) → TellsNone (edge_turn d rest e)
edge_tells d rest None = refl
edge_tells d rest (Some e) = refl

branch_tells : (d : Config) (fold : Fold) (stay : List (ℕ × ℕ)) (edges : List Edge) (rest : Rest) (bytes : List ℕ) → TellsNone (branch_turn d fold stay edges rest bytes)
branch_tells d fold stay edges rest [] = tells_if (is_empty_branch stay edges rest) (rest_turn d rest) (Rests (record d { carried = 0 })) refl tt
branch_tells d fold stay edges rest (b ∷ bytes) =
    tells_if (in_ranges stay b) (to d d.node 1 0) (edge_turn d rest (edge_on (folded fold b) edges)) refl (edge_tells d rest (edge_on (folded fold b) edges))

effect_tells : (d : Config) (edge : ℕ → ℕ) (e : Effect) → TellsNone (effect_turn d edge e)
effect_tells d edge (AsksHost host) = tt
effect_tells d edge (Answers answer) = refl
effect_tells d edge (Sets prop value) = refl

told_none : (t : Turn) (e : Config) (k : ℕ) (x : Item) → TellsNone t → t ≡ Goes e k (x ∷ []) → ⊥
told_none t e k x h q = (let n : x ∷ [] ≡ [] = subst TellsNone q h in cc)

opened_below : (at : ℕ) (o : Option (Option ℕ)) → ((from : ℕ) → o ≡ Some (Some from) → from ≤ at) → unwrap_or (unwrap_or o None) at ≤ at
opened_below at None h = omega arith
opened_below at (Some None) h = omega arith
opened_below at (Some (Some from)) h = h from refl

-- a span that a turn tells is one of the program's, and was opened before
pub closes_in : (p : Program) (i : Instr) (d e : Config) (rest : List ℕ) (k span from at : ℕ) → InstrFits p i → Fits p d →
    instr_turn i d rest ≡ Goes e k (item.Span span from at ∷ []) → (span < length p.spans) × (from ≤ d.at)
closes_in p (Branch fold stay edges other) d e rest k span from at h f t = absurd (told_none _ e k _ (branch_tells d fold stay edges other rest) t)
closes_in p (Invoke c answers other) d e rest k span from at h f t = absurd (told_none _ e k _ (effect_tells d (answered answers other) (effect_of d.values d.carried c)) t)
closes_in p (Consume q next) d e rest k span from at h f t =
    absurd (told_none _ e k _ (tells_if (leb (slice_index d.values q) (length rest)) (Goes (consumed d q next (slice_index d.values q)) (slice_index d.values q) []) (Rests (drained d q (slice_index d.values q) (length rest))) refl tt) t)
closes_in p (SpanOpen s next) d e rest k span from at h f t = cc
closes_in p (SpanClose s next) d e rest k span from at h f t =
    let same : s ≡ span = cc in
    let place : unwrap_or (unwrap_or (slice_get d.spans s) None) d.at ≡ from = cc in
    let n : s < length p.spans = h.0 in
    let b : unwrap_or (unwrap_or (slice_get d.spans s) None) d.at ≤ d.at = opened_below d.at (slice_get d.spans s) (λ g q. f.open_below s g q) in
    (omega arith, omega arith)
closes_in p (Pause code reason next) d e rest k span from at h f t = cc
closes_in p (Fail code reason) d e rest k span from at h f t = cc
