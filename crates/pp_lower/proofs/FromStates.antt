-- From a state of a lowered program back to the node that it comes from.
use Rattle.std.proofs.Common.{subst, ◌≡◌, ℕ, zero, suc, ◌+◌, List, [], ◌∷◌, ◌++◌, Option, Some, None, true, refl, sym, ◌∙◌, ap, arith, length, map, inl, inr, zero-add, add-zero}
use Rattle.std.specs.Prelude.{◌⊎◌, not, slice_get}
use Rattle.pp_graph.specs.declared.node.Code.{Code}
use Rattle.pp_graph.specs.declared.node.Code.TheVariants as code
use Rattle.pp_bytes.specs.declared.fold.Fold.{Fold}
use Rattle.pp_graph.specs.declared.node.Key.{Key}
use Rattle.pp_graph.specs.declared.node.Peek.{Peek}
use Rattle.pp_graph.specs.declared.node.Other.{Other}
use Rattle.pp_graph.specs.declared.node.Kind.{Kind}
use Rattle.pp_graph.specs.declared.node.Kind.TheVariants as kind
use Rattle.pp_graph.specs.declared.node.Node.{Node}
use Rattle.pp_graph.specs.Plan.{Plan, Leads, is_value_kind, is_value_code}
use Rattle.pp_program.specs.declared.program.Instr.{Instr}
use Rattle.pp_program.specs.declared.program.Instr.TheVariants as instr
use Rattle.pp_program.specs.declared.program.State.{State}
use Rattle.pp_program.specs.Targets.{leads, is_plain_state, is_value_state, is_value_instr, is_value_code as program_value_code}
use Rattle.pp_lower.specs.Lowered.{inner_of, size, root_of, answers_of, branch_of, states_of, states_from, states_by, lowered}
use Rattle.pp_lower.proofs.StateLaws.{length-states, state_there, branch_there}
use Rattle.pp_lower.proofs.OrderLaws.{map_get}

-- the state is one of those of a node
pub record FromNode (nodes : List Node) (t : ℕ) (s : State) : Type 0 where
  pub place : ℕ
  pub node : Node
  pub step : ℕ
  pub there : slice_get nodes place ≡ Some node
  pub listed : slice_get (states_of (root_of nodes) place (root_of nodes place) node.kind) step ≡ Some s
  pub at : t ≡ root_of nodes place + step

-- an element of two lists
get_parts : {A : Type 0} (xs ys : List A) (t : ℕ) (x : A) → slice_get (xs ++ ys) t ≡ Some x → (slice_get xs t ≡ Some x) ⊎ ((n : ℕ) × (t ≡ length xs + n) × (slice_get ys n ≡ Some x))
get_parts [] ys t x e = inr (t, sym (zero-add t), e)
get_parts (y ∷ xs) ys zero x e = inl e
get_parts (y ∷ xs) ys (suc t) x e = go (get_parts xs ys t x e)
  where
    go : (slice_get xs t ≡ Some x) ⊎ ((n : ℕ) × (t ≡ length xs + n) × (slice_get ys n ≡ Some x)) → (slice_get xs t ≡ Some x) ⊎ ((n : ℕ) × (suc t ≡ suc (length xs) + n) × (slice_get ys n ≡ Some x))
    go (inl e) = inl e
    go (inr r) = (let at : t ≡ length xs + r.0 = r.1 in inr (r.0, omega (arith, at), r.2))

state_parts : (roots : ℕ → ℕ) (nodes : List Node) (origin root t : ℕ) (s : State) → slice_get (states_from roots origin root nodes) t ≡ Some s →
    (i : ℕ) × (n : Node) × (j : ℕ) × (slice_get nodes i ≡ Some n) × (slice_get (states_of roots (origin + i) (root + root_of nodes i) n.kind) j ≡ Some s) × (t ≡ root_of nodes i + j)
state_parts roots [] origin root t s e = absurd cc
state_parts roots (x ∷ nodes) origin root t s e =
    go (get_parts (states_of roots origin root x.kind) (states_from roots (suc origin) (root + size x.kind) nodes) t s e)
    (λ n f. state_parts roots nodes (suc origin) (root + size x.kind) n s f)
  where
    go : (slice_get (states_of roots origin root x.kind) t ≡ Some s) ⊎ ((n : ℕ) × (t ≡ length (states_of roots origin root x.kind) + n) × (slice_get (states_from roots (suc origin) (root + size x.kind) nodes) n ≡ Some s)) →
        ((n : ℕ) → slice_get (states_from roots (suc origin) (root + size x.kind) nodes) n ≡ Some s →
        (i : ℕ) × (m : Node) × (j : ℕ) × (slice_get nodes i ≡ Some m) × (slice_get (states_of roots (suc origin + i) (root + size x.kind + root_of nodes i) m.kind) j ≡ Some s) × (n ≡ root_of nodes i + j)) →
        (i : ℕ) × (n : Node) × (j : ℕ) × (slice_get (x ∷ nodes) i ≡ Some n) × (slice_get (states_of roots (origin + i) (root + root_of (x ∷ nodes) i) n.kind) j ≡ Some s) × (t ≡ root_of (x ∷ nodes) i + j)
    go (inl h) later =
        (0, x, t, refl, ap (λ (o : ℕ). slice_get (states_of roots o (root + 0) x.kind) t) (add-zero origin) ∙ ap (λ (o : ℕ). slice_get (states_of roots origin o x.kind) t) (add-zero root) ∙ h, sym (zero-add t))
    go (inr h) later =
        let r = later h.0 h.2 in
        let long : length (states_of roots origin root x.kind) ≡ size x.kind = length-states roots origin root x.kind in
        let up : origin + suc r.0 ≡ suc origin + r.0 = omega arith in
        let on : root + (size x.kind + root_of nodes r.0) ≡ root + size x.kind + root_of nodes r.0 = omega arith in
        let far : t ≡ length (states_of roots origin root x.kind) + h.0 = h.1 in
        let near : h.0 ≡ root_of nodes r.0 + r.2 = r.5 in (
          suc r.0,
          r.1,
          r.2,
          r.3,
          ap (λ (o : ℕ). slice_get (states_of roots o (root + (size x.kind + root_of nodes r.0)) r.1.kind) r.2) up ∙ ap (λ (o : ℕ). slice_get (states_of roots (suc origin + r.0) o r.1.kind) r.2) on ∙ r.4,
          omega (arith, far, near, long),
        )

-- each state comes from a node
pub from_node : (nodes : List Node) (t : ℕ) (s : State) → slice_get (states_by nodes) t ≡ Some s → FromNode nodes t s
from_node nodes t s e =
    let r = state_parts (root_of nodes) nodes 0 0 t s e in
    record {
      place = r.0;
      node = r.1;
      step = r.2;
      there = r.3;
      listed = ap (λ (o : ℕ). slice_get (states_of (root_of nodes) o (root_of nodes r.0) r.1.kind) r.2) (sym (zero-add r.0)) ∙ ap (λ (o : ℕ). slice_get (states_of (root_of nodes) (0 + r.0) o r.1.kind) r.2) (sym (zero-add (root_of nodes r.0))) ∙ r.4;
      at = r.5;
    }

-- what the first state of a node does
abbrev pub first_of : (ℕ → ℕ) → ℕ → Kind → Instr
first_of roots root (kind.Match fold keys peeks other) = branch_of roots root fold keys peeks other []
first_of roots root (kind.Invoke what answers other) = instr.Invoke what (answers_of roots answers) (roots other)
first_of roots root (kind.Consume prop next) = instr.Consume prop (roots next)
first_of roots root (kind.SpanOpen span next) = instr.SpanOpen span (roots next)
first_of roots root (kind.SpanClose span next) = instr.SpanClose span (roots next)
first_of roots root (kind.Pause number reason next) = instr.Pause number reason (roots next)
first_of roots root (kind.Fail number reason) = instr.Fail number reason

first_listed : (roots : ℕ → ℕ) (origin root : ℕ) (k : Kind) → slice_get (states_of roots origin root k) 0 ≡ Some (record { origin = origin; instr = first_of roots root k })
first_listed roots origin root (kind.Match fold keys peeks other) = refl
first_listed roots origin root (kind.Invoke what answers other) = refl
first_listed roots origin root (kind.Consume prop next) = refl
first_listed roots origin root (kind.SpanOpen span next) = refl
first_listed roots origin root (kind.SpanClose span next) = refl
first_listed roots origin root (kind.Pause number reason next) = refl
first_listed roots origin root (kind.Fail number reason) = refl

-- any state of a node stands behind its first
pub state_stands : (nodes : List Node) (i j : ℕ) (n : Node) (s : State) → slice_get nodes i ≡ Some n → slice_get (states_of (root_of nodes) i (root_of nodes i) n.kind) j ≡ Some s →
    slice_get (states_by nodes) (root_of nodes i + j) ≡ Some s
state_stands nodes i j n s e h = state_there (root_of nodes) nodes i j 0 0 i (root_of nodes i) (root_of nodes i + j) n s e (sym (zero-add i)) (sym (zero-add (root_of nodes i))) refl h

-- the first state of a node
pub first_stands : (nodes : List Node) (i : ℕ) (n : Node) → slice_get nodes i ≡ Some n → slice_get (states_by nodes) (root_of nodes i) ≡ Some (record { origin = i; instr = first_of (root_of nodes) (root_of nodes i) n.kind })
first_stands nodes i n e =
    ap (slice_get (states_by nodes)) (sym (add-zero (root_of nodes i)))
    ∙ state_stands nodes i 0 n (record { origin = i; instr = first_of (root_of nodes) (root_of nodes i) n.kind }) e (first_listed (root_of nodes) i (root_of nodes i) n.kind)

same_code : (g : Plan) (c : Code) → program_value_code (lowered g) c ≡ is_value_code g c
same_code g (code.Call host) = refl
same_code g (code.Store prop) = refl
same_code g (code.Load prop) = refl
same_code g (code.Update prop value) = refl
same_code g (code.Equal prop value) = refl
same_code g (code.And prop value) = refl
same_code g (code.Or prop value) = refl
same_code g (code.Test prop value) = refl
same_code g (code.MulAdd prop base most) = refl

-- the first state uses the number where the node does
same_value : (g : Plan) (root : ℕ) (k : Kind) → is_value_instr (lowered g) (first_of (root_of g.nodes) root k) ≡ is_value_kind g k
same_value g root (kind.Match fold keys peeks other) = refl
same_value g root (kind.Invoke what answers other) = same_code g what
same_value g root (kind.Consume prop next) = refl
same_value g root (kind.SpanOpen span next) = refl
same_value g root (kind.SpanClose span next) = refl
same_value g root (kind.Pause number reason next) = refl
same_value g root (kind.Fail number reason) = refl

-- an edge leads to the first state of where it led
pub leads_first : (g : Plan) (number : Option ℕ) (target : ℕ) → Leads g number target → leads (lowered g) number (root_of g.nodes target) ≡ true
leads_first g None target (n, there, plain) =
    ap (is_plain_state (lowered g)) (first_stands g.nodes target n there) ∙ ap not (same_value g (root_of g.nodes target) n.kind ∙ plain)
leads_first g (Some number) target (n, there, value, stores) =
    ap (is_value_state (lowered g)) (first_stands g.nodes target n there) ∙ (same_value g (root_of g.nodes target) n.kind ∙ value)

only_one : {A : Type 0} (x y : A) (j : ℕ) → slice_get (x ∷ []) j ≡ Some y → (j ≡ 0) × (x ≡ y)
only_one x y zero e = (refl, cc)
only_one x y (suc j) e = absurd cc

-- what the state at a place of a node does: a match node has a state for each prefix
abbrev pub InstrIs : (ℕ → ℕ) → ℕ → Kind → ℕ → Instr → Type 0
InstrIs roots root (kind.Match fold keys peeks other) j i = (p : List ℕ) × (slice_get ([] ∷ inner_of keys) j ≡ Some p) × (branch_of roots root fold keys peeks other p ≡ i)
InstrIs roots root (kind.Invoke what answers other) j i = (j ≡ 0) × (instr.Invoke what (answers_of roots answers) (roots other) ≡ i)
InstrIs roots root (kind.Consume prop next) j i = (j ≡ 0) × (instr.Consume prop (roots next) ≡ i)
InstrIs roots root (kind.SpanOpen span next) j i = (j ≡ 0) × (instr.SpanOpen span (roots next) ≡ i)
InstrIs roots root (kind.SpanClose span next) j i = (j ≡ 0) × (instr.SpanClose span (roots next) ≡ i)
InstrIs roots root (kind.Pause number reason next) j i = (j ≡ 0) × (instr.Pause number reason (roots next) ≡ i)
InstrIs roots root (kind.Fail number reason) j i = (j ≡ 0) × (instr.Fail number reason ≡ i)

made : ℕ → Instr → State
made origin i = record { origin = origin; instr = i }

one_made : (origin : ℕ) (i : Instr) (j : ℕ) (s : State) → slice_get (made origin i ∷ []) j ≡ Some s → (s.origin ≡ origin) × (j ≡ 0) × (i ≡ s.instr)
unfolding made
one_made origin i j s e =
    let one : (j ≡ 0) × (made origin i ≡ s) = only_one (made origin i) s j e in
    (sym (ap (λ (x : State). x.origin) one.1), one.0, ap (λ (x : State). x.instr) one.1)

-- the state at a place of a node
pub instr_is : (roots : ℕ → ℕ) (origin root : ℕ) (k : Kind) (j : ℕ) (s : State) → slice_get (states_of roots origin root k) j ≡ Some s → (s.origin ≡ origin) × InstrIs roots root k j s.instr
unfolding made
instr_is roots origin root (kind.Match fold keys peeks other) j s e =
    let outer : (i : Instr) × (slice_get (map (branch_of roots root fold keys peeks other) ([] ∷ inner_of keys)) j ≡ Some i) × (record { origin = origin; instr = i } ≡ s) =
    map_get (λ (i : Instr). record { origin = origin; instr = i }) (map (branch_of roots root fold keys peeks other) ([] ∷ inner_of keys)) j s e in
    let inner : (p : List ℕ) × (slice_get ([] ∷ inner_of keys) j ≡ Some p) × (branch_of roots root fold keys peeks other p ≡ outer.0) =
    map_get (branch_of roots root fold keys peeks other) ([] ∷ inner_of keys) j outer.0 outer.1 in
    (sym (ap (λ (x : State). x.origin) outer.2), (inner.0, inner.1, inner.2 ∙ ap (λ (x : State). x.instr) outer.2))
instr_is roots origin root (kind.Invoke what answers other) j s e = (let r = one_made origin (instr.Invoke what (answers_of roots answers) (roots other)) j s e in (r.0, (r.1, r.2)))
instr_is roots origin root (kind.Consume prop next) j s e = (let r = one_made origin (instr.Consume prop (roots next)) j s e in (r.0, (r.1, r.2)))
instr_is roots origin root (kind.SpanOpen span next) j s e = (let r = one_made origin (instr.SpanOpen span (roots next)) j s e in (r.0, (r.1, r.2)))
instr_is roots origin root (kind.SpanClose span next) j s e = (let r = one_made origin (instr.SpanClose span (roots next)) j s e in (r.0, (r.1, r.2)))
instr_is roots origin root (kind.Pause number reason next) j s e = (let r = one_made origin (instr.Pause number reason (roots next)) j s e in (r.0, (r.1, r.2)))
instr_is roots origin root (kind.Fail number reason) j s e = (let r = one_made origin (instr.Fail number reason) j s e in (r.0, (r.1, r.2)))

-- the state of an inner prefix
pub inner_stands : (nodes : List Node) (i j : ℕ) (n : Node) (fold : Fold) (keys : List Key) (peeks : List Peek) (other : Other) (p : List ℕ) → slice_get nodes i ≡ Some n → n.kind ≡ kind.Match fold keys peeks other → slice_get (inner_of keys) j ≡ Some p →
    slice_get (states_by nodes) (root_of nodes i + suc j) ≡ Some (record { origin = i; instr = branch_of (root_of nodes) (root_of nodes i) fold keys peeks other p })
inner_stands nodes i j n fold keys peeks other p e is h =
    state_stands nodes i (suc j) n (record { origin = i; instr = branch_of (root_of nodes) (root_of nodes i) fold keys peeks other p }) e
    (subst (λ (k : Kind). slice_get (states_of (root_of nodes) i (root_of nodes i) k) (suc j) ≡ Some (record { origin = i; instr = branch_of (root_of nodes) (root_of nodes i) fold keys peeks other p })) (sym is)
    (branch_there (root_of nodes) i (root_of nodes i) (kind.Match fold keys peeks other) (branch_of (root_of nodes) (root_of nodes i) fold keys peeks other) ([] ∷ inner_of keys) (suc j) p refl h))
