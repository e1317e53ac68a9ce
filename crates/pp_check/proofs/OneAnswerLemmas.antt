-- A graph has at most one fault, and none where it has no loop and its spans fit.
use Rattle.std.proofs.Common.{◌≡◌, ℕ, zero, suc, ◌+◌, ◌-◌, ◌⊎◌, inl, inr, List, length, refl, sym, ap₂, subst, arith}
use Rattle.std.specs.Prelude.{slice_index, ◌≢◌}
use Rattle.std.proofs.lemmas.Bool.{cases_order}
use Rattle.pp_graph.specs.Plan.{Plan}
use Rattle.pp_event.specs.Loops.{FreeMove, FreeWay, stay, onward}
use Rattle.pp_mean.specs.Loops.{graph_moves, IsLoopFree}
use Rattle.pp_check.specs.Loops.{IsOnCycle, IsCycle, IsLeastLoop}
use Rattle.pp_check.specs.Spans.{Reopens, ClosesShut, Mixes, IsLeast, HasNoFault, SpansFit}
use Rattle.pp_check.specs.Checked.{NoneBefore, IsFault, IsAlike}
use Rattle.pp_check.specs.declared.checked.CheckFault.{CheckFault}
use Rattle.pp_check.specs.declared.checked.CheckFault.TheVariants.{Loop, SpanReopened, SpanNotOpen, SpanMixed, NoMemory}

-- from a node of a cycle the free moves lead to its first
way_from : (g : Plan) (byte : ℕ) (cycle : List ℕ) → IsCycle g byte cycle → (k i : ℕ) → i + suc k ≡ length cycle →
    FreeWay (graph_moves g) byte (slice_index cycle i) (suc k) (slice_index cycle 0)
way_from g byte cycle c zero i e =
    let last : length cycle - 1 ≡ i = omega (arith, e) in
    onward (subst (λ (n : ℕ). FreeMove (graph_moves g) byte (slice_index cycle n) (slice_index cycle 0)) last c.closes) stay
way_from g byte cycle c (suc k) i e = onward (c.links i (omega (arith, e))) (way_from g byte cycle c k (suc i) (omega (arith, e)))

-- the first node of a least loop is on a cycle
pub on_cycle : (g : Plan) (byte : ℕ) (cycle : List ℕ) → IsLeastLoop g byte cycle → IsOnCycle g byte (slice_index cycle 0)
on_cycle g byte cycle l = record {
  reached = l.reached;
  size = length cycle - 1;
  way = way_from g byte cycle l.round (length cycle - 1) 0 (omega (arith, l.round.some));
}

pub not_free : (g : Plan) (byte : ℕ) (cycle : List ℕ) → IsLoopFree g → IsLeastLoop g byte cycle → ⊥
not_free g byte cycle free l = (let on = on_cycle g byte cycle l in free byte (slice_index cycle 0) on.size on.reached on.way)

pub one_byte : (g : Plan) (a b : ℕ) (c d : List ℕ) → IsLeastLoop g a c → IsLeastLoop g b d → a ≡ b
one_byte g a b c d h k = elim (cases_order a b) [
  | inl e ↦ e
  | inr (inl less) ↦ absurd (k.least_byte a (slice_index c 0) less (on_cycle g a c h))
  | inr (inr more) ↦ absurd (h.least_byte b (slice_index d 0) more (on_cycle g b d k))
]

pub one_first : (g : Plan) (a : ℕ) (c d : List ℕ) → IsLeastLoop g a c → IsLeastLoop g a d → slice_index c 0 ≡ slice_index d 0
one_first g a c d h k = elim (cases_order (slice_index c 0) (slice_index d 0)) [
  | inl e ↦ e
  | inr (inl less) ↦ absurd (k.least_node (slice_index c 0) less (on_cycle g a c h))
  | inr (inr more) ↦ absurd (h.least_node (slice_index d 0) more (on_cycle g a d k))
]

-- the first node with a fault is one
pub same_node : (g : Plan) (n m : ℕ) → NoneBefore g n → NoneBefore g m → (HasNoFault g n → ⊥) → (HasNoFault g m → ⊥) → n ≡ m
same_node g n m h k f e = elim (cases_order n m) [
  | inl same ↦ same
  | inr (inl less) ↦ absurd (f (k n less))
  | inr (inr more) ↦ absurd (e (h m more))
]

pub least_one : (P : ℕ → Type 0) (s t : ℕ) → IsLeast P s → IsLeast P t → s ≡ t
least_one P s t h k = elim (cases_order s t) [
  | inl e ↦ e
  | inr (inl less) ↦ absurd (k.1 s less h.0)
  | inr (inr more) ↦ absurd (h.1 t more k.0)
]

-- the faults of spans, each as a fault of its node
pub at_reopens : (g : Plan) (node span : ℕ) → Reopens g node span → HasNoFault g node → ⊥
at_reopens g node span h none = none.reopens span h

pub at_closes : (g : Plan) (node span : ℕ) → ClosesShut g node span → HasNoFault g node → ⊥
at_closes g node span h none = none.closes span h

pub at_mixes : (g : Plan) (node span : ℕ) → Mixes g node span → HasNoFault g node → ⊥
at_mixes g node span h none = none.mixes span h

-- what is no fault is want of memory
pub no_fault : (g : Plan) (f : CheckFault) → IsLoopFree g → SpansFit g → IsFault g f → f ≡ NoMemory
no_fault g (Loop byte cycle) free fit h = absurd (not_free g byte cycle free h)
no_fault g (SpanReopened node span) free fit h = absurd ((fit node).reopens span h.2.0)
no_fault g (SpanNotOpen node span) free fit h = absurd ((fit node).closes span h.3.0)
no_fault g (SpanMixed node span) free fit h = absurd ((fit node).mixes span h.4.0)
no_fault g NoMemory free fit h = refl

-- two loops of one graph are at one byte, and begin at one node
pub one_loop : (g : Plan) (a b : ℕ) (c d : List ℕ) → IsLeastLoop g a c → IsLeastLoop g b d → (a ≡ b) × (slice_index c 0 ≡ slice_index d 0)
one_loop g a b c d h k = (one_byte g a b c d h k, one_first g a c d h (subst (λ (x : ℕ). IsLeastLoop g x d) (sym (one_byte g a b c d h k)) k))

-- and two faults of one graph are alike
pub alike : (g : Plan) (f h : CheckFault) → f ≢ NoMemory → h ≢ NoMemory → IsFault g f → IsFault g h → IsAlike f h
alike g (Loop a c) (Loop b d) x y h k = one_loop g a b c d h k
alike g (Loop a c) (SpanReopened m t) x y h k = absurd (not_free g a c k.0 h)
alike g (Loop a c) (SpanNotOpen m t) x y h k = absurd (not_free g a c k.0 h)
alike g (Loop a c) (SpanMixed m t) x y h k = absurd (not_free g a c k.0 h)
alike g (Loop a c) NoMemory x y h k = absurd (y refl)
alike g (SpanReopened n s) (Loop b d) x y h k = absurd (not_free g b d h.0 k)
alike g (SpanReopened n s) (SpanReopened m t) x y h k =
    let node : n ≡ m = same_node g n m h.1 k.1 (at_reopens g n s h.2.0) (at_reopens g m t k.2.0) in
    ap₂ SpanReopened node (least_one (Reopens g m) s t (subst (λ (i : ℕ). IsLeast (Reopens g i) s) node h.2) k.2)
alike g (SpanReopened n s) (SpanNotOpen m t) x y h k = absurd (k.2 s (subst (λ (i : ℕ). Reopens g i s) (same_node g n m h.1 k.1 (at_reopens g n s h.2.0) (at_closes g m t k.3.0)) h.2.0))
alike g (SpanReopened n s) (SpanMixed m t) x y h k = absurd (k.2 s (subst (λ (i : ℕ). Reopens g i s) (same_node g n m h.1 k.1 (at_reopens g n s h.2.0) (at_mixes g m t k.4.0)) h.2.0))
alike g (SpanReopened n s) NoMemory x y h k = absurd (y refl)
alike g (SpanNotOpen n s) (Loop b d) x y h k = absurd (not_free g b d h.0 k)
alike g (SpanNotOpen n s) (SpanReopened m t) x y h k = absurd (h.2 t (subst (λ (i : ℕ). Reopens g i t) (sym (same_node g n m h.1 k.1 (at_closes g n s h.3.0) (at_reopens g m t k.2.0))) k.2.0))
alike g (SpanNotOpen n s) (SpanNotOpen m t) x y h k =
    let node : n ≡ m = same_node g n m h.1 k.1 (at_closes g n s h.3.0) (at_closes g m t k.3.0) in
    ap₂ SpanNotOpen node (least_one (ClosesShut g m) s t (subst (λ (i : ℕ). IsLeast (ClosesShut g i) s) node h.3) k.3)
alike g (SpanNotOpen n s) (SpanMixed m t) x y h k = absurd (k.3 s (subst (λ (i : ℕ). ClosesShut g i s) (same_node g n m h.1 k.1 (at_closes g n s h.3.0) (at_mixes g m t k.4.0)) h.3.0))
alike g (SpanNotOpen n s) NoMemory x y h k = absurd (y refl)
alike g (SpanMixed n s) (Loop b d) x y h k = absurd (not_free g b d h.0 k)
alike g (SpanMixed n s) (SpanReopened m t) x y h k = absurd (h.2 t (subst (λ (i : ℕ). Reopens g i t) (sym (same_node g n m h.1 k.1 (at_mixes g n s h.4.0) (at_reopens g m t k.2.0))) k.2.0))
alike g (SpanMixed n s) (SpanNotOpen m t) x y h k = absurd (h.3 t (subst (λ (i : ℕ). ClosesShut g i t) (sym (same_node g n m h.1 k.1 (at_mixes g n s h.4.0) (at_closes g m t k.3.0))) k.3.0))
alike g (SpanMixed n s) (SpanMixed m t) x y h k =
    let node : n ≡ m = same_node g n m h.1 k.1 (at_mixes g n s h.4.0) (at_mixes g m t k.4.0) in
    ap₂ SpanMixed node (least_one (Mixes g m) s t (subst (λ (i : ℕ). IsLeast (Mixes g i) s) node h.4) k.4)
alike g (SpanMixed n s) NoMemory x y h k = absurd (y refl)
alike g NoMemory h x y p k = absurd (x refl)

-- what is told of a graph that has a fault is that fault, or want of memory
pub told_alike : (g : Plan) (f h : CheckFault) → f ≢ NoMemory → IsFault g f → IsFault g h → (h ≡ NoMemory) ⊎ IsAlike f h
told_alike g f (Loop byte cycle) some p q = inr (alike g f (Loop byte cycle) some (λ e. absurd cc) p q)
told_alike g f (SpanReopened node span) some p q = inr (alike g f (SpanReopened node span) some (λ e. absurd cc) p q)
told_alike g f (SpanNotOpen node span) some p q = inr (alike g f (SpanNotOpen node span) some (λ e. absurd cc) p q)
told_alike g f (SpanMixed node span) some p q = inr (alike g f (SpanMixed node span) some (λ e. absurd cc) p q)
told_alike g f NoMemory some p q = inl refl
