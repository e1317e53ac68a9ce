-- A graph fails the checks for at most one reason, and for none where it is accepted.
use Rattle.std.proofs.Common.{◌≡◌, ℕ, zero, suc, ◌+◌, ◌≤◌, ◌<◌, inl, inr, List, [], ◌∷◌, ◌++◌, length, take, get_or, refl, sym, ap, ap₂, subst, ◌∙◌, arith, max}
use Rattle.std.specs.Prelude.{slice_get, slice_index, ◌↔◌}
use Rattle.std.specs.Int.{bit_at}
use Rattle.std.proofs.lemmas.List.{take_more}
use Rattle.std.proofs.lemmas.Nat.Bits.{bit_at-lt}
use Rattle.pp_graph.specs.Plan.{Plan}
use Rattle.pp_event.specs.Loops.{IsGap}
use Rattle.pp_mean.specs.Loops.{graph_moves}
use Rattle.pp_check.specs.Loops.{IsLeastLoop}
use Rattle.pp_check.specs.Spans.{Reopens, ClosesShut, Mixes, MayBeOpen, IsLeast, TellsOpen}
use Rattle.pp_check.specs.Checked.{Found, told, IsChecked}
use Rattle.pp_check.proofs.OneAnswerLemmas.{not_free, one_byte, one_first, same_node, least_one, at_reopens, at_closes, at_mixes}
use Rattle.pp_tool.specs.declared.refusal.CheckReason.{CheckReason}
use Rattle.pp_tool.specs.declared.refusal.CheckReason.TheVariants as check
use Rattle.pp_tool.specs.declared.refusal.Refusal.TheVariants as refusal
use Rattle.pp_tool.specs.declared.stop.Stop.{Stop}
use Rattle.pp_tool.specs.Verdict.{Gives, Refuses, AtMostOne, IsOnly, Stops}
use Rattle.pp_tool.specs.Checks.{IsAccepted, AreNames, FailsFor, Checks, name_of_span}
use Rattle.pp_tool.specs.Check.{bits_below, most_bits, accepted_line, IsShape, TellsShape}
use Rattle.pp_tool.specs.steps.Checking.{IsCheckStop}
use Rattle.pp_tool.specs.Report.{name_of_node}

-- a loop at one node and byte is told one way
one_loop : (g : Plan) (a b : ℕ) (n m : List ℕ) (c d : List ℕ) → IsLeastLoop g a c → IsLeastLoop g b d → n ≡ name_of_node (slice_get g.nodes (slice_index c 0)) →
    m ≡ name_of_node (slice_get g.nodes (slice_index d 0)) → check.Loop n a ≡ check.Loop m b
one_loop g a b n m c d h k e f =
    let bytes : a ≡ b = one_byte g a b c d h k in
    let nodes : slice_index c 0 ≡ slice_index d 0 = one_first g a c d h (subst (λ (x : ℕ). IsLeastLoop g x d) (sym bytes) k) in
    let names : n ≡ m = e ∙ ap (λ (i : ℕ). name_of_node (slice_get g.nodes i)) nodes ∙ sym f in
    ap₂ check.Loop names bytes

-- and so is a fault of one span at one node
one_names : (g : Plan) (n m s t : ℕ) (a b x y : List ℕ) (reason : List ℕ → List ℕ → CheckReason) → n ≡ m → s ≡ t → AreNames g n s a x → AreNames g m t b y → reason x a ≡ reason y b
one_names g n m s t a b x y reason e f h k =
    ap₂ reason (h.of_span ∙ ap (λ (i : ℕ). name_of_span (slice_get g.spans i)) f ∙ sym k.of_span)
    (h.of_node ∙ ap (λ (i : ℕ). name_of_node (slice_get g.nodes i)) e ∙ sym k.of_node)

-- an accepted graph fails for no reason
pub not_accepted : (g : Plan) (r : CheckReason) → IsAccepted g → FailsFor g r → ⊥
not_accepted g check.NotYet a h = h
not_accepted g (check.Loop node byte) a h = not_free g byte h.0 a.loop_free h.1
not_accepted g (check.Reopened span node) a h = (a.spans_fit h.0).reopens h.1 h.2.2.0
not_accepted g (check.NotOpen span node) a h = (a.spans_fit h.0).closes h.1 h.2.3.0
not_accepted g (check.Mixed span node) a h = (a.spans_fit h.0).mixes h.1 h.2.4.0

-- two reasons are one
pub one_reason : (g : Plan) (x y : CheckReason) → FailsFor g x → FailsFor g y → x ≡ y
one_reason g check.NotYet y h k = absurd h
one_reason g (check.Loop node byte) check.NotYet h k = absurd k
one_reason g (check.Loop node byte) (check.Loop other at) h k = one_loop g byte at node other h.0 k.0 h.1 k.1 h.2 k.2
one_reason g (check.Loop node byte) (check.Reopened span at) h k = absurd (not_free g byte h.0 k.2.0 h.1)
one_reason g (check.Loop node byte) (check.NotOpen span at) h k = absurd (not_free g byte h.0 k.2.0 h.1)
one_reason g (check.Loop node byte) (check.Mixed span at) h k = absurd (not_free g byte h.0 k.2.0 h.1)
one_reason g (check.Reopened span node) check.NotYet h k = absurd k
one_reason g (check.Reopened span node) (check.Loop at byte) h k = absurd (not_free g byte k.0 h.2.0 k.1)
one_reason g (check.Reopened span node) (check.Reopened other at) h k =
    let node_is : h.0 ≡ k.0 = same_node g h.0 k.0 h.2.1 k.2.1 (at_reopens g h.0 h.1 h.2.2.0) (at_reopens g k.0 k.1 k.2.2.0) in
    let span_is : h.1 ≡ k.1 = least_one (Reopens g k.0) h.1 k.1 (subst (λ (n : ℕ). IsLeast (Reopens g n) h.1) node_is h.2.2) k.2.2 in
    one_names g h.0 k.0 h.1 k.1 node at span other check.Reopened node_is span_is h.3 k.3
one_reason g (check.Reopened span node) (check.NotOpen other at) h k = absurd (k.2.2 h.1 (subst (λ (n : ℕ). Reopens g n h.1) (same_node g h.0 k.0 h.2.1 k.2.1 (at_reopens g h.0 h.1 h.2.2.0) (at_closes g k.0 k.1 k.2.3.0)) h.2.2.0))
one_reason g (check.Reopened span node) (check.Mixed other at) h k = absurd (k.2.2 h.1 (subst (λ (n : ℕ). Reopens g n h.1) (same_node g h.0 k.0 h.2.1 k.2.1 (at_reopens g h.0 h.1 h.2.2.0) (at_mixes g k.0 k.1 k.2.4.0)) h.2.2.0))
one_reason g (check.NotOpen span node) check.NotYet h k = absurd k
one_reason g (check.NotOpen span node) (check.Loop at byte) h k = absurd (not_free g byte k.0 h.2.0 k.1)
one_reason g (check.NotOpen span node) (check.Reopened other at) h k = absurd (h.2.2 k.1 (subst (λ (n : ℕ). Reopens g n k.1) (sym (same_node g h.0 k.0 h.2.1 k.2.1 (at_closes g h.0 h.1 h.2.3.0) (at_reopens g k.0 k.1 k.2.2.0))) k.2.2.0))
one_reason g (check.NotOpen span node) (check.NotOpen other at) h k =
    let node_is : h.0 ≡ k.0 = same_node g h.0 k.0 h.2.1 k.2.1 (at_closes g h.0 h.1 h.2.3.0) (at_closes g k.0 k.1 k.2.3.0) in
    let span_is : h.1 ≡ k.1 = least_one (ClosesShut g k.0) h.1 k.1 (subst (λ (n : ℕ). IsLeast (ClosesShut g n) h.1) node_is h.2.3) k.2.3 in
    one_names g h.0 k.0 h.1 k.1 node at span other check.NotOpen node_is span_is h.3 k.3
one_reason g (check.NotOpen span node) (check.Mixed other at) h k = absurd (k.2.3 h.1 (subst (λ (n : ℕ). ClosesShut g n h.1) (same_node g h.0 k.0 h.2.1 k.2.1 (at_closes g h.0 h.1 h.2.3.0) (at_mixes g k.0 k.1 k.2.4.0)) h.2.3.0))
one_reason g (check.Mixed span node) check.NotYet h k = absurd k
one_reason g (check.Mixed span node) (check.Loop at byte) h k = absurd (not_free g byte k.0 h.2.0 k.1)
one_reason g (check.Mixed span node) (check.Reopened other at) h k = absurd (h.2.2 k.1 (subst (λ (n : ℕ). Reopens g n k.1) (sym (same_node g h.0 k.0 h.2.1 k.2.1 (at_mixes g h.0 h.1 h.2.4.0) (at_reopens g k.0 k.1 k.2.2.0))) k.2.2.0))
one_reason g (check.Mixed span node) (check.NotOpen other at) h k = absurd (h.2.3 k.1 (subst (λ (n : ℕ). ClosesShut g n k.1) (sym (same_node g h.0 k.0 h.2.1 k.2.1 (at_mixes g h.0 h.1 h.2.4.0) (at_closes g k.0 k.1 k.2.3.0))) k.2.3.0))
one_reason g (check.Mixed span node) (check.Mixed other at) h k =
    let node_is : h.0 ≡ k.0 = same_node g h.0 k.0 h.2.1 k.2.1 (at_mixes g h.0 h.1 h.2.4.0) (at_mixes g k.0 k.1 k.2.4.0) in
    let span_is : h.1 ≡ k.1 = least_one (Mixes g k.0) h.1 k.1 (subst (λ (n : ℕ). IsLeast (Mixes g n) h.1) node_is h.2.4) k.2.4 in
    one_names g h.0 k.0 h.1 k.1 node at span other check.Mixed node_is span_is h.3 k.3

-- the stage has at most one outcome
pub checks_one : {A : Type 0} (graph : A → Plan) (a : A) → AtMostOne (Checks graph a)
checks_one graph a (Gives b) (Gives c) h k = ap Gives (h.1 ∙ sym k.1)
checks_one graph a (Gives b) (Refuses why before) h k = absurd (not_accepted (graph a) k.0 h.0 k.1)
checks_one graph a (Refuses why before) (Gives b) h k = absurd (not_accepted (graph a) h.0 k.0 h.1)
checks_one graph a (Refuses why before) (Refuses other after) h k =
    ap₂ Refuses (h.2 ∙ ap refusal.Check (one_reason (graph a) h.0 k.0 h.1 k.1) ∙ sym k.2) (h.3 ∙ sym k.3)

pub checks_hold : {A : Type 0} (graph : A → Plan) (a : A) → IsAccepted (graph a) → IsOnly (Checks graph a) (Gives a)
checks_hold graph a h = ((h, refl), λ other k. checks_one graph a other (Gives a) k (h, refl))

pub checks_fail : {A : Type 0} (graph : A → Plan) (a : A) (reason : CheckReason) → FailsFor (graph a) reason → IsOnly (Checks graph a) (Refuses (refusal.Check reason) [])
checks_fail graph a reason h = ((reason, h, refl, refl), λ other k. checks_one graph a other (Refuses (refusal.Check reason) []) k (reason, h, refl, refl))

-- a graph of which all is found is accepted
pub accepted : (g : Plan) (found : Found) → IsChecked (told g found) → IsAccepted g
accepted g found h = record { loop_free = h.loop_free; spans_fit = h.spans_fit }

-- and what its function stops with is that outcome, or want of memory
pub stops_check : {A : Type 0} (graph : A → Plan) (a : A) (s : Stop) → IsCheckStop (graph a) s → Stops (Checks graph a) s
stops_check graph a s (inl e) = subst (Stops (Checks graph a)) (sym e) tt
stops_check graph a s (inr h) = subst (Stops (Checks graph a)) (sym h.1) (checks_fail graph a h.0 h.2)

-- a bit that is 1 in one of two masks exactly where it is in the other
same_bit : (a b : ℕ) (P : Type 0) → a < 2 → b < 2 → (a ≡ 1) ↔ P → (b ≡ 1) ↔ P → a ≡ b
same_bit zero zero P ha hb h k = refl
same_bit zero (suc b) P ha hb h k =
    let one : suc b ≡ 1 = omega (arith, hb) in
    let none : zero ≡ 1 = h.1 (k.0 one) in
    absurd (omega (arith, none))
same_bit (suc a) zero P ha hb h k =
    let one : suc a ≡ 1 = omega (arith, ha) in
    let none : zero ≡ 1 = k.1 (h.0 one) in
    absurd (omega (arith, none))
same_bit (suc a) (suc b) P ha hb h k = omega (arith, ha, hb)

same_below : (n a b : ℕ) → ((s : ℕ) → s < n → bit_at a s ≡ bit_at b s) → bits_below n a ≡ bits_below n b
same_below zero a b h = refl
same_below (suc n) a b h = ap₂ (λ (x y : ℕ). x + y) (same_below n a b (λ s less. h s (omega (arith, less)))) (h n (omega arith))

same_most : (xs ys : List ℕ) → length xs ≡ length ys → ((i s : ℕ) → i < length xs → s < 32 → bit_at (slice_index xs i) s ≡ bit_at (slice_index ys i) s) → most_bits xs ≡ most_bits ys
same_most [] [] e h = refl
same_most [] (y ∷ ys) e h = absurd (omega (arith, e))
same_most (x ∷ xs) [] e h = absurd (omega (arith, e))
same_most (x ∷ xs) (y ∷ ys) e h =
    ap₂ max (same_below 32 x y (λ s less. h 0 s (omega arith) less))
    (same_most xs ys (omega (arith, e)) (λ i s inside less. h (suc i) s (omega (arith, inside)) less))

one_gap : (g : Plan) (a b : ℕ) → IsGap (graph_moves g) a → IsGap (graph_moves g) b → a ≡ b
one_gap g a b h k =
    let up : a ≤ b = k.most h.met.0 h.met.1 a h.met.2 h.met.3 h.met.4 in
    let down : b ≤ a = h.most k.met.0 k.met.1 b k.met.2 k.met.3 k.met.4 in
    omega (arith, up, down)

one_mask : (g : Plan) (a b : List ℕ) → TellsOpen g a → TellsOpen g b → most_bits a ≡ most_bits b
one_mask g a b h k =
    same_most a b (h.long ∙ sym k.long) (λ i s inside less.
    let node : i < length g.nodes = omega (arith, inside, h.long) in
    same_bit (bit_at (slice_index a i) s) (bit_at (slice_index b i) s) (MayBeOpen g s i) (bit_at-lt (slice_index a i) s) (bit_at-lt (slice_index b i) s)
    (h.exact i s node less) (k.exact i s node less))

one_line : (g : Plan) (x y : List ℕ) → IsShape g x → IsShape g y → x ≡ y
one_line g x y h k =
    h.line_is ∙ ap₂ (λ (gap spans : ℕ). accepted_line (length g.nodes) gap spans) (one_gap g h.gap k.gap h.exact_gap k.exact_gap) (one_mask g h.opened k.opened h.exact_spans k.exact_spans) ∙ sym k.line_is

pub shape_one : (g : Plan) → AtMostOne (TellsShape g)
shape_one g (Gives x) (Gives y) h k = ap Gives (one_line g x y h k)
shape_one g (Gives x) (Refuses why before) h k = absurd k
shape_one g (Refuses why before) y h k = absurd h

pub shape_told : (g : Plan) (line : List ℕ) → IsShape g line → IsOnly (TellsShape g) (Gives line)
shape_told g line h = (h, λ other k. shape_one g other (Gives line) k h)

-- the most bits, of one mask more
max_swap : (b : ℕ) → max b 0 ≡ max 0 b
max_swap b = omega arith

max_both : (a b c r : ℕ) → r ≡ max b c → max a r ≡ max (max a b) c
max_both a b c r e = omega (arith, e)

most_last : (xs : List ℕ) (y : ℕ) → most_bits (xs ++ y ∷ []) ≡ max (most_bits xs) (bits_below 32 y)
most_last [] y = max_swap (bits_below 32 y)
most_last (x ∷ xs) y = max_both (bits_below 32 x) (most_bits xs) (bits_below 32 y) (most_bits (xs ++ y ∷ [])) (most_last xs y)

pub most_more : (xs : List ℕ) (i d : ℕ) → i < length xs → most_bits (take (i + 1) xs) ≡ max (most_bits (take i xs)) (bits_below 32 (get_or xs i d))
most_more xs i d inside = ap most_bits (take_more xs i d inside) ∙ most_last (take i xs) (get_or xs i d)
