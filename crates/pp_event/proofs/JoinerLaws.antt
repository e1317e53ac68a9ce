-- One event after the other gives the joined items and bytes of a log.
use Rattle.std.proofs.Common.{subst, ◌≡◌, ℕ, zero, suc, ◌+◌, ◌<◌, ◌≤◌, List, [], ◌∷◌, ◌++◌, Option, Some, None, Bool, true, false, cond, refl, sym, ◌∙◌, ap, arith, length, map, set, eqb}
use Rattle.std.specs.Prelude.{unwrap_or, not}
use Rattle.std.proofs.lemmas.Bool.{eqb-true, eqb-false, eq-eqb}
use Rattle.std.proofs.lemmas.List.{length-replicate, get_or-replicate}
use Rattle.pp_event.specs.declared.item.Item.{Item}
use Rattle.pp_event.specs.declared.item.Item.TheVariants as item
use Rattle.pp_event.specs.Told.{Told, Called, Pieced}
use Rattle.pp_event.specs.Turns.{slot}
use Rattle.pp_event.specs.Joined.{joined_from, bytes_after, joined, joined_bytes}
use Rattle.pp_event.specs.Joiner.{listed, items_taken, SpanParts, no_parts, parts_of, with_piece, with_event, item_of, after_events, nothing_joined, open_bytes}

-- a write outside a list changes nothing
pub set-outside : {X : Type 0} (xs : List X) (i : ℕ) (x : X) → length xs ≤ i → set xs i x ≡ xs
set-outside [] i x h = refl
set-outside (y ∷ xs) zero x h = absurd (omega arith)
set-outside (y ∷ xs) (suc i) x h = ap (λ (l : List _). y ∷ l) (set-outside xs i x (omega arith))

-- where the spans have begun
abbrev pub begun_of : List SpanParts → List (Option ℕ)
begun_of spans = map (λ (s : SpanParts). s.begun) spans

slot-begun : (spans : List SpanParts) (span : ℕ) → slot (begun_of spans) span ≡ (parts_of spans span).begun
slot-begun [] span = refl
slot-begun (s ∷ spans) zero = refl
slot-begun (s ∷ spans) (suc span) = slot-begun spans span

begun-set : (spans : List SpanParts) (span : ℕ) (s : SpanParts) → begun_of (set spans span s) ≡ set (begun_of spans) span s.begun
begun-set [] span s = refl
begun-set (x ∷ spans) zero s = refl
begun-set (x ∷ spans) (suc span) s = ap (λ (l : List (Option ℕ)). x.begun ∷ l) (begun-set spans span s)

-- the items of a log are the item of its first event and those behind it
pub joined_from-event : (spans : List SpanParts) (e : Told) (log : List Told) →
    joined_from (begun_of spans) (e ∷ log) ≡ listed (item_of spans e) ++ joined_from (begun_of (with_event spans e)) log
joined_from-event spans (Called code value at values answer) log = refl
joined_from-event spans (Pieced span at part true answer) log =
    ap (λ (f : Option ℕ). item.Span span (unwrap_or f at) (at + length part) ∷ joined_from (set (begun_of spans) span None) log) (slot-begun spans span)
    ∙ ap (λ (b : List (Option ℕ)). item.Span span (unwrap_or (parts_of spans span).begun at) (at + length part) ∷ joined_from b log)
    (sym (begun-set spans span (with_piece (parts_of spans span) at part true)))
joined_from-event spans (Pieced span at part false answer) log =
    ap (λ (f : Option ℕ). joined_from (set (begun_of spans) span (Some (unwrap_or f at))) log) (slot-begun spans span)
    ∙ ap (λ (b : List (Option ℕ)). joined_from b log) (sym (begun-set spans span (with_piece (parts_of spans span) at part false)))

-- these are its joined items
pub items_taken-joined : (spans : List SpanParts) (log : List Told) → items_taken spans log ≡ joined_from (begun_of spans) log
items_taken-joined spans [] = refl
items_taken-joined spans (e ∷ log) = ap (λ (l : List Item). listed (item_of spans e) ++ l) (items_taken-joined (with_event spans e) log) ∙ sym (joined_from-event spans e log)

-- of a joiner from its beginning
pub items_taken-new : (log : List Told) → items_taken nothing_joined log ≡ joined log
items_taken-new log = items_taken-joined nothing_joined log

-- a span is open
abbrev pub is_open : Option ℕ → Bool
is_open None = false
is_open (Some from) = true

open_bytes-if : (o : Option ℕ) (bytes : List ℕ) → open_bytes o bytes ≡ cond (is_open o) bytes []
open_bytes-if None bytes = refl
open_bytes-if (Some from) bytes = refl

is_open-if : (last : Bool) (from : ℕ) → is_open (cond last None (Some from)) ≡ not last
is_open-if true from = refl
is_open-if false from = refl

parts-same : (spans : List SpanParts) (span : ℕ) (s : SpanParts) → span < length spans → parts_of (set spans span s) span ≡ s
parts-same [] span s h = absurd (omega arith)
parts-same (x ∷ spans) zero s h = refl
parts-same (x ∷ spans) (suc span) s h = parts-same spans span s (omega arith)

parts-other : (spans : List SpanParts) (a b : ℕ) (s : SpanParts) → (a ≡ b → ⊥) → parts_of (set spans a s) b ≡ parts_of spans b
parts-other [] a b s h = refl
parts-other (x ∷ spans) zero zero s h = absurd (h refl)
parts-other (x ∷ spans) zero (suc b) s h = refl
parts-other (x ∷ spans) (suc a) zero s h = refl
parts-other (x ∷ spans) (suc a) (suc b) s h = parts-other spans a b s (λ e. h (ap suc e))

length-parts : (spans : List SpanParts) (span : ℕ) (s : SpanParts) → length (set spans span s) ≡ length spans
length-parts [] span s = refl
length-parts (x ∷ spans) zero s = refl
length-parts (x ∷ spans) (suc span) s = ap suc (length-parts spans span s)

with_event-length : (spans : List SpanParts) (e : Told) → length (with_event spans e) ≡ length spans
with_event-length spans (Called code value at values answer) = refl
with_event-length spans (Pieced span at part last answer) = length-parts spans span (with_piece (parts_of spans span) at part last)

-- the joined bytes of a span behind what came of it so far
abbrev pub bytes_behind : ℕ → SpanParts → List Told → List ℕ
bytes_behind s parts log = bytes_after s (is_open parts.begun) parts.bytes log

piece_behind : (s at : ℕ) (part : List ℕ) (last : Bool) (parts : SpanParts) (log : List Told) →
    bytes_after s (not last) (cond (is_open parts.begun) parts.bytes [] ++ part) log ≡ bytes_behind s (with_piece parts at part last) log
piece_behind s at part last parts log =
    ap (λ (b : Bool). bytes_after s b (cond (is_open parts.begun) parts.bytes [] ++ part) log) (sym (is_open-if last (unwrap_or parts.begun at)))
    ∙ ap (λ (l : List ℕ). bytes_after s (is_open (with_piece parts at part last).begun) (l ++ part) log) (sym (open_bytes-if parts.begun parts.bytes))

bytes-piece : (spans : List SpanParts) (s span at : ℕ) (part : List ℕ) (last : Bool) (log : List Told) → s < length spans → (b : Bool) → eqb span s ≡ b →
    cond (eqb span s) (bytes_after s (not last) (cond (is_open (parts_of spans s).begun) (parts_of spans s).bytes [] ++ part) log) (bytes_behind s (parts_of spans s) log)
    ≡ bytes_behind s (parts_of (set spans span (with_piece (parts_of spans span) at part last)) s) log
bytes-piece spans s span at part last log h true e =
    let P : ℕ → Type 0 = λ x.
    cond (eqb x s) (bytes_after s (not last) (cond (is_open (parts_of spans s).begun) (parts_of spans s).bytes [] ++ part) log) (bytes_behind s (parts_of spans s) log)
    ≡ bytes_behind s (parts_of (set spans x (with_piece (parts_of spans x) at part last)) s) log in
    let base : P s =
    ap (λ (b : Bool). cond b (bytes_after s (not last) (cond (is_open (parts_of spans s).begun) (parts_of spans s).bytes [] ++ part) log) (bytes_behind s (parts_of spans s) log)) (eq-eqb s s refl)
    ∙ piece_behind s at part last (parts_of spans s) log
    ∙ ap (λ (p : SpanParts). bytes_behind s p log) (sym (parts-same spans s (with_piece (parts_of spans s) at part last) h)) in
    subst P (sym (eqb-true span s e)) base
bytes-piece spans s span at part last log h false e =
    ap (λ (b : Bool). cond b (bytes_after s (not last) (cond (is_open (parts_of spans s).begun) (parts_of spans s).bytes [] ++ part) log) (bytes_behind s (parts_of spans s) log)) e
    ∙ ap (λ (p : SpanParts). bytes_behind s p log) (sym (parts-other spans span s (with_piece (parts_of spans span) at part last) (eqb-false span s e)))

bytes-event : (spans : List SpanParts) (s : ℕ) (e : Told) (log : List Told) → s < length spans →
    bytes_behind s (parts_of spans s) (e ∷ log) ≡ bytes_behind s (parts_of (with_event spans e) s) log
bytes-event spans s (Called code value at values answer) log h = refl
bytes-event spans s (Pieced span at part last answer) log h = bytes-piece spans s span at part last log h (eqb span s) refl

-- after a log a joiner has the joined bytes of each of its spans
pub bytes_taken : (spans : List SpanParts) (log : List Told) (s : ℕ) → s < length spans → (parts_of (after_events spans log) s).bytes ≡ bytes_behind s (parts_of spans s) log
bytes_taken spans [] s h = refl
bytes_taken spans (e ∷ log) s h =
    bytes_taken (with_event spans e) log s (omega (arith, with_event-length spans e)) ∙ sym (bytes-event spans s e log h)

-- of a joiner from its beginning
pub bytes_taken-new : (log : List Told) (s : ℕ) → s < 32 → (parts_of (after_events nothing_joined log) s).bytes ≡ joined_bytes s log
bytes_taken-new log s h =
    bytes_taken nothing_joined log s (omega (arith, length-replicate {A = SpanParts} 32 no_parts))
    ∙ ap (λ (p : SpanParts). bytes_behind s p log) (get_or-replicate {A = SpanParts} 32 s no_parts no_parts h)
