-- The names and reasons of a lowered program are those of the graph.
use Rattle.std.proofs.Common.{subst, ◌≡◌, ℕ, suc, ◌<◌, List, [], ◌∷◌, ◌++◌, Some, Bool, true, false, refl, sym, ◌∙◌, ap, map, take, inl, inr, ◌||◌}
use Rattle.std.specs.Prelude.{◌⊎◌, not, slice_get, bytes_eq}
use Rattle.std.specs.List.{list_any}
use Rattle.std.proofs.lemmas.Bool.{false≢true}
use Rattle.std.proofs.lemmas.Option.{slice_get_within, get_or_from_slice_get}
use Rattle.pp_rules.specs.Names.{is_name, IsName, is_reason, IsReason}
use Rattle.pp_rules.specs.declared.declaration.PropDecl.{PropDecl}
use Rattle.pp_rules.specs.declared.declaration.HostDecl.{HostDecl}
use Rattle.pp_rules.specs.declared.declaration.SpanDecl.{SpanDecl}
use Rattle.pp_graph.specs.declared.node.Kind.{Kind}
use Rattle.pp_graph.specs.declared.node.Kind.TheVariants as kind
use Rattle.pp_graph.specs.declared.node.Node.{Node}
use Rattle.pp_graph.specs.Plan.{Plan, EachIs, AreDistinct, FitsIn, IsWellFormed}
use Rattle.pp_program.specs.declared.program.Instr.{Instr}
use Rattle.pp_program.specs.declared.program.State.{State}
use Rattle.pp_program.specs.Names.{NameFails, reason_of, reasons_of, ReasonFails, TextFails}
use Rattle.pp_lower.specs.Lowered.{root_of, states_by, lowered}
use Rattle.pp_lower.specs.steps.Order.{Has}
use Rattle.pp_lower.proofs.TreeLaws.{same_is, get_has}
use Rattle.pp_lower.proofs.FormLaws.{has_get, any_has}
use Rattle.pp_lower.proofs.OrderLaws.{take_get, map_get}
use Rattle.pp_lower.proofs.FromStates.{InstrIs, instr_is, FromNode, from_node}

or_true : (a b : Bool) → (a || b) ≡ true → (a ≡ true) ⊎ (b ≡ true)
or_true true b h = inl refl
or_true false b h = inr h

not_true : (a : Bool) → not a ≡ true → a ≡ true → ⊥
not_true a h e = false≢true (sym (ap not e) ∙ h)

-- names that differ and have their form are right
names_right : (names : List (List ℕ)) → AreDistinct names → ((i : ℕ) (x : List ℕ) → slice_get names i ≡ Some x → IsName x) → (i : ℕ) → NameFails names i → ⊥
names_right names apart named i (name, there, wrong) = go (or_true (not (is_name name)) (list_any (λ other. bytes_eq other name) (take i names)) wrong)
  where
    go : (not (is_name name) ≡ true) ⊎ (list_any (λ other. bytes_eq other name) (take i names) ≡ true) → ⊥
    go (inl h) = not_true (is_name name) h (named i name there)
    go (inr h) =
        let other : (x : List ℕ) × Has (take i names) x × (bytes_eq x name ≡ true) = any_has (λ x. bytes_eq x name) (take i names) h in
        let place : (j : ℕ) × (slice_get (take i names) j ≡ Some other.0) = has_get (take i names) other.0 other.1 in
        let before : (place.0 < i) × (slice_get names place.0 ≡ Some other.0) = take_get names i place.0 other.0 place.1 in
        apart place.0 i [] before.0 (slice_get_within names i name there)
        (get_or_from_slice_get names place.0 other.0 [] before.1 ∙ same_is other.0 name other.2 ∙ sym (get_or_from_slice_get names i name [] there))

names_right_of : {X : Type 0} (f : X → List ℕ) (xs : List X) → AreDistinct (map f xs) → EachIs (λ x. IsName (f x)) xs → (i : ℕ) → NameFails (map f xs) i → ⊥
names_right_of f xs apart named = names_right (map f xs) apart each
  where
    each : (i : ℕ) (x : List ℕ) → slice_get (map f xs) i ≡ Some x → IsName x
    each i x e =
        let r : (y : _) × (slice_get xs i ≡ Some y) × (f y ≡ x) = map_get f xs i x e in
        subst IsName r.2 (named i r.0 r.1)

has_append : (l r : List (List ℕ)) (x : List ℕ) → Has (l ++ r) x → Has l x ⊎ Has r x
has_append [] r x h = inr h
has_append (y ∷ l) r x (inl e) = inl (inl e)
has_append (y ∷ l) r x (inr h) = go (has_append l r x h)
  where
    go : Has l x ⊎ Has r x → Has (y ∷ l) x ⊎ Has r x
    go (inl i) = inl (inr i)
    go (inr i) = inr i

reasons_right : (states : List State) → ((t : ℕ) (s : State) (x : List ℕ) → slice_get states t ≡ Some s → Has (reason_of s.instr) x → is_reason x ≡ true) → (x : List ℕ) → Has (reasons_of states) x → is_reason x ≡ true
reasons_right [] each x h = absurd h
reasons_right (s ∷ states) each x h = go (has_append (reason_of s.instr) (reasons_of states) x h) (reasons_right states (λ t. each (suc t)) x)
  where
    go : Has (reason_of s.instr) x ⊎ Has (reasons_of states) x → (Has (reasons_of states) x → is_reason x ≡ true) → is_reason x ≡ true
    go (inl i) later = each 0 s x refl i
    go (inr i) later = later i

instr_reason : (g : Plan) (roots : ℕ → ℕ) (root : ℕ) (k : Kind) → FitsIn g k → (j : ℕ) (i : Instr) → InstrIs roots root k j i → (x : List ℕ) → Has (reason_of i) x → is_reason x ≡ true
instr_reason g roots root (kind.Match fold keys peeks other) fits j i (prefix, at, same) x h = absurd (subst (λ (y : Instr). Has (reason_of y) x) (sym same) h)
instr_reason g roots root (kind.Invoke what answers other) fits j i (at, same) x h = absurd (subst (λ (y : Instr). Has (reason_of y) x) (sym same) h)
instr_reason g roots root (kind.Consume prop next) fits j i (at, same) x h = absurd (subst (λ (y : Instr). Has (reason_of y) x) (sym same) h)
instr_reason g roots root (kind.SpanOpen span next) fits j i (at, same) x h = absurd (subst (λ (y : Instr). Has (reason_of y) x) (sym same) h)
instr_reason g roots root (kind.SpanClose span next) fits j i (at, same) x h = absurd (subst (λ (y : Instr). Has (reason_of y) x) (sym same) h)
instr_reason g roots root (kind.Pause number reason next) fits j i (at, same) x h = one (subst (λ (y : Instr). Has (reason_of y) x) (sym same) h)
  where
    one : (reason ≡ x) ⊎ ⊥ → is_reason x ≡ true
    one (inl e) = subst IsReason e fits.0
    one (inr e) = absurd e
instr_reason g roots root (kind.Fail number reason) fits j i (at, same) x h = one (subst (λ (y : Instr). Has (reason_of y) x) (sym same) h)
  where
    one : (reason ≡ x) ⊎ ⊥ → is_reason x ≡ true
    one (inl e) = subst IsReason e fits
    one (inr e) = absurd e

reasons_pass : (g : Plan) → IsWellFormed g → (i : ℕ) → ReasonFails (reasons_of (states_by g.nodes)) i → ⊥
reasons_pass g form i (reason, there, wrong) = false≢true (sym wrong ∙ reasons_right (states_by g.nodes) each reason (get_has (reasons_of (states_by g.nodes)) i reason there))
  where
    each : (t : ℕ) (s : State) (x : List ℕ) → slice_get (states_by g.nodes) t ≡ Some s → Has (reason_of s.instr) x → is_reason x ≡ true
    each t s x e h =
        let from : FromNode g.nodes t s = from_node g.nodes t s e in
        instr_reason g (root_of g.nodes) (root_of g.nodes from.place) from.node.kind (form.kinds from.place from.node from.there) from.step s.instr
        (instr_is (root_of g.nodes) from.place (root_of g.nodes from.place) from.node.kind from.step s from.listed).1 x h

-- no name and no reason is wrong
pub texts_right : (g : Plan) → IsWellFormed g → (place : ℕ) → TextFails (lowered g) place → ⊥
texts_right g form place (inl h) = names_right_of (λ (d : PropDecl). d.name) g.props form.prop_names form.props_named h.0 h.2
texts_right g form place (inr (inl h)) = names_right_of (λ (d : HostDecl). d.name) g.hosts form.host_names form.hosts_named h.0 h.2
texts_right g form place (inr (inr (inl h))) = names_right_of (λ (d : SpanDecl). d.name) g.spans form.span_names form.spans_named h.0 h.2
texts_right g form place (inr (inr (inr (inl h)))) = names_right_of (λ (n : Node). n.name) g.nodes form.node_names form.nodes_named h.0 h.2
texts_right g form place (inr (inr (inr (inr h)))) = reasons_pass g form h.0 h.2
