-- Each state of a lowered program keeps the rule on widths.
use Rattle.std.proofs.Common.{subst, ◌≡◌, ℕ, suc, ◌+◌, ◌≤◌, ◌<◌, List, [], ◌∷◌, ◌++◌, Option, Some, None, Bool, true, false, refl, sym, ◌∙◌, ap, arith, ltb, inl, inr, ◌||◌}
use Rattle.std.specs.Prelude.{nat_lt, slice_get}
use Rattle.std.specs.List.{list_any}
use Rattle.std.proofs.lemmas.Bool.{ltb-true}
use Rattle.pp_rules.specs.Widths.{greatest}
use Rattle.pp_bytes.specs.declared.fold.Fold.{Fold}
use Rattle.pp_graph.specs.declared.node.Key.{Key}
use Rattle.pp_graph.specs.declared.node.Peek.{Peek}
use Rattle.pp_graph.specs.declared.node.Other.{Other}
use Rattle.pp_graph.specs.declared.node.Code.{Code}
use Rattle.pp_graph.specs.declared.node.Code.TheVariants as code
use Rattle.pp_graph.specs.declared.node.Kind.{Kind}
use Rattle.pp_graph.specs.declared.node.Kind.TheVariants as kind
use Rattle.pp_graph.specs.Plan.{Plan, Leads, Holds, StoresIn, CodeFits, AreEdges, FitsIn, IsWellFormed}
use Rattle.pp_program.specs.declared.program.Edge.{Edge}
use Rattle.pp_program.specs.declared.program.Instr.{Instr}
use Rattle.pp_program.specs.declared.program.State.{State}
use Rattle.pp_program.specs.declared.program.Program.{Program}
use Rattle.pp_program.specs.Widths.{is_narrow, is_wide_code, is_narrow_instr, is_narrow_state, is_wide_number, is_wide_edge, is_wide_instr}
use Rattle.pp_program.specs.Merge.{merged}
use Rattle.pp_program.proofs.MergeLaws.{bare, HasEdge, merged-has}
use Rattle.pp_lower.specs.Tree.{each_below, place_of}
use Rattle.pp_lower.specs.Lowered.{inner_of, key_of, edge_by, edge_at, peek_of, rest_by, root_of, states_by, lowered}
use Rattle.pp_lower.proofs.TreeLaws.{KeyIs, key_is}
use Rattle.pp_lower.proofs.FormLaws.{has_get}
use Rattle.pp_lower.proofs.FromStates.{InstrIs, instr_is, FromNode, from_node, first_of, first_stands}
use Rattle.pp_lower.proofs.ValidTargets.{each_has}

not_less : (a b : ℕ) → b ≤ a → nat_lt a b ≡ false
not_less a b h = go (ltb a b) refl
  where
    go : (v : Bool) → ltb a b ≡ v → v ≡ false
    go true e = (let less : a < b = ltb-true a b e in absurd (omega (arith, h, less)))
    go false e = refl

none_pass : (test : Edge → Bool) (l : List Edge) → ((e : Edge) → HasEdge l e → test e ≡ false) → list_any test l ≡ false
none_pass test [] h = refl
none_pass test (x ∷ l) h = ap (λ (v : Bool). v || list_any test l) (h x (inl refl)) ∙ none_pass test l (λ e i. h e (inr i))

module _ (g : Plan) where
  abbrev roots : ℕ → ℕ
  roots = root_of g.nodes

  abbrev p : Program
  p = lowered g

  holds_wide : (prop value : ℕ) → Holds g prop value → is_narrow (slice_get g.props prop) value ≡ false
  holds_wide prop value (d, there, fits) = ap (λ o. is_narrow o value) there ∙ not_less (greatest d.width) value fits

  code_wide : (c : Code) → CodeFits g c → is_wide_code p c ≡ false
  code_wide (code.Call host) h = refl
  code_wide (code.Store prop) h = refl
  code_wide (code.Load prop) h = refl
  code_wide (code.Update prop value) h = holds_wide prop value h
  code_wide (code.Equal prop value) h = holds_wide prop value h
  code_wide (code.And prop value) h = holds_wide prop value h
  code_wide (code.Or prop value) h = holds_wide prop value h
  code_wide (code.Test prop value) h = holds_wide prop value h
  code_wide (code.MulAdd prop base most) h = holds_wide prop most h

  first_wide : (number root : ℕ) (k : Kind) → StoresIn g number k → is_narrow_instr p number (first_of roots root k) ≡ false
  first_wide number root (kind.Match fold keys peeks other) h = refl
  first_wide number root (kind.Invoke (code.Call host) answers other) h = refl
  first_wide number root (kind.Invoke (code.Store prop) answers other) h = holds_wide prop number h
  first_wide number root (kind.Invoke (code.Load prop) answers other) h = refl
  first_wide number root (kind.Invoke (code.Update prop value) answers other) h = refl
  first_wide number root (kind.Invoke (code.Equal prop value) answers other) h = refl
  first_wide number root (kind.Invoke (code.And prop value) answers other) h = refl
  first_wide number root (kind.Invoke (code.Or prop value) answers other) h = refl
  first_wide number root (kind.Invoke (code.Test prop value) answers other) h = refl
  first_wide number root (kind.Invoke (code.MulAdd prop base most) answers other) h = refl
  first_wide number root (kind.Consume prop next) h = refl
  first_wide number root (kind.SpanOpen span next) h = refl
  first_wide number root (kind.SpanClose span next) h = refl
  first_wide number root (kind.Pause code reason next) h = refl
  first_wide number root (kind.Fail code reason) h = refl

  number_wide : (number : Option ℕ) (target : ℕ) → Leads g number target → is_wide_number p number (roots target) ≡ false
  number_wide None target h = refl
  number_wide (Some number) target (n, there, value, stores) = ap (is_narrow_state p number) (first_stands g.nodes target n there) ∙ first_wide number (roots target) n.kind stores

  abbrev IsFitting : Edge → Type 0
  IsFitting e = is_wide_number p e.number e.target ≡ false

  edge_wide : (fold : Fold) (keys : List Key) (peeks : List Peek) → AreEdges g fold keys peeks →
      (root : ℕ) (text : List ℕ) (b : ℕ) (o : Option ℕ) (k : Option Key) → KeyIs keys text k → (q : Option Peek) (y : Edge) → edge_by roots root b o k q ≡ Some y → IsFitting y
  edge_wide fold keys peeks fits root text b (Some j) k key q y h =
      let x : Edge = record { lo = b; hi = b; take = true; number = None; target = root + suc j } in
      let same : x ≡ y = cc in
      subst IsFitting same refl
  edge_wide fold keys peeks fits root text b None (Some k) key q y h =
      let x : Edge = record { lo = b; hi = b; take = true; number = k.number; target = roots k.target } in
      let same : x ≡ y = cc in
      let at : (j : ℕ) × (slice_get keys j ≡ Some k) = has_get keys k key.0 in
      subst IsFitting same (number_wide k.number k.target (fits.each_key at.0 k at.1).leads)
  edge_wide fold keys peeks fits root text b None None key (Some q) y h =
      let x : Edge = record { lo = b; hi = b; take = false; number = None; target = roots q.target } in
      let same : x ≡ y = cc in
      subst IsFitting same refl
  edge_wide fold keys peeks fits root text b None None key None y h = absurd cc

  edges_wide : (fold : Fold) (keys : List Key) (peeks : List Peek) → AreEdges g fold keys peeks → (root : ℕ) (prefix : List ℕ) →
      list_any (is_wide_edge p) (merged (each_below (edge_at roots root keys peeks prefix) 256)) ≡ false
  edges_wide fold keys peeks fits root prefix = none_pass (is_wide_edge p) (merged (each_below (edge_at roots root keys peeks prefix) 256)) each
    where
      each : (y : Edge) → HasEdge (merged (each_below (edge_at roots root keys peeks prefix) 256)) y → IsFitting y
      each y h =
          let from : (z : Edge) × HasEdge (each_below (edge_at roots root keys peeks prefix) 256) z × (bare y ≡ bare z) = merged-has (each_below (edge_at roots root keys peeks prefix) 256) y h in
          let at : (b : ℕ) × (edge_at roots root keys peeks prefix b ≡ Some from.0) = each_has (edge_at roots root keys peeks prefix) 256 from.0 from.1 in
          subst IsFitting (sym from.2)
          (edge_wide fold keys peeks fits root (prefix ++ at.0 ∷ []) at.0 (place_of (prefix ++ at.0 ∷ []) (inner_of keys))
          (key_of keys (prefix ++ at.0 ∷ [])) (key_is keys (prefix ++ at.0 ∷ [])) (peek_of peeks prefix at.0) from.0 at.1)

  rest_wide : (fold : Fold) (keys : List Key) (peeks : List Peek) (other : Other) → AreEdges g fold keys peeks → (prefix : List ℕ) (o : Option Key) → KeyIs keys prefix o →
      is_wide_number p (rest_by roots other o).number (rest_by roots other o).target ≡ false
  rest_wide fold keys peeks other fits prefix None key = refl
  rest_wide fold keys peeks other fits prefix (Some k) key =
      let at : (j : ℕ) × (slice_get keys j ≡ Some k) = has_get keys k key.0 in
      number_wide k.number k.target (fits.each_key at.0 k at.1).leads

  instr_wide : (root : ℕ) (k : Kind) → FitsIn g k → (j : ℕ) (x : Instr) → InstrIs roots root k j x → is_wide_instr p x ≡ false
  instr_wide root (kind.Match fold keys peeks other) fits j x (prefix, at, same) =
      subst (λ (y : Instr). is_wide_instr p y ≡ false) same
      (ap (λ (v : Bool). v || is_wide_number p (rest_by roots other (key_of keys prefix)).number (rest_by roots other (key_of keys prefix)).target) (edges_wide fold keys peeks fits.0 root prefix)
      ∙ rest_wide fold keys peeks other fits.0 prefix (key_of keys prefix) (key_is keys prefix))
  instr_wide root (kind.Invoke what answers other) fits j x (at, same) = subst (λ (y : Instr). is_wide_instr p y ≡ false) same (code_wide what fits.0)
  instr_wide root (kind.Consume prop next) fits j x (at, same) = subst (λ (y : Instr). is_wide_instr p y ≡ false) same refl
  instr_wide root (kind.SpanOpen span next) fits j x (at, same) = subst (λ (y : Instr). is_wide_instr p y ≡ false) same refl
  instr_wide root (kind.SpanClose span next) fits j x (at, same) = subst (λ (y : Instr). is_wide_instr p y ≡ false) same refl
  instr_wide root (kind.Pause number reason next) fits j x (at, same) = subst (λ (y : Instr). is_wide_instr p y ≡ false) same refl
  instr_wide root (kind.Fail number reason) fits j x (at, same) = subst (λ (y : Instr). is_wide_instr p y ≡ false) same refl

-- no state has a value that is too wide
pub state_wide : (g : Plan) → IsWellFormed g → (t : ℕ) (s : State) → slice_get (states_by g.nodes) t ≡ Some s → is_wide_instr (lowered g) s.instr ≡ false
state_wide g form t s e =
    let from : FromNode g.nodes t s = from_node g.nodes t s e in
    instr_wide g (root_of g.nodes from.place) from.node.kind (form.kinds from.place from.node from.there) from.step s.instr
    (instr_is (root_of g.nodes) from.place (root_of g.nodes from.place) from.node.kind from.step s from.listed).1
