-- The edges of one node as the graph has them: each leads to a node, and together they are in order.
use Rattle.std.proofs.Common.{◌≡◌, ℕ, ◌<◌, List, [], ◌∷◌, Bool, true, false, not, length, filter_map, Option, Some, IfSome, unwrap_or, refl, ap, sym, ◌∙◌, arith}
use Rattle.std.specs.Prelude.{None as none}
use Rattle.std.specs.List.{list_any}
use Rattle.std.proofs.lemmas.Bool.{false≢true}
use Rattle.pp_bytes.specs.declared.fold.Fold.{Fold}
use Rattle.pp_bytes.specs.declared.fold.Fold.TheVariants.{Lower}
use Rattle.pp_graph.specs.declared.node.Answer.{Answer}
use Rattle.pp_graph.specs.declared.node.Other.{Other}
use Rattle.pp_rules.specs.declared.call.NamedKind.TheVariants as kind
use Rattle.pp_rules.specs.declared.call.NamedEdge.{NamedEdge}
use Rattle.pp_rules.specs.declared.call.NamedEdge.TheVariants as edge
use Rattle.pp_rules.specs.declared.call.BuilderCall.{BuilderCall}
use Rattle.pp_rules.specs.declared.call.BuilderCall.TheVariants as call
use Rattle.pp_rules.specs.declared.call.Sort.TheVariants as sort
use Rattle.pp_rules.specs.Keys.{is_upper_case}
use Rattle.pp_graph.specs.Plan.{Leads, IsKey, IsPeek, AreEdges, AreAnswers}
use Rattle.pp_rules.specs.Calls.{is_declared, names_of}
use Rattle.pp_rules.specs.Declarations.{Tables, tables_of}
use Rattle.pp_graph.specs.Built.{built, place_of, key_edge, peek_edge, answer_edge, other_edge, first_of, other_in}
use Rattle.pp_rules.specs.Rules.Form.{lower_kind, is_empty_key}
use Rattle.pp_rules.specs.Rules.Otherwise.{is_otherwise}
use Rattle.pp_rules.specs.Rules.Numbers.{is_value_fault, is_too_wide, is_value_node}
use Rattle.pp_rules.specs.Rules.Names.{names_unknown}
use Rattle.pp_graph.proofs.TableLemmas.{Each, each-at}
use Rattle.pp_rules.proofs.ListLemmas.{passes_some, any-filter_map, or_false_left}
use Rattle.pp_graph.proofs.EachLemmas.{each-filter_map, and_false_right, true_from_not}
use Rattle.pp_graph.proofs.SoundLemmas.{AreSound}
use Rattle.pp_graph.proofs.ValueLemmas.{leads-none, leads-some}
use Rattle.pp_graph.proofs.EdgeSoundLemmas.{IsOwn, AreOwn, own-each, keys-distinct, keys-gapless, keys-few, peeks-distinct, keys-apart, answers-distinct}

-- the target of an edge is declared
target-declared : (all : List BuilderCall) (when : NamedEdge) (target : List ℕ) → names_unknown all (call.Edge when target) ≡ false → is_declared all (sort.Node, target) ≡ true
target-declared all when target h = true_from_not (is_declared all (sort.Node, target)) (or_false_left _ _ h)

-- a key leads where it may
key-leads : (all : List BuilderCall) (bytes : List ℕ) (number : Option ℕ) (target : List ℕ) → AreSound all [] all → names_unknown all (call.Edge (edge.Key bytes number) target) ≡ false → is_value_fault all (call.Edge (edge.Key bytes number) target) ≡ false → is_too_wide all (call.Edge (edge.Key bytes number) target) ≡ false → Leads (built all) number (place_of (names_of sort.Node all) target)
key-leads all bytes none target s known valued wide =
    leads-none all target s (target-declared all (edge.Key bytes none) target known) (or_false_left _ _ valued)
key-leads all bytes (Some number) target s known valued wide =
    leads-some all target number s (target-declared all (edge.Key bytes (Some number)) target known) (true_from_not (is_value_node all target) valued) wide

some-byte : (bytes : List ℕ) (number : Option ℕ) → is_empty_key (Some (edge.Key bytes number)) ≡ false → 0 < length bytes
some-byte [] number h = absurd (false≢true (sym h))
some-byte (b ∷ bytes) number h = omega arith

lower-fold : (fold : Fold) → fold ≡ Lower → lower_kind (kind.Match fold) ≡ true
lower-fold fold e = ap (λ f. lower_kind (kind.Match f)) e

key-fits : (all own : List BuilderCall) (fold : Fold) (seen : List BuilderCall) (c : BuilderCall) → AreSound all [] all → IsOwn all own (lower_kind (kind.Match fold)) seen c → IfSome (key_edge (tables_of all) c) (IsKey (built all) fold)
key-fits all own fold seen (call.Edge (edge.Key bytes number) target) s p = record {
  leads = key-leads all bytes number target s p.known p.valued p.wide;
  some = some-byte bytes number p.filled;
  short = p.short;
  folded = λ e. and_false_right (lower_kind (kind.Match fold)) (list_any is_upper_case bytes) (lower-fold fold e) p.folded;
}
key-fits all own fold seen c s p = tt

peek-fits : (all own : List BuilderCall) (fold : Fold) (seen : List BuilderCall) (c : BuilderCall) → AreSound all [] all → IsOwn all own (lower_kind (kind.Match fold)) seen c → IfSome (peek_edge (tables_of all) c) (IsPeek (built all) fold)
peek-fits all own fold seen (call.Edge (edge.Peek byte) target) s p = record {
  leads = leads-none all target s (target-declared all (edge.Peek byte) target p.known) (or_false_left _ _ p.valued);
  folded = λ e. and_false_right (lower_kind (kind.Match fold)) (is_upper_case byte) (lower-fold fold e) p.folded;
}
peek-fits all own fold seen c s p = tt

answer-fits : (all own : List BuilderCall) (lower : Bool) (seen : List BuilderCall) (c : BuilderCall) → AreSound all [] all → IsOwn all own lower seen c → IfSome (answer_edge (tables_of all) c) (λ (a : Answer). Leads (built all) none a.target)
answer-fits all own lower seen (call.Edge (edge.Answer number) target) s p =
    leads-none all target s (target-declared all (edge.Answer number) target p.known) (or_false_left _ _ p.valued)
answer-fits all own lower seen c s p = tt

other-fits : (all own : List BuilderCall) (lower : Bool) (seen : List BuilderCall) (c : BuilderCall) → AreSound all [] all → IsOwn all own lower seen c → IfSome (other_edge (tables_of all) c) (λ (o : Other). Leads (built all) none o.target)
other-fits all own lower seen (call.Edge (edge.Otherwise skip) target) s p =
    leads-none all target s (target-declared all (edge.Otherwise skip) target p.known) (or_false_left _ _ p.valued)
other-fits all own lower seen c s p = tt

-- what each call that belongs to a node gives, of one sort of edge
edges-fit : {Y : Type 0} (f : BuilderCall → Option Y) (Q : Y → Type 0) (all own : List BuilderCall) (lower : Bool) → ((seen : List BuilderCall) (c : BuilderCall) → IsOwn all own lower seen c → IfSome (f c) Q) → AreOwn all own lower [] own → Each Q (filter_map f own)
edges-fit f Q all own lower h s =
    each-filter_map f (λ c. IfSome (f c) Q) Q own (λ c p. p) (own-each (λ c. IfSome (f c) Q) all own lower [] own h s)

pub edges-of_match : (all own : List BuilderCall) (fold : Fold) → AreSound all [] all → AreOwn all own (lower_kind (kind.Match fold)) [] own → AreEdges (built all) fold (filter_map (key_edge (tables_of all)) own) (filter_map (peek_edge (tables_of all)) own)
edges-of_match all own fold s p =
    let t = tables_of all in
    let lower = lower_kind (kind.Match fold) in
    let keys = filter_map (key_edge t) own in
    let peeks = filter_map (peek_edge t) own in
    let key = edges-fit (key_edge t) (IsKey (built all) fold) all own lower (λ seen c h. key-fits all own fold seen c s h) p in
    let peek = edges-fit (peek_edge t) (IsPeek (built all) fold) all own lower (λ seen c h. peek-fits all own fold seen c s h) p in
    record {
      each_key = each-at (IsKey (built all) fold) keys key;
      distinct_keys = keys-distinct t all own lower p;
      no_gap = keys-gapless t all own lower p;
      few = keys-few t all own lower p;
      each_peek = each-at (IsPeek (built all) fold) peeks peek;
      distinct_peeks = peeks-distinct t all own lower p;
      apart = keys-apart t all own lower p;
    }

pub answers-of_invoke : (all own : List BuilderCall) (lower : Bool) → AreSound all [] all → AreOwn all own lower [] own → AreAnswers (built all) (filter_map (answer_edge (tables_of all)) own)
answers-of_invoke all own lower s p =
    let t = tables_of all in
    let each = edges-fit (answer_edge t) (λ (a : Answer). Leads (built all) none a.target) all own lower (λ seen c h. answer-fits all own lower seen c s h) p in
    record {
      leads = each-at (λ (a : Answer). Leads (built all) none a.target) (filter_map (answer_edge t) own) each;
      distinct = answers-distinct t all own lower p;
    }

-- the first of some that are there
pub first-is : {X : Type 0} (P : X → Type 0) (xs : List X) (d : X) → Each P xs → list_any (λ x. true) xs ≡ true → P (unwrap_or (first_of xs) d)
first-is P [] d s h = absurd (false≢true h)
first-is P (x ∷ xs) d s h = s.0

other-there : (t : Tables) (c : BuilderCall) → is_otherwise c ≡ passes_some (λ o. true) (other_edge t c)
other-there t (call.Edge (edge.Otherwise skip) target) = refl
other-there t c = refl

pub other-leads : (all own : List BuilderCall) (lower : Bool) → AreSound all [] all → AreOwn all own lower [] own → not (list_any is_otherwise own) ≡ false → Leads (built all) none (other_in (tables_of all) own).target
other-leads all own lower s p h =
    let t = tables_of all in
    let others = filter_map (other_edge t) own in
    let each = edges-fit (other_edge t) (λ (o : Other). Leads (built all) none o.target) all own lower (λ seen c q. other-fits all own lower seen c s q) p in
    let some : list_any (λ o. true) others ≡ true = sym (any-filter_map (other_edge t) (λ o. true) is_otherwise own (other-there t)) ∙ true_from_not (list_any is_otherwise own) h in
    first-is (λ (o : Other). Leads (built all) none o.target) others (record { skip = false; target = 0 }) each some
