-- Where the states of a match node lead, its node leads as well, from its first byte on.
use Rattle.std.proofs.Common.{subst, ◌≡◌, ℕ, zero, suc, ◌+◌, ◌≤◌, ◌<◌, List, [], ◌∷◌, ◌++◌, Option, Some, None, Bool, true, false, cond, refl, sym, ◌∙◌, ap, arith, length, map, inl, inr, length-append, append-nil}
use Rattle.std.specs.Prelude.{◌⊎◌, slice_get, unwrap_or}
use Rattle.std.proofs.lemmas.List.{length-map}
use Rattle.pp_bytes.specs.declared.fold.Fold.{Fold}
use Rattle.pp_bytes.specs.Fold.{folded}
use Rattle.pp_graph.specs.declared.node.Key.{Key}
use Rattle.pp_graph.specs.declared.node.Peek.{Peek}
use Rattle.pp_graph.specs.declared.node.Other.{Other}
use Rattle.pp_graph.specs.declared.node.Kind.{Kind}
use Rattle.pp_graph.specs.declared.node.Kind.TheVariants as kind
use Rattle.pp_graph.specs.declared.node.Node.{Node}
use Rattle.pp_graph.specs.Plan.{Plan}
use Rattle.pp_program.specs.declared.program.Edge.{Edge}
use Rattle.pp_program.specs.declared.program.Rest.{Rest}
use Rattle.pp_program.specs.declared.program.State.{State}
use Rattle.pp_event.specs.Run.{Config, Turn}
use Rattle.pp_event.specs.Turns.{to}
use Rattle.pp_event.specs.Loops.{LeadsTo, Leads, AreBytes}
use Rattle.pp_mean.specs.Nodes.{match_turn, peek_at, peek_turn, kind_turn, node_turn, graph_turn}
use Rattle.pp_program.specs.States.{state_turn, edge_on, edge_turn, rest_turn, program_turn}
use Rattle.pp_program.specs.Merge.{merged}
use Rattle.pp_program.proofs.MergeLaws.{merged-finds, bare-turn}
use Rattle.pp_lower.specs.Tree.{place_of, each_below}
use Rattle.pp_lower.specs.Lowered.{inner_of, key_of, edge_by, edge_at, peek_of, rest_by, branch_of, root_of, states_by, lowered}
use Rattle.pp_lower.specs.steps.Order.{Has}
use Rattle.pp_lower.proofs.Bond.{GoodKeys, GoodPeeks}
use Rattle.pp_lower.proofs.Keys.{has_contains, IsInner, NoneBegins}
use Rattle.pp_lower.proofs.MatchLaws.{turn_key, turn_last, turn_off}
use Rattle.pp_lower.proofs.TreeLaws.{KeyIs, key_is, PlaceIs, place_is, inner_there}
use Rattle.pp_lower.proofs.EdgeLaws.{OnOwn, find_edge, own_ascend}
use Rattle.pp_lower.proofs.WalkLaws.{own_by, peek_is, none_by}

-- each is a byte
abbrev pub AllBytes : List ℕ → Type 0
AllBytes [] = Unit {0}
AllBytes (b ∷ l) = (b < 256) × AllBytes l

pub are_bytes : (l : List ℕ) → AllBytes l → AreBytes l
are_bytes [] h i = omega arith
are_bytes (b ∷ l) h zero = h.0
are_bytes (b ∷ l) h (suc i) = are_bytes l h.1 i

pub bytes_last : (l : List ℕ) (b : ℕ) → AllBytes l → b < 256 → AllBytes (l ++ b ∷ [])
bytes_last [] b h low = (low, tt)
bytes_last (x ∷ l) b h low = (h.0, bytes_last l b h.1 low)

-- the first of some bytes and one more, and those behind it
abbrev pub first : List ℕ → ℕ → ℕ
first [] b = b
first (a ∷ w) b = a

abbrev pub behind : List ℕ → ℕ → List ℕ
behind [] b = []
behind (a ∷ w) b = w ++ b ∷ []

first_behind : (w : List ℕ) (b : ℕ) → first w b ∷ behind w b ≡ w ++ b ∷ []
first_behind [] b = refl
first_behind (a ∷ w) b = refl

bytes_behind : (w : List ℕ) (b : ℕ) → AllBytes w → b < 256 → AllBytes (behind w b)
bytes_behind [] b h low = tt
bytes_behind (a ∷ w) b h low = bytes_last w b h.1 low

pub map_last : (f : ℕ → ℕ) (w : List ℕ) (b : ℕ) → map f (w ++ b ∷ []) ≡ map f w ++ f b ∷ []
map_last f [] b = refl
map_last f (a ∷ w) b = ap (λ (l : List ℕ). f a ∷ l) (map_last f w b)

goes_to : (c : Config) (m k taken number : ℕ) → k ≡ taken → LeadsTo (to c m k number) taken m
goes_to c m k taken number e = (e, refl)

module _ (g : Plan) (i : ℕ) (n : Node) (fold : Fold) (keys : List Key) (peeks : List Peek) (other : Other) (there : slice_get g.nodes i ≡ Some n) (is : n.kind ≡ kind.Match fold keys peeks other)
    (good : GoodKeys keys) (small : GoodPeeks peeks) where
  abbrev roots : ℕ → ℕ
  roots = root_of g.nodes

  abbrev edge : List ℕ → ℕ → Option Edge
  edge p b = edge_at roots (roots i) keys peeks p b

  abbrev otherwise : List ℕ → Rest
  otherwise p = rest_by roots other (key_of keys p)

  -- the node's move leads so, from the first byte on
  abbrev pub ToRoot : List ℕ → ℕ → ℕ → ℕ → Type 0
  ToRoot w b taken next = (m : ℕ) × (roots m ≡ next) × Leads (graph_turn g) i (first w b) (length w + taken) m

  -- the state's move leads to that of a prefix that is longer by this byte
  abbrev pub ToInner : List ℕ → ℕ → ℕ → ℕ → Type 0
  ToInner p b taken next = (j : ℕ) × (taken ≡ 1) × (roots i + suc j ≡ next) × (slice_get (inner_of keys) j ≡ Some (p ++ folded fold b ∷ []))

  abbrev begin : Config
  begin = record { node = i; at = 0; carried = 0; values = []; spans = [] }

  own : (p : List ℕ) → OnOwn (edge p)
  own p b e h = own_by roots (roots i) b (place_of (p ++ b ∷ []) (inner_of keys)) (key_of keys (p ++ b ∷ [])) (peek_of peeks p b) e h

  none : (p : List ℕ) (b : ℕ) → 256 ≤ b → edge p b ≡ None
  none p b h =
      none_by roots (roots i) keys peeks p b good small h (place_of (p ++ b ∷ []) (inner_of keys)) (place_is (p ++ b ∷ []) (inner_of keys))
      (key_of keys (p ++ b ∷ [])) (key_is keys (p ++ b ∷ [])) (peek_of peeks p b) (peek_is peeks p b)

  -- the turn of the state of a prefix
  turn_at : (c : Config) (p bytes : List ℕ) (b : ℕ) (s : State) → slice_get (states_by g.nodes) c.node ≡ Some s → s.instr ≡ branch_of roots (roots i) fold keys peeks other p →
      program_turn (lowered g) c (b ∷ bytes) ≡ edge_turn c (otherwise p) (edge p (folded fold b))
  turn_at c p bytes b s at does =
      ap (λ (o : Option State). state_turn o c (b ∷ bytes)) (at ∙ ap (λ x. Some (record { origin = s.origin; instr = x })) does)
      ∙ bare-turn c (otherwise p) (edge_on (folded fold b) (merged (each_below (edge p) 256))) (edge_on (folded fold b) (each_below (edge p) 256))
      (merged-finds 0 (folded fold b) (each_below (edge p) 256) (own_ascend (edge p) (own p) 256))
      ∙ ap (edge_turn c (otherwise p)) (find_edge (edge p) (own p) (none p) (folded fold b))

  -- the node's move on the bytes that were walked and one more
  node_leads : (w p : List ℕ) (b m k taken number : ℕ) → map (folded fold) w ≡ p → AllBytes w → b < 256 →
      match_turn begin (w ++ b ∷ []) keys peeks other (p ++ folded fold b ∷ []) ≡ to begin m k number → k ≡ length w + taken → Leads (graph_turn g) i (first w b) (length w + taken) m
  node_leads w p b m k taken number raw bytes low turn long =
      let text : map (folded fold) (w ++ b ∷ []) ≡ p ++ folded fold b ∷ [] = map_last (folded fold) w b ∙ ap (λ (l : List ℕ). l ++ folded fold b ∷ []) raw in
      let is_to : graph_turn g begin (first w b ∷ behind w b) ≡ to begin m k number =
      ap (graph_turn g begin) (first_behind w b) ∙ ap (λ (o : Option Node). node_turn o begin (w ++ b ∷ [])) there ∙ ap (λ (x : Kind). kind_turn x begin (w ++ b ∷ [])) is
      ∙ ap (match_turn begin (w ++ b ∷ []) keys peeks other) text ∙ turn in
      (begin, behind w b, are_bytes (behind w b) (bytes_behind w b bytes low), refl, subst (λ (t : Turn). LeadsTo t (length w + taken) m) (sym is_to) (goes_to begin m k (length w + taken) number long))

  long_of : (w p : List ℕ) → map (folded fold) w ≡ p → length p ≡ length w
  long_of w p raw = sym (ap length raw) ∙ length-map w (folded fold)

  skipped : (v : Bool) (k n taken : ℕ) → k ≡ n → cond v 1 0 ≡ taken → cond v (k + 1) k ≡ n + taken
  skipped true k n taken e t = omega (arith, e, t)
  skipped false k n taken e t = omega (arith, e, t)

  off_is : (p : List ℕ) (b : ℕ) → (Has (inner_of keys) (p ++ b ∷ []) → ⊥) → ((l : Key) → Has keys l → l.bytes ≡ p ++ b ∷ [] → ⊥) → NoneBegins keys (p ++ b ∷ [])
  off_is p b place key l h z = by l h z.0 z.1
    where
      by : (l : Key) → Has keys l → (more : List ℕ) → l.bytes ≡ (p ++ b ∷ []) ++ more → ⊥
      by l h [] e = key l h (e ∙ append-nil (p ++ b ∷ []))
      by l h (y ∷ more) e = place (inner_there keys p b (l, h, y, more, e))

  -- by the rest of the root
  rest_root : (c : Config) (b taken next : ℕ) → b < 256 → NoneBegins keys (folded fold b ∷ []) → peek_at peeks (folded fold b ∷ []) ≡ None → (o : Option Key) → KeyIs keys [] o →
      LeadsTo (rest_turn c (rest_by roots other o)) taken next → ToRoot [] b taken next
  rest_root c b taken next low off peek (Some k) key leads = absurd (good.filled k (has_contains keys k key.0) key.1)
  rest_root c b taken next low off peek None key leads =
      let turn : match_turn begin (b ∷ []) keys peeks other (folded fold b ∷ []) ≡ to begin other.target (cond other.skip (0 + 1) 0) 0 =
      turn_off begin (b ∷ []) keys peeks other [] [] (folded fold b) good (inl refl) (λ l h z. good.filled l (has_contains keys l h) z) off ∙ ap (peek_turn begin other 0) peek in
      (other.target, leads.1, node_leads [] [] b other.target (cond other.skip (0 + 1) 0) taken 0 refl tt low turn (skipped other.skip 0 0 taken refl leads.0))

  -- by the rest of an inner state
  rest_inner : (c : Config) (w p : List ℕ) (x b taken next : ℕ) → map (folded fold) w ≡ x ∷ p → AllBytes w → b < 256 → IsInner keys (x ∷ p) → NoneBegins keys (x ∷ p ++ folded fold b ∷ []) → (o : Option Key) → KeyIs keys (x ∷ p) o →
      LeadsTo (rest_turn c (rest_by roots other o)) taken next → ToRoot w b taken next
  rest_inner c w p x b taken next raw bytes low inner off (Some k) key leads =
      let long : length (x ∷ p) ≡ length w = long_of w (x ∷ p) raw in
      let none_taken : 0 ≡ taken = leads.0 in (
        k.target,
        leads.1,
        node_leads w (x ∷ p) b k.target (length (x ∷ p)) taken (unwrap_or k.number 0) raw bytes low (turn_key begin (w ++ b ∷ []) keys peeks other (x ∷ p) [] (folded fold b) k good off key.0 key.1) (omega (arith, long, none_taken)),
      )
  rest_inner c w p x b taken next raw bytes low inner off None key leads =
      let long : suc (length p) ≡ length w = long_of w (x ∷ p) raw in (
        other.target,
        leads.1,
        node_leads w (x ∷ p) b other.target (cond other.skip (suc (length p) + 1) (suc (length p))) taken 0 raw bytes low
            (turn_off begin (w ++ b ∷ []) keys peeks other (x ∷ p) [] (folded fold b) good (inr inner) key off) (skipped other.skip (suc (length p)) (length w) taken long leads.0),
      )

  -- where no edge is there
  off_tree : (c : Config) (w p : List ℕ) (b taken next : ℕ) → map (folded fold) w ≡ p → AllBytes w → b < 256 → (p ≡ []) ⊎ IsInner keys p → NoneBegins keys (p ++ folded fold b ∷ []) →
      (q : Option Peek) → peek_of peeks p (folded fold b) ≡ q → LeadsTo (edge_turn c (otherwise p) (edge_by roots (roots i) (folded fold b) None None q)) taken next → ToRoot w b taken next
  off_tree c [] [] b taken next raw bytes low live off None peek leads = rest_root c b taken next low off peek (key_of keys []) (key_is keys []) leads
  off_tree c [] [] b taken next raw bytes low live off (Some q) peek leads =
      let turn : match_turn begin (b ∷ []) keys peeks other (folded fold b ∷ []) ≡ to begin q.target 0 0 =
      turn_off begin (b ∷ []) keys peeks other [] [] (folded fold b) good (inl refl) (λ l h z. good.filled l (has_contains keys l h) z) off ∙ ap (peek_turn begin other 0) peek in
      let none_taken : 0 ≡ taken = leads.0 in
      (q.target, leads.1, node_leads [] [] b q.target 0 taken 0 refl tt low turn (omega (arith, none_taken)))
  off_tree c (a ∷ w) [] b taken next raw bytes low live off q peek leads = absurd cc
  off_tree c w (x ∷ p) b taken next raw bytes low (inl e) off q peek leads = absurd cc
  off_tree c w (x ∷ p) b taken next raw bytes low (inr inner) off (Some q) peek leads = absurd cc
  off_tree c w (x ∷ p) b taken next raw bytes low (inr inner) off None peek leads = rest_inner c w p x b taken next raw bytes low inner off (key_of keys (x ∷ p)) (key_is keys (x ∷ p)) leads

  by_edge : (c : Config) (w p : List ℕ) (b taken next : ℕ) → map (folded fold) w ≡ p → AllBytes w → b < 256 → (p ≡ []) ⊎ IsInner keys p →
      (o : Option ℕ) → PlaceIs (p ++ folded fold b ∷ []) (inner_of keys) o → (k : Option Key) → KeyIs keys (p ++ folded fold b ∷ []) k →
      LeadsTo (edge_turn c (otherwise p) (edge_by roots (roots i) (folded fold b) o k (peek_of peeks p (folded fold b)))) taken next → ToRoot w b taken next ⊎ ToInner p b taken next
  by_edge c w p b taken next raw bytes low live (Some j) place k key leads = inr (j, sym leads.0, leads.1, place)
  by_edge c w p b taken next raw bytes low live None place (Some k) key leads =
      let long : length p ≡ length w = long_of w p raw in
      let one : 1 ≡ taken = leads.0 in
      let more : length (p ++ folded fold b ∷ []) ≡ length p + 1 = length-append p (folded fold b ∷ []) in
      inl (
        k.target,
        leads.1,
        node_leads w p b k.target (length (p ++ folded fold b ∷ [])) taken (unwrap_or k.number 0) raw bytes low
            (turn_last begin (w ++ b ∷ []) keys peeks other p [] (folded fold b) k good (λ h. place (inner_there keys p (folded fold b) h)) key.0 key.1) (omega (arith, long, one, more)),
      )
  by_edge c w p b taken next raw bytes low live None place None key leads =
      inl (off_tree c w p b taken next raw bytes low live (off_is p (folded fold b) place key) (peek_of peeks p (folded fold b)) refl leads)

  -- where a move of the state of a prefix leads
  pub match_leads : (c : Config) (w p rest : List ℕ) (b taken next : ℕ) (s : State) → slice_get (states_by g.nodes) c.node ≡ Some s → s.instr ≡ branch_of roots (roots i) fold keys peeks other p →
      map (folded fold) w ≡ p → AllBytes w → b < 256 → (p ≡ []) ⊎ IsInner keys p → LeadsTo (program_turn (lowered g) c (b ∷ rest)) taken next → ToRoot w b taken next ⊎ ToInner p b taken next
  match_leads c w p rest b taken next s at does raw bytes low live leads =
      by_edge c w p b taken next raw bytes low live (place_of (p ++ folded fold b ∷ []) (inner_of keys)) (place_is (p ++ folded fold b ∷ []) (inner_of keys))
      (key_of keys (p ++ folded fold b ∷ [])) (key_is keys (p ++ folded fold b ∷ []))
      (subst (λ (t : Turn). LeadsTo t taken next) (turn_at c p rest b s at does) leads)
