-- The walk through the states of one match node.
use Rattle.std.proofs.Common.{subst, ◌≡◌, ℕ, suc, ◌+◌, ◌≤◌, List, [], ◌∷◌, ◌++◌, Option, Some, None, Bool, true, false, cond, refl, sym, ◌∙◌, ap, arith, length, drop, map, inl, inr, length-append, append_assoc, append-nil, add-zero}
use Rattle.std.specs.Prelude.{◌⊎◌, ◌==◌, slice_get, option_map, find, unwrap_or}
use Rattle.std.proofs.Math.Seq.{drop-append-add}
use Rattle.pp_bytes.specs.declared.fold.Fold.{Fold}
use Rattle.pp_graph.specs.declared.node.Key.{Key}
use Rattle.pp_graph.specs.declared.node.Peek.{Peek}
use Rattle.pp_graph.specs.declared.node.Other.{Other}
use Rattle.pp_graph.specs.declared.node.Node.{Node}
use Rattle.pp_program.specs.declared.program.Edge.{Edge}
use Rattle.pp_program.specs.declared.program.Rest.{Rest}
use Rattle.pp_program.specs.declared.program.State.{State}
use Rattle.pp_event.specs.Run.{Config, Turn, Goes, Rests}
use Rattle.pp_bytes.specs.Fold.{folded}
use Rattle.pp_event.specs.Turns.{to}
use Rattle.pp_event.specs.Simulates.{Way, here, step, Bond}
use Rattle.pp_mean.specs.Nodes.{match_turn, peek_turn, other_turn, rests_at}
use Rattle.pp_program.specs.States.{state_turn, edge_on, edge_turn, rest_turn, is_empty_branch}
use Rattle.pp_program.specs.Merge.{merged}
use Rattle.pp_program.proofs.MergeLaws.{merged-finds, merged-empty, bare-turn}
use Rattle.pp_lower.specs.Tree.{place_of, each_below}
use Rattle.pp_lower.specs.Lowered.{inner_of, key_of, edge_by, edge_at, peek_of, rest_by, branch_of}
use Rattle.pp_lower.specs.Kept.{node_reason, state_reason}
use Rattle.pp_lower.proofs.Bond.{GoodKeys, GoodPeeks, lowering}
use Rattle.pp_lower.specs.steps.Order.{Has}
use Rattle.pp_lower.proofs.Keys.{has_contains, IsInner, NoneBegins}
use Rattle.pp_lower.proofs.MatchLaws.{turn_inside, turn_key, turn_last, turn_off}
use Rattle.pp_lower.proofs.TreeLaws.{KeyIs, key_is, PlaceIs, place_is, get_has, inner_only, inner_there}
use Rattle.pp_lower.proofs.EdgeLaws.{OnOwn, find_edge, some_edges, own_ascend}
use Rattle.pp_lower.proofs.WalkLaws.{turn_in, Walks, walks_step, own_by, peek_is, none_by, some_by, some_peek, no_edges, full_branch, skip_branch, empty_branch, key_or_none, peek_or_none, end_peeks, end_skip, end_plain}

-- the state of a prefix
abbrev pub state_at : (ℕ → ℕ) → ℕ → ℕ → Fold → List Key → List Peek → Other → List ℕ → State
state_at roots root origin fold keys peeks other p = record { origin = origin; instr = branch_of roots root fold keys peeks other p }

-- the program stands at the state of the prefix p, behind the bytes that it walked; c is where the graph's move began
pub record Standing (states : List State) (state : List ℕ → State) (fold : Fold) (keys : List Key) (c : Config) (rest p behind whole text : List ℕ) (d : Config) : Type 0 where
  pub there : slice_get states d.node ≡ Some (state p)
  pub live : (p ≡ []) ⊎ IsInner keys p
  pub long : length behind ≡ length p
  pub whole_is : whole ≡ behind ++ rest
  pub text_is : text ≡ p ++ map (folded fold) rest
  pub at : d.at ≡ c.at + length p
  pub values : d.values ≡ c.values
  pub spans : d.spans ≡ c.spans

abbrev config : ℕ → ℕ → ℕ → List ℕ → List (Option ℕ) → Config
config node at carried values spans = record { node = node; at = at; carried = carried; values = values; spans = spans }

config_is : (node at carried a : ℕ) (values v : List ℕ) (spans s : List (Option ℕ)) → at ≡ a → values ≡ v → spans ≡ s →
    config node at carried values spans ≡ config node a carried v s
config_is node at carried a values v spans s p q r =
    ap (λ (x : ℕ). config node x carried values spans) p
    ∙ ap (λ (x : List ℕ). config node a carried x spans) q
    ∙ ap (config node a carried v) r

module _ (nodes : List Node) (roots : ℕ → ℕ) (states : List State) (fold : Fold) (keys : List Key) (peeks : List Peek) (other : Other) (c : Config) (root : ℕ)
    (node_is : option_map (λ (n : Node). c.node) (slice_get nodes c.node) ≡ Some c.node) (silent : node_reason (slice_get nodes c.node) ≡ None) (good : GoodKeys keys) (small : GoodPeeks peeks)
    (inner_state : (i : ℕ) (p : List ℕ) → slice_get (inner_of keys) i ≡ Some p → slice_get states (root + suc i) ≡ Some (state_at roots root c.node fold keys peeks other p)) where
  abbrev bond : Bond
  bond = lowering nodes roots states

  abbrev state : List ℕ → State
  state p = state_at roots root c.node fold keys peeks other p

  abbrev edge : List ℕ → ℕ → Option Edge
  edge p b = edge_at roots root keys peeks p b

  abbrev otherwise : List ℕ → Rest
  otherwise p = rest_by roots other (key_of keys p)

  abbrev Stands : (rest p behind whole text : List ℕ) (d : Config) → Type 0
  Stands rest p behind whole text d = Standing states state fold keys c rest p behind whole text d

  abbrev Comes_there : List ℕ → List ℕ → Config → Turn → Type 0
  Comes_there rest whole d t = Walks bond (turn_in states) d whole rest t

  own : (p : List ℕ) → OnOwn (edge p)
  own p b e h = own_by roots root b (place_of (p ++ b ∷ []) (inner_of keys)) (key_of keys (p ++ b ∷ [])) (peek_of peeks p b) e h

  none : (p : List ℕ) (b : ℕ) → 256 ≤ b → edge p b ≡ None
  none p b h =
      none_by roots root keys peeks p b good small h (place_of (p ++ b ∷ []) (inner_of keys)) (place_is (p ++ b ∷ []) (inner_of keys))
      (key_of keys (p ++ b ∷ [])) (key_is keys (p ++ b ∷ [])) (peek_of peeks p b) (peek_is peeks p b)

  -- the turn where a byte comes next
  turn_at : (d : Config) (p rest : List ℕ) (b : ℕ) → slice_get states d.node ≡ Some (state p) → (o : Option Edge) → edge p (folded fold b) ≡ o →
      turn_in states d (b ∷ rest) ≡ edge_turn d (otherwise p) o
  turn_at d p rest b there o e =
      ap (λ (s : Option State). state_turn s d (b ∷ rest)) there
      ∙ bare-turn d (otherwise p) (edge_on (folded fold b) (merged (each_below (edge p) 256))) (edge_on (folded fold b) (each_below (edge p) 256))
      (merged-finds 0 (folded fold b) (each_below (edge p) 256) (own_ascend (edge p) (own p) 256))
      ∙ ap (edge_turn d (otherwise p)) (find_edge (edge p) (own p) (none p) (folded fold b) ∙ e)

  -- the turn at the end of the bytes
  turn_end : (d : Config) (p : List ℕ) → slice_get states d.node ≡ Some (state p) → (v : Bool) → is_empty_branch [] (each_below (edge p) 256) (otherwise p) ≡ v →
      turn_in states d [] ≡ cond v (rest_turn d (otherwise p)) (Rests (record d { carried = 0 }))
  turn_end d p there v e =
      ap (λ (s : Option State). state_turn s d []) there
      ∙ ap (λ (w : Bool). cond w (rest_turn d (otherwise p)) (Rests (record d { carried = 0 }))) (merged-empty (each_below (edge p) 256) (otherwise p) ∙ e)

  -- both wait
  both_rest : (p behind whole text : List ℕ) (d : Config) → Stands [] p behind whole text d → is_empty_branch [] (each_below (edge p) 256) (otherwise p) ≡ false →
      Comes_there [] whole d (Rests (rests_at c whole))
  both_rest p behind whole text d s e =
      let same : length whole ≡ length behind = ap length (s.whole_is ∙ append-nil behind) in
      let here_at : c.at + length whole ≡ d.at = omega (arith, same, s.long, s.at) in (
        d,
        [],
        record d { carried = 0 },
        record { way = here; turn_is = turn_end d p s.there false e },
        (
          record { at = here_at; values = sym s.values; spans = sym s.spans },
          record { origin = ap (option_map (λ (x : State). x.origin)) s.there ∙ sym node_is; reason = silent ∙ sym (ap state_reason s.there) },
        ),
      )

  -- the program's turn takes an edge to a root, as the graph's does
  arrives : (rest p behind whole text : List ℕ) (d : Config) → Stands rest p behind whole text d → (node k number m : ℕ) →
      turn_in states d rest ≡ to d (roots node) k number → m ≡ length p + k → Comes_there rest whole d (to c node m number)
  arrives rest p behind whole text d s node k number m turn long =
      let e : Config = record { node = roots node; at = d.at + k; carried = number; values = d.values; spans = d.spans } in
      let left : drop k rest ≡ drop m whole =
      sym (ap (drop m) s.whole_is ∙ ap (λ (n : ℕ). drop n (behind ++ rest)) (long ∙ ap (λ (n : ℕ). n + k) (sym s.long)) ∙ drop-append-add behind rest k) in
      let place : d.at + k ≡ c.at + m = omega (arith, s.at, long) in (
        e,
        step turn (subst (λ (l : List ℕ). Way (turn_in states) e (drop k rest) [] e l) left here) refl,
        config_is (roots node) (d.at + k) number (c.at + m) d.values c.values d.spans c.spans place s.values s.spans,
      )

  root_rest : otherwise [] ≡ rest_by roots other None
  root_rest = go (key_of keys []) (key_is keys [])
    where
      go : (o : Option Key) → KeyIs keys [] o → rest_by roots other o ≡ rest_by roots other None
      go None h = refl
      go (Some k) h = absurd (good.filled k (has_contains keys k h.0) h.1)

  -- at the end inside of a key
  end_inner : (p behind whole text : List ℕ) (d : Config) → Stands [] p behind whole text d → IsInner keys p → Comes_there [] whole d (match_turn c whole keys peeks other text)
  end_inner p behind whole text d s i =
      let b : ℕ = i.2 in
      let some : (e : Edge) × (edge p b ≡ Some e) =
      some_by roots root keys p b i.3 i.0 i.1 i.4 (place_of (p ++ b ∷ []) (inner_of keys)) (place_is (p ++ b ∷ []) (inner_of keys))
      (key_of keys (p ++ b ∷ [])) (key_is keys (p ++ b ∷ [])) (peek_of peeks p b) in
      let full : (x : Edge) × (l : List Edge) × (each_below (edge p) 256 ≡ x ∷ l) = some_edges (edge p) (own p) (none p) b some.0 some.1 in
      let turn : match_turn c whole keys peeks other text ≡ Rests (rests_at c whole) =
      ap (match_turn c whole keys peeks other) (s.text_is ∙ append-nil p) ∙ turn_inside c whole keys peeks other p i in
      subst (Comes_there [] whole d) (sym turn)
      (both_rest p behind whole text d s (full_branch (each_below (edge p) 256) (otherwise p) full.0 full.1 full.2))

  -- at the end at the root of a node without keys
  end_root : (behind whole text : List ℕ) (d : Config) → Stands [] [] behind whole text d → keys ≡ [] → Comes_there [] whole d (match_turn c whole keys peeks other text)
  end_root behind whole text d s none_there =
      subst (Comes_there [] whole d) (sym same) (go (peek_or_none peeks) other.skip refl)
    where
      same : match_turn c whole keys peeks other text ≡ match_turn c whole [] peeks other []
      same = ap (match_turn c whole keys peeks other) s.text_is ∙ ap (λ (k : List Key). match_turn c whole k peeks other []) none_there

      skips : (v : Bool) → other.skip ≡ v → (otherwise []).skip ≡ v
      skips v e = ap (λ (r : Rest). r.skip) root_rest ∙ e

      peeking : (q : Peek) → find (λ (p : Peek). p.byte == q.byte) peeks ≡ Some q → (e : Edge) × (edge [] q.byte ≡ Some e)
      peeking q f =
          let some : (e : Edge) × (edge_by roots root q.byte (place_of ([] ++ q.byte ∷ []) (inner_of keys)) (key_of keys ([] ++ q.byte ∷ [])) (Some q) ≡ Some e) =
          some_peek roots root q.byte (place_of ([] ++ q.byte ∷ []) (inner_of keys)) (key_of keys ([] ++ q.byte ∷ [])) q in
          (some.0, ap (edge_by roots root q.byte (place_of ([] ++ q.byte ∷ []) (inner_of keys)) (key_of keys ([] ++ q.byte ∷ []))) f ∙ some.1)

      no_edge : peeks ≡ [] → (b : ℕ) → edge [] b ≡ None
      no_edge f b = ap (λ (k : List Key). edge_at roots root k peeks [] b) none_there ∙ ap (λ (l : List Peek). edge_at roots root [] l [] b) f

      go : (peeks ≡ []) ⊎ ((q : Peek) × (find (λ (p : Peek). p.byte == q.byte) peeks ≡ Some q)) → (v : Bool) → other.skip ≡ v →
          Comes_there [] whole d (match_turn c whole [] peeks other [])
      go (inr f) v e =
          let some : (x : Edge) × (edge [] f.0.byte ≡ Some x) = peeking f.0 f.1 in
          let full : (x : Edge) × (l : List Edge) × (each_below (edge []) 256 ≡ x ∷ l) = some_edges (edge []) (own []) (none []) f.0.byte some.0 some.1 in
          subst (Comes_there [] whole d) (sym (end_peeks c whole peeks other f.0 f.1))
          (both_rest [] behind whole text d s (full_branch (each_below (edge []) 256) (otherwise []) full.0 full.1 full.2))
      go (inl f) true e =
          subst (Comes_there [] whole d) (sym (end_skip c whole peeks other e))
          (both_rest [] behind whole text d s (skip_branch (each_below (edge []) 256) (otherwise []) (skips true e)))
      go (inl f) false e =
          let plain : match_turn c whole [] peeks other [] ≡ to c other.target 0 0 = ap (λ (l : List Peek). match_turn c whole [] l other []) f ∙ end_plain c whole other e in
          let turn : turn_in states d [] ≡ to d (roots other.target) 0 0 =
          turn_end d [] s.there true (empty_branch (each_below (edge []) 256) (otherwise []) (no_edges (edge []) (no_edge f) 256) (skips false e))
          ∙ ap (rest_turn d) root_rest ∙ ap (λ (v : Bool). to d (roots other.target) (cond v 1 0) 0) e in
          subst (Comes_there [] whole d) (sym plain) (arrives [] [] behind whole text d s other.target 0 0 0 turn refl)

  walks_end : (p behind whole text : List ℕ) (d : Config) → Stands [] p behind whole text d → Comes_there [] whole d (match_turn c whole keys peeks other text)
  walks_end p behind whole text d s = go s.live
    where
      at_root : (p ≡ []) → (keys ≡ []) ⊎ IsInner keys [] → Comes_there [] whole d (match_turn c whole keys peeks other text)
      at_root e (inl f) = end_root behind whole text d (subst (λ (x : List ℕ). Stands [] x behind whole text d) e s) f
      at_root e (inr i) = end_inner [] behind whole text d (subst (λ (x : List ℕ). Stands [] x behind whole text d) e s) i

      go : (p ≡ []) ⊎ IsInner keys p → Comes_there [] whole d (match_turn c whole keys peeks other text)
      go (inl e) = at_root e (key_or_none keys good)
      go (inr i) = end_inner p behind whole text d s i

  -- by the otherwise
  arrives_other : (rest p behind whole text : List ℕ) (d : Config) → Stands rest p behind whole text d → (n : ℕ) →
      turn_in states d rest ≡ rest_turn d (rest_by roots other None) → n ≡ length p → (v : Bool) → other.skip ≡ v → Comes_there rest whole d (other_turn c other n)
  arrives_other rest p behind whole text d s n turn long true e =
      subst (Comes_there rest whole d) (sym (ap (λ (w : Bool). to c other.target (cond w (n + 1) n) 0) e))
      (arrives rest p behind whole text d s other.target 1 0 (n + 1) (turn ∙ ap (λ (w : Bool). to d (roots other.target) (cond w 1 0) 0) e) (ap (λ (m : ℕ). m + 1) long))
  arrives_other rest p behind whole text d s n turn long false e =
      subst (Comes_there rest whole d) (sym (ap (λ (w : Bool). to c other.target (cond w (n + 1) n) 0) e))
      (arrives rest p behind whole text d s other.target 0 0 n (turn ∙ ap (λ (w : Bool). to d (roots other.target) (cond w 1 0) 0) e) (long ∙ sym (add-zero (length p))))

  -- at the root, on a byte that begins no key
  off_root : (rest behind whole text : List ℕ) (d : Config) (b : ℕ) → Stands (b ∷ rest) [] behind whole text d → NoneBegins keys ([] ++ folded fold b ∷ []) →
      (q : Option Peek) → peek_of peeks [] (folded fold b) ≡ q → edge [] (folded fold b) ≡ edge_by roots root (folded fold b) None None q →
      Comes_there (b ∷ rest) whole d (match_turn c whole keys peeks other text)
  off_root rest behind whole text d b s off q peek e = go q peek e
    where
      graph : (o : Option Peek) → peek_of peeks [] (folded fold b) ≡ o → match_turn c whole keys peeks other text ≡ peek_turn c other 0 o
      graph o f =
          ap (match_turn c whole keys peeks other) s.text_is
          ∙ turn_off c whole keys peeks other [] (map (folded fold) rest) (folded fold b) good (inl refl) (λ l h z. good.filled l (has_contains keys l h) z) off
          ∙ ap (peek_turn c other 0) f

      go : (o : Option Peek) → peek_of peeks [] (folded fold b) ≡ o → edge [] (folded fold b) ≡ edge_by roots root (folded fold b) None None o →
          Comes_there (b ∷ rest) whole d (match_turn c whole keys peeks other text)
      go (Some x) f g =
          subst (Comes_there (b ∷ rest) whole d) (sym (graph (Some x) f))
          (arrives (b ∷ rest) [] behind whole text d s x.target 0 0 0 (turn_at d [] rest b s.there _ g) refl)
      go None f g =
          subst (Comes_there (b ∷ rest) whole d) (sym (graph None f))
          (arrives_other (b ∷ rest) [] behind whole text d s 0 (turn_at d [] rest b s.there None g ∙ ap (rest_turn d) root_rest) refl other.skip refl)

  -- at an inner state, on a byte with which no key goes on
  off_inner : (rest behind whole text : List ℕ) (d : Config) (b x : ℕ) (p : List ℕ) → Stands (b ∷ rest) (x ∷ p) behind whole text d → NoneBegins keys ((x ∷ p) ++ folded fold b ∷ []) →
      edge (x ∷ p) (folded fold b) ≡ None → (o : Option Key) → key_of keys (x ∷ p) ≡ o → KeyIs keys (x ∷ p) o →
      Comes_there (b ∷ rest) whole d (match_turn c whole keys peeks other text)
  off_inner rest behind whole text d b x p s off e (Some k) f h =
      let graph : match_turn c whole keys peeks other text ≡ to c k.target (length (x ∷ p)) (unwrap_or k.number 0) =
      ap (match_turn c whole keys peeks other) s.text_is ∙ turn_key c whole keys peeks other (x ∷ p) (map (folded fold) rest) (folded fold b) k good off h.0 h.1 in
      subst (Comes_there (b ∷ rest) whole d) (sym graph)
      (arrives (b ∷ rest) (x ∷ p) behind whole text d s k.target 0 (unwrap_or k.number 0) (length (x ∷ p))
      (turn_at d (x ∷ p) rest b s.there None e ∙ ap (λ (m : Option Key). rest_turn d (rest_by roots other m)) f) (sym (add-zero (length (x ∷ p)))))
  off_inner rest behind whole text d b x p s off e None f h =
      let graph : match_turn c whole keys peeks other text ≡ other_turn c other (length (x ∷ p)) =
      ap (match_turn c whole keys peeks other) s.text_is ∙ turn_off c whole keys peeks other (x ∷ p) (map (folded fold) rest) (folded fold b) good s.live h off in
      subst (Comes_there (b ∷ rest) whole d) (sym graph)
      (arrives_other (b ∷ rest) (x ∷ p) behind whole text d s (length (x ∷ p))
      (turn_at d (x ∷ p) rest b s.there None e ∙ ap (λ (m : Option Key). rest_turn d (rest_by roots other m)) f) refl other.skip refl)

  off_tree : (rest p behind whole text : List ℕ) (d : Config) (b : ℕ) → Stands (b ∷ rest) p behind whole text d → NoneBegins keys (p ++ folded fold b ∷ []) →
      edge p (folded fold b) ≡ edge_by roots root (folded fold b) None None (peek_of peeks p (folded fold b)) →
      Comes_there (b ∷ rest) whole d (match_turn c whole keys peeks other text)
  off_tree rest [] behind whole text d b s off e = off_root rest behind whole text d b s off (peek_of peeks [] (folded fold b)) refl e
  off_tree rest (x ∷ p) behind whole text d b s off e = off_inner rest behind whole text d b x p s off e (key_of keys (x ∷ p)) refl (key_is keys (x ∷ p))

  -- on a byte
  walks_on : (rest p behind whole text : List ℕ) (d : Config) (b : ℕ) → Stands (b ∷ rest) p behind whole text d →
      ((e : Config) → Stands rest (p ++ folded fold b ∷ []) (behind ++ b ∷ []) whole text e → Comes_there rest whole e (match_turn c whole keys peeks other text)) →
      (i : Option ℕ) → place_of (p ++ folded fold b ∷ []) (inner_of keys) ≡ i → PlaceIs (p ++ folded fold b ∷ []) (inner_of keys) i →
      (k : Option Key) → key_of keys (p ++ folded fold b ∷ []) ≡ k → KeyIs keys (p ++ folded fold b ∷ []) k →
      Comes_there (b ∷ rest) whole d (match_turn c whole keys peeks other text)
  walks_on rest p behind whole text d b s on (Some i) f place k g key =
      let e : Config = record { node = root + suc i; at = d.at + 1; carried = 0; values = d.values; spans = d.spans } in
      let turn : turn_in states d (b ∷ rest) ≡ Goes e 1 [] =
      turn_at d p rest b s.there _ (ap (λ (j : Option ℕ). edge_by roots root (folded fold b) j (key_of keys (p ++ folded fold b ∷ [])) (peek_of peeks p (folded fold b))) f) in
      let inner : IsInner keys (p ++ folded fold b ∷ []) = inner_only keys (p ++ folded fold b ∷ []) (get_has (inner_of keys) i (p ++ folded fold b ∷ []) place) in
      let longer : length (behind ++ b ∷ []) ≡ length behind + 1 = length-append behind (b ∷ []) in
      let prefix : length (p ++ folded fold b ∷ []) ≡ length p + 1 = length-append p (folded fold b ∷ []) in
      let stands : Stands rest (p ++ folded fold b ∷ []) (behind ++ b ∷ []) whole text e = record {
        there = inner_state i (p ++ folded fold b ∷ []) place;
        live = inr inner;
        long = omega (arith, longer, prefix, s.long);
        whole_is = s.whole_is ∙ sym (append_assoc behind (b ∷ []) rest);
        text_is = s.text_is ∙ sym (append_assoc p (folded fold b ∷ []) (map (folded fold) rest));
        at = omega (arith, prefix, s.at);
        values = s.values;
        spans = s.spans;
      } in
      walks_step bond (turn_in states) d e whole (b ∷ rest) 1 (match_turn c whole keys peeks other text) turn (on e stands)
  walks_on rest p behind whole text d b s on None f place (Some k) g key =
      let turn : turn_in states d (b ∷ rest) ≡ to d (roots k.target) 1 (unwrap_or k.number 0) =
      turn_at d p rest b s.there _
      (ap (λ (j : Option ℕ). edge_by roots root (folded fold b) j (key_of keys (p ++ folded fold b ∷ [])) (peek_of peeks p (folded fold b))) f
      ∙ ap (λ (m : Option Key). edge_by roots root (folded fold b) None m (peek_of peeks p (folded fold b))) g) in
      let graph : match_turn c whole keys peeks other text ≡ to c k.target (length (p ++ folded fold b ∷ [])) (unwrap_or k.number 0) =
      ap (match_turn c whole keys peeks other) s.text_is
      ∙ turn_last c whole keys peeks other p (map (folded fold) rest) (folded fold b) k good (λ i. place (inner_there keys p (folded fold b) i)) key.0 key.1 in
      subst (Comes_there (b ∷ rest) whole d) (sym graph)
      (arrives (b ∷ rest) p behind whole text d s k.target 1 (unwrap_or k.number 0) (length (p ++ folded fold b ∷ [])) turn (length-append p (folded fold b ∷ [])))
  walks_on rest p behind whole text d b s on None f place None g key =
      off_tree rest p behind whole text d b s off
      (ap (λ (j : Option ℕ). edge_by roots root (folded fold b) j (key_of keys (p ++ folded fold b ∷ [])) (peek_of peeks p (folded fold b))) f
      ∙ ap (λ (m : Option Key). edge_by roots root (folded fold b) None m (peek_of peeks p (folded fold b))) g)
    where
      by : (l : Key) → Has keys l → (more : List ℕ) → l.bytes ≡ (p ++ folded fold b ∷ []) ++ more → ⊥
      by l h [] e = key l h (e ∙ append-nil (p ++ folded fold b ∷ []))
      by l h (y ∷ more) e = place (inner_there keys p (folded fold b) (l, h, y, more, e))

      off : NoneBegins keys (p ++ folded fold b ∷ [])
      off l h z = by l h z.0 z.1

  -- from the state of any prefix
  pub walks : (rest p behind whole text : List ℕ) (d : Config) → Stands rest p behind whole text d → Comes_there rest whole d (match_turn c whole keys peeks other text)
  walks [] p behind whole text d s = walks_end p behind whole text d s
  walks (b ∷ rest) p behind whole text d s =
      walks_on rest p behind whole text d b s (λ e t. walks rest (p ++ folded fold b ∷ []) (behind ++ b ∷ []) whole text e t)
      (place_of (p ++ folded fold b ∷ []) (inner_of keys)) refl (place_is (p ++ folded fold b ∷ []) (inner_of keys))
      (key_of keys (p ++ folded fold b ∷ [])) refl (key_is keys (p ++ folded fold b ∷ []))
