-- The loop of `run_whole`: the run so far, and the nodes that it has stood at.
use Rattle.std.proofs.Common.{subst, ◌≡◌, ℕ, zero, suc, ◌+◌, ◌-◌, ◌*◌, ◌≤◌, ◌<◌, List, [], ◌∷◌, ◌++◌, Option, Some, None, Bool, true, false, cond, refl, sym, ◌∙◌, ap, arith, length, get_or, set, drop, zero-le, eqb, map, length-set, length-drop, inl, inr, replicate}
use Rattle.std.specs.Prelude.{slice_get}
use Rattle.std.specs.List.{Contains}
use Rattle.std.proofs.lemmas.List.{get_or-set_same, get_or-set_other, map-append, length-replicate}
use Rattle.std.proofs.lemmas.List.Elements.{Contains-append_left, Contains-append_right, Contains-append_cases}
use Rattle.std.proofs.lemmas.Bool.{eq-eqb, eqb-true, eqb-false}
use Rattle.std.proofs.lemmas.Option.{slice_get-get_or}
use Rattle.std.proofs.Math.Nat.{mul-le-mul_right}
use Rattle.std.proofs.lemmas.Grind.{get_or_default_zero}
use Rattle.pp_graph.specs.declared.node.Kind.{Kind}
use Rattle.pp_graph.specs.declared.node.Node.{Node}
use Rattle.pp_graph.specs.Plan.{Plan, IsWellFormed, FitsIn}
use Rattle.pp_event.specs.declared.item.Item.TheVariants.{Call, Pause}
use Rattle.pp_event.specs.Chain.{Move, On, Over, stages, after}
use Rattle.pp_event.specs.Run.{Config, Turn, Goes, Asks, Rests, Stops, Fails, Stage, RunResult, Oracle, move_by, pass, telling}
use Rattle.pp_event.specs.Loops.{stand, NoneTwice}
use Rattle.pp_event.proofs.ChainLaws.{after_on, stages_on, over_after}
use Rattle.pp_event.proofs.OnceLemmas.{Contains_nothing, Contains_one, Contains_here, NoneTwice_more}
use Rattle.pp_mean.specs.Nodes.{graph_turn, node_turn, kind_turn}
use Rattle.pp_event.proofs.ValueLemmas.{values_of-length}
use Rattle.pp_mean.specs.Mean.{values_by}
use Rattle.pp_mean.specs.declared.whole.End.{End}
use Rattle.pp_mean.specs.declared.whole.WholeRun.{WholeRun}
use Rattle.pp_mean.specs.Steps.{Made, ShowsStage, UsesKind}
use Rattle.pp_mean.specs.Whole.{Given, moves, begin, stands, IsEnd, IsRun, ComesBack}
use Rattle.pp_mean.proofs.ReturnLaws.{not_both}
use Rattle.pp_mean.proofs.TurnLemmas.{IsIn, Sound, kind-sound, kind-uses, leads-below}

-- seen has at + 1 just at the nodes where the run stood at this place
pub record Marks (seen : List ℕ) (met : List (ℕ × ℕ)) (at : ℕ) : Type 0 where
  pub marked : (k : ℕ) → get_or seen k 0 ≡ at + 1 → Contains met (k, at)
  pub met_marked : (k : ℕ) → k < length seen → Contains met (k, at) → get_or seen k 0 ≡ at + 1
  pub low : (k : ℕ) → get_or seen k 0 ≤ at + 1
  pub behind : (k place : ℕ) → Contains met (k, place) → place ≤ at

-- the run stood at a node
marks_stood : (seen : List ℕ) (met : List (ℕ × ℕ)) (node at : ℕ) → Marks seen met at → node < length seen →
    Marks (set seen node (at + 1)) (met ++ (node, at) ∷ []) at
marks_stood seen met node at m h = record {
  marked = λ k e. marked k e (eqb k node) refl;
  met_marked = λ k h c. met_marked k h c (eqb k node) refl;
  low = λ k. low k (eqb k node) refl;
  behind = λ k place c. elim (Contains-append_cases met ((node, at) ∷ []) (k, place) c)
      [ inl a ↦ m.behind k place a | inr b ↦ last_place k place (sym (Contains_one (node, at) (k, place) b)) ];
}
  where
    here : get_or (set seen node (at + 1)) node 0 ≡ at + 1
    here = get_or-set_same seen node (at + 1) 0 h

    there : (k : ℕ) → eqb k node ≡ false → get_or (set seen node (at + 1)) k 0 ≡ get_or seen k 0
    there k e = get_or-set_other seen node k (at + 1) 0 (eqb-false k node e)

    marked : (k : ℕ) → get_or (set seen node (at + 1)) k 0 ≡ at + 1 → (b : Bool) → eqb k node ≡ b → Contains (met ++ (node, at) ∷ []) (k, at)
    marked k e true t = subst (λ (x : ℕ). Contains (met ++ (node, at) ∷ []) (x, at)) (sym (eqb-true k node t)) (Contains-append_right met ((node, at) ∷ []) (node, at) (Contains_here (node, at) []))
    marked k e false t = Contains-append_left met ((node, at) ∷ []) (k, at) (m.marked k (sym (there k t) ∙ e))

    met_marked : (k : ℕ) → k < length (set seen node (at + 1)) → Contains (met ++ (node, at) ∷ []) (k, at) → (b : Bool) → eqb k node ≡ b → get_or (set seen node (at + 1)) k 0 ≡ at + 1
    met_marked k n c true t = subst (λ (x : ℕ). get_or (set seen node (at + 1)) x 0 ≡ at + 1) (sym (eqb-true k node t)) here
    met_marked k n c false t =
        there k t ∙ m.met_marked k (rw length-set at n)
        (elim (Contains-append_cases met ((node, at) ∷ []) (k, at) c)
        [ inl a ↦ a | inr b ↦ absurd (eqb-false k node t (ap (λ (p : ℕ × ℕ). p.0) (sym (Contains_one (node, at) (k, at) b)))) ])

    low : (k : ℕ) → (b : Bool) → eqb k node ≡ b → get_or (set seen node (at + 1)) k 0 ≤ at + 1
    low k true t = (let e : k ≡ node = eqb-true k node t in let v : get_or (set seen node (at + 1)) k 0 ≡ at + 1 = ap (λ (x : ℕ). get_or (set seen node (at + 1)) x 0) e ∙ here in omega arith)
    low k false t = (let v : get_or (set seen node (at + 1)) k 0 ≡ get_or seen k 0 = there k t in let l : get_or seen k 0 ≤ at + 1 = m.low k in omega arith)

    last_place : (k place : ℕ) → (let p : ℕ × ℕ = (k, place) in let q : ℕ × ℕ = (node, at) in p ≡ q) → place ≤ at
    last_place k place e = (let same : place ≡ at = ap (λ (p : ℕ × ℕ). p.1) e in omega arith)

-- bytes are taken, and no node has been stood at yet
marks_took : (seen : List ℕ) (met : List (ℕ × ℕ)) (at place : ℕ) → Marks seen met at → at < place → Marks seen met place
marks_took seen met at place m after = record {
  marked = λ k e. (let l : get_or seen k 0 ≤ at + 1 = m.low k in absurd (omega arith));
  met_marked = λ k h c. (let b : place ≤ at = m.behind k place c in absurd (omega arith));
  low = λ k. (let l : get_or seen k 0 ≤ at + 1 = m.low k in omega arith);
  behind = λ k p c. (let b : p ≤ at = m.behind k p c in omega arith);
}

-- how many nodes are not marked with m
abbrev pub unmarked : ℕ → List ℕ → ℕ
unmarked m [] = 0
unmarked m (s ∷ seen) = cond (eqb s m) 0 1 + unmarked m seen

one_or_none : (b : Bool) → cond b 0 1 ≤ 1
one_or_none true = zero-le
one_or_none false = omega arith

pub unmarked-le : (m : ℕ) (seen : List ℕ) → unmarked m seen ≤ length seen
unmarked-le m [] = omega arith
unmarked-le m (s ∷ seen) = (let i : unmarked m seen ≤ length seen = unmarked-le m seen in let o : cond (eqb s m) 0 1 ≤ 1 = one_or_none (eqb s m) in omega arith)

pub unmarked-set : (m : ℕ) (seen : List ℕ) (node : ℕ) → node < length seen → (get_or seen node 0 ≡ m → ⊥) → unmarked m (set seen node m) < unmarked m seen
unmarked-set m [] node h fresh = absurd (omega arith)
unmarked-set m (s ∷ seen) zero h fresh = rw (eq-eqb m m refl, not_eqb) (omega arith)
  where
    not_eqb : eqb s m ≡ false
    not_eqb = go (eqb s m) refl
      where
        go : (b : Bool) → eqb s m ≡ b → eqb s m ≡ false
        go true e = absurd (fresh (eqb-true s m e))
        go false e = e
unmarked-set m (s ∷ seen) (suc node) h fresh = (let i : unmarked m (set seen node m) < unmarked m seen = unmarked-set m seen node (omega arith) fresh in omega arith)

-- what is left to do: the places, and the nodes of this place
abbrev pub left : ℕ → ℕ → List ℕ → ℕ
left places at seen = (places - at) * (length seen + 1) + unmarked (at + 1) seen

pub left_stay : (places at node : ℕ) (seen : List ℕ) → node < length seen → (get_or seen node 0 ≡ at + 1 → ⊥) →
    left places at (set seen node (at + 1)) < left places at seen
left_stay places at node seen h fresh =
    let u : unmarked (at + 1) (set seen node (at + 1)) < unmarked (at + 1) seen = unmarked-set (at + 1) seen node h fresh in
    let l : length (set seen node (at + 1)) ≡ length seen = length-set seen node (at + 1) in
    rw l (omega arith)

pub left_on : (places at place node : ℕ) (seen : List ℕ) → at < place → place ≤ places → left places place (set seen node (at + 1)) < left places at seen
left_on places at place node seen h p =
    let l : length (set seen node (at + 1)) ≡ length seen = length-set seen node (at + 1) in
    let u : unmarked (place + 1) (set seen node (at + 1)) ≤ length (set seen node (at + 1)) = unmarked-le (place + 1) (set seen node (at + 1)) in
    let step : suc (places - place) ≤ places - at = omega arith in
    let more : suc (places - place) * (length seen + 1) ≤ (places - at) * (length seen + 1) = mul-le-mul_right (length seen + 1) step in
    rw l (omega arith)

-- what is left to do falls from one place to the same one or a later one
left_falls : (places at place node : ℕ) (seen : List ℕ) → node < length seen → (get_or seen node 0 ≡ at + 1 → ⊥) → at ≤ place → place ≤ places →
    left places place (set seen node (at + 1)) < left places at seen
left_falls places at place node seen i f h p = go (eqb place at) refl
  where
    go : (b : Bool) → eqb place at ≡ b → left places place (set seen node (at + 1)) < left places at seen
    go true t = subst (λ (n : ℕ). left places n (set seen node (at + 1)) < left places at seen) (sym (eqb-true place at t)) (left_stay places at node seen i f)
    go false t = (let ne : place ≡ at → ⊥ = eqb-false place at t in left_on places at place node seen (grind arith) p)

-- the marks hold at the same place or a later one
marks_on : (seen : List ℕ) (met : List (ℕ × ℕ)) (at place : ℕ) → Marks seen met at → at ≤ place → Marks seen met place
marks_on seen met at place m h = go (eqb place at) refl
  where
    go : (b : Bool) → eqb place at ≡ b → Marks seen met place
    go true t = subst (Marks seen met) (sym (eqb-true place at t)) m
    go false t = (let ne : place ≡ at → ⊥ = eqb-false place at t in marks_took seen met at place m (grind arith))

-- a move leads into the graph, and behind the bytes that it takes
pub record Leads (g : Plan) (s d : Stage) : Type 0 where
  pub is_in : IsIn g d.config
  pub all : d.config.at + length d.rest ≡ s.config.at + length s.rest
  pub later : s.config.at ≤ d.config.at

pass-leads : (g : Plan) (s d : Stage) (code : ℕ) (c : Config) (resumes : ℕ) → IsIn g c → c.at ≡ s.config.at → pass s code c resumes ≡ On d → Leads g s d
pass-leads g s d code c zero i a e = cc
pass-leads g s d code c (suc r) i a e =
    let same : record { config = c; rest = s.rest; items = s.items ++ Pause code s.config.at ∷ []; resumes = r } ≡ d = cc in
    subst (λ (x : Stage). Leads g s x) same (record { is_in = i; all = ap (λ (n : ℕ). n + length s.rest) a; later = omega (arith, a) })

turn-leads : (g : Plan) (oracle : Oracle) (s d : Stage) (t : Turn) → Sound g s.config (length s.rest) t → move_by oracle s t ≡ On d → Leads g s d
turn-leads g oracle s d (Goes c k items) h e =
    let same : telling s items c (drop k s.rest) ≡ d = cc in
    let long : length (drop k s.rest) ≡ length s.rest - k = length-drop k s.rest in
    let place : c.at ≡ s.config.at + k = h.1 in
    let within : k ≤ length s.rest = h.2 in
    subst (λ (x : Stage). Leads g s x) same (record { is_in = h.0; all = omega arith; later = omega arith })
turn-leads g oracle s d (Asks code value next) h e =
    let answer : ℕ = oracle s.items code in
    let same : telling s (Call code value s.config.at s.config.values answer ∷ []) (next answer) s.rest ≡ d = cc in
    let place : (next answer).at ≡ s.config.at = (h answer).1 in
    subst (λ (x : Stage). Leads g s x) same (record { is_in = (h answer).0; all = ap (λ (n : ℕ). n + length s.rest) place; later = omega (arith, place) })
turn-leads g oracle s d (Rests c) h e = cc
turn-leads g oracle s d (Stops code c) h e = pass-leads g s d code c s.resumes h.0 h.1 e
turn-leads g oracle s d (Fails code) h e = cc

-- the run of x has come to this stage, and seen marks where it stood
pub record Comes (x : Given) (s : Stage) (seen : List ℕ) : Type 0 where
  pub moves_made : ℕ
  pub there : after (moves x) moves_made (begin x) ≡ Some s
  pub once : NoneTwice (stands x moves_made)
  pub marks : Marks seen (stands x moves_made) s.config.at
  pub long : length seen ≡ length x.graph.nodes
  pub is_in : IsIn x.graph s.config
  pub all : s.config.at + length s.rest ≡ length x.bytes

-- at its beginning it has stood nowhere
comes_first : (x : Given) → IsWellFormed x.graph → length x.values ≡ length x.graph.props → Comes x (begin x) (replicate (length x.graph.nodes) 0)
comes_first x w v = record {
  moves_made = 0;
  there = refl;
  once = tt;
  marks = record {
    marked = λ k e. (let z : (let o : ℕ = 0 in get_or (replicate (length x.graph.nodes) o) k o ≡ o) = zeros (length x.graph.nodes) k in absurd (omega arith));
    met_marked = λ k h c. absurd (Contains_nothing (k, 0) c);
    low = λ k. (let z : (let o : ℕ = 0 in get_or (replicate (length x.graph.nodes) o) k o ≡ o) = zeros (length x.graph.nodes) k in omega arith);
    behind = λ k place c. absurd (Contains_nothing (k, place) c);
  };
  long = length-replicate (length x.graph.nodes) 0;
  is_in = record { node_in = leads-below x.graph None x.graph.entry w.entry; values = v; spans = length-replicate (length x.graph.spans) None };
  all = omega arith;
}
  where
    zeros : (n k : ℕ) → (let z : ℕ = 0 in get_or (replicate n z) k z ≡ z)
    zeros zero k = refl
    zeros (suc n) zero = refl
    zeros (suc n) (suc k) = zeros n k

pub comes_begin : (x : Given) (s : Stage) (seen : List ℕ) (nodes : List Node) → IsWellFormed x.graph → length x.values ≡ length x.graph.props → s ≡ begin x →
    seen ≡ replicate (length nodes) 0 → nodes ≡ x.graph.nodes → Comes x s seen
comes_begin x s seen nodes w v e f n =
    let marks : seen ≡ replicate (length x.graph.nodes) 0 = f ∙ ap (λ (l : List Node). replicate (length l) 0) n in
    subst (λ (t : Stage). Comes x t seen) (sym e) (subst (Comes x (begin x)) (sym marks) (comes_first x w v))

-- the chain so far with one stage more
stands_on : (x : Given) (n : ℕ) (s : Stage) → after (moves x) n (begin x) ≡ Some s → stands x (suc n) ≡ stands x n ++ stand s ∷ []
stands_on x n s e = ap (map stand) (stages_on (moves x) n (begin x) s e) ∙ map-append stand (stages (moves x) n (begin x)) (s ∷ [])

-- what the code's loop knows at a node that isn't marked
pub record Stands (x : Given) (s : Stage) (seen : List ℕ) (node at : ℕ) (kind : Kind) : Type 0 where
  pub come : Comes x s seen
  pub well_formed : IsWellFormed x.graph
  pub node_is : node ≡ s.config.node
  pub at_is : at ≡ s.config.at
  pub fresh : get_or seen node 0 ≡ at + 1 → ⊥
  pub turn_is : graph_turn x.graph s.config s.rest ≡ kind_turn kind s.config s.rest
  pub fits : FitsIn x.graph kind

module _ (x : Given) (s : Stage) (seen : List ℕ) (node at : ℕ) (kind : Kind) (h : Stands x s seen node at kind) where
  move : Move Stage RunResult
  move = move_by x.oracle s (kind_turn kind s.config s.rest)

  in_seen : node < length seen
  in_seen = (let i : s.config.node < length x.graph.nodes = h.come.is_in.node_in in let l : length seen ≡ length x.graph.nodes = h.come.long in let n : node ≡ s.config.node = h.node_is in omega arith)

  moved : (m : Move Stage RunResult) → move_by x.oracle s (kind_turn kind s.config s.rest) ≡ m → moves x s ≡ m
  moved m e = ap (move_by x.oracle s) h.turn_is ∙ e

  here : (let p : ℕ × ℕ = (node, at) in p ≡ stand s)
  here = ap (λ (n : ℕ). (n, at)) h.node_is ∙ ap (λ (a : ℕ). (s.config.node, a)) h.at_is

  longer : stands x (suc h.come.moves_made) ≡ stands x h.come.moves_made ++ (node, at) ∷ []
  longer = stands_on x h.come.moves_made s h.come.there ∙ ap (λ (p : ℕ × ℕ). stands x h.come.moves_made ++ p ∷ []) (sym here)

  marks_here : Marks seen (stands x h.come.moves_made) at
  marks_here = subst (Marks seen (stands x h.come.moves_made)) (sym h.at_is) h.come.marks

  once_more : NoneTwice (stands x (suc h.come.moves_made))
  once_more = subst NoneTwice (sym longer) (NoneTwice_more (stands x h.come.moves_made) (node, at) h.come.once (λ c. h.fresh (marks_here.met_marked node in_seen c)))

  stood : Marks (set seen node (at + 1)) (stands x (suc h.come.moves_made)) at
  stood = subst (λ (l : List (ℕ × ℕ)). Marks (set seen node (at + 1)) l at) (sym longer) (marks_stood seen (stands x h.come.moves_made) node at marks_here in_seen)

  pub uses : UsesKind s.config kind
  uses = kind-uses x.graph kind s.config h.well_formed h.come.is_in h.fits

  leads : (d : Stage) → move_by x.oracle s (kind_turn kind s.config s.rest) ≡ On d → Leads x.graph s d
  leads d e = turn-leads x.graph x.oracle s d (kind_turn kind s.config s.rest) (kind-sound x.graph kind s.config s.rest h.come.is_in h.fits) e

  -- it goes on
  pub comes_on : (d : Stage) (o : Option End) → o ≡ None → Made d o (move_by x.oracle s (kind_turn kind s.config s.rest)) → Comes x d (set seen node (at + 1))
  comes_on d o none m =
      let e : move_by x.oracle s (kind_turn kind s.config s.rest) ≡ On d = subst (λ (o : Option End). Made d o (move_by x.oracle s (kind_turn kind s.config s.rest))) none m in
      let l = leads d e in
      let later : s.config.at ≤ d.config.at = l.later in
      let place : at ≡ s.config.at = h.at_is in
      record {
        moves_made = suc h.come.moves_made;
        there = after_on (moves x) h.come.moves_made (begin x) s d h.come.there (moved (On d) e);
        once = once_more;
        marks = marks_on (set seen node (at + 1)) (stands x (suc h.come.moves_made)) at d.config.at stood (omega arith);
        long = length-set seen node (at + 1) ∙ h.come.long;
        is_in = l.is_in;
        all = l.all ∙ h.come.all;
      }

  -- and less is left to do
  pub falls : (d : Stage) (o : Option End) → o ≡ None → Made d o (move_by x.oracle s (kind_turn kind s.config s.rest)) →
      left (length x.bytes) d.config.at (set seen node (at + 1)) < left (length x.bytes) s.config.at seen
  falls d o none m =
      let e : move_by x.oracle s (kind_turn kind s.config s.rest) ≡ On d = subst (λ (o : Option End). Made d o (move_by x.oracle s (kind_turn kind s.config s.rest))) none m in
      let l = leads d e in
      let later : s.config.at ≤ d.config.at = l.later in
      let place : at ≡ s.config.at = h.at_is in
      let all : d.config.at + length d.rest ≡ s.config.at + length s.rest = l.all in
      let whole : s.config.at + length s.rest ≡ length x.bytes = h.come.all in
      subst (λ (n : ℕ). left (length x.bytes) d.config.at (set seen node (at + 1)) < left (length x.bytes) n seen) h.at_is
      (left_falls (length x.bytes) at d.config.at node seen in_seen h.fresh (omega arith) (omega arith))

  -- it ends
  pub is_run : (d : Stage) (o : Option End) (end : End) (w : WholeRun) → o ≡ Some end → Made d o (move_by x.oracle s (kind_turn kind s.config s.rest)) → ShowsStage d end w → IsRun x w
  is_run d o end w some made shows =
      let m : Made d (Some end) (move_by x.oracle s (kind_turn kind s.config s.rest)) =
      subst (λ (o : Option End). Made d o (move_by x.oracle s (kind_turn kind s.config s.rest))) some made in
      record {
        result = record { finish = m.0; last = d };
        ends = record {
          moves_made = suc h.come.moves_made;
          ended = over_after (moves x) h.come.moves_made (begin x) s (record { finish = m.0; last = d }) h.come.there (moved (Over (record { finish = m.0; last = d })) m.1);
          once = once_more;
        };
        shows = record {
          items = shows.items;
          end = subst (λ (e : End). IsEnd e d.config.node m.0) (sym shows.end_is) m.2;
          props = shows.props;
          at = shows.at;
          spans = shows.spans;
        };
      }

  -- so it never comes back
  pub no_loop : (d : Stage) (o : Option End) (end : End) (w : WholeRun) → o ≡ Some end → Made d o (move_by x.oracle s (kind_turn kind s.config s.rest)) → ShowsStage d end w →
      (n : ℕ) (byte : Option ℕ) → ComesBack x n byte → ⊥
  no_loop d o end w some made shows n byte back =
      let run = is_run d o end w some made shows in
      not_both x run.result n byte run.ends back

-- an element that was read is no mark
pub fresh_from : (seen : List ℕ) (node v m : ℕ) → node < length seen → v ≡ get_or seen node v → (v ≡ m → ⊥) → get_or seen node 0 ≡ m → ⊥
fresh_from seen node v m h e fresh t = fresh (e ∙ get_or_default_zero seen node v h ∙ t)

-- what the loop knows, from what its reads gave
pub stands_from : (x : Given) (s : Stage) (seen : List ℕ) (node at : ℕ) (nodes : List Node) (d : Node) (v : ℕ) → Comes x s seen → IsWellFormed x.graph → nodes ≡ x.graph.nodes →
    node ≡ s.config.node → at ≡ s.config.at → v ≡ get_or seen node v → (v ≡ at + 1 → ⊥) → Stands x s seen node at (get_or nodes node d).kind
stands_from x s seen node at nodes d v come w same node_is at_is read fresh =
    let below : s.config.node < length x.graph.nodes = come.is_in.node_in in
    let long : length seen ≡ length x.graph.nodes = come.long in
    let inside : node < length nodes = rw same (omega arith) in
    let found : slice_get nodes node ≡ Some (get_or nodes node d) = slice_get-get_or nodes node d inside in
    let there : slice_get x.graph.nodes s.config.node ≡ Some (get_or nodes node d) =
    ap (λ (l : List Node). slice_get l s.config.node) (sym same) ∙ ap (slice_get nodes) (sym node_is) ∙ found in
    record {
      come = come;
      well_formed = w;
      node_is = node_is;
      at_is = at_is;
      fresh = fresh_from seen node v (at + 1) (omega arith) read fresh;
      turn_is = ap (λ (o : Option Node). node_turn o s.config s.rest) there;
      fits = w.kinds s.config.node (get_or nodes node d) there;
    }

-- sets keep the number of values
pub values_by-length : (g : Plan) (sets : List (ℕ × ℕ)) → length (values_by g sets) ≡ length g.props
values_by-length g sets = values_of-length (length g.props) sets
