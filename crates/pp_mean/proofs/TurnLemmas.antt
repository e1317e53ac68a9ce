-- What a node's turn keeps: the graph's lists, and the place.
use Rattle.std.proofs.Common.{◌≡◌, ℕ, zero, suc, ◌+◌, ◌≤◌, ◌<◌, List, [], ◌∷◌, Option, Some, None, Bool, true, false, cond, refl, sym, ◌∙◌, subst, arith, length, map, eqb, leb, zero-le, length-set, add-zero}
use Rattle.std.specs.Prelude.{slice_get, slice_index, find, unwrap_or}
use Rattle.std.proofs.lemmas.Bool.{leb-true}
use Rattle.std.proofs.lemmas.List.{length-map}
use Rattle.std.proofs.lemmas.Option.{slice_get_within}
use Rattle.pp_bytes.specs.declared.fold.Fold.{Fold}
use Rattle.pp_bytes.specs.Fold.{folded}
use Rattle.pp_graph.specs.declared.node.Answer.{Answer}
use Rattle.pp_graph.specs.declared.node.Code.{Code}
use Rattle.pp_graph.specs.declared.node.Code.TheVariants as code
use Rattle.pp_graph.specs.declared.node.Key.{Key}
use Rattle.pp_graph.specs.declared.node.Peek.{Peek}
use Rattle.pp_graph.specs.declared.node.Other.{Other}
use Rattle.pp_graph.specs.declared.node.Kind.{Kind}
use Rattle.pp_graph.specs.declared.node.Kind.TheVariants.{Match, Invoke, Consume, SpanOpen, SpanClose, Pause, Fail}
use Rattle.pp_graph.specs.Plan.{Plan, Leads, Holds, CodeFits, AreEdges, AreAnswers, FitsIn, IsWellFormed}
use Rattle.pp_event.specs.Run.{Config, Turn, Goes, Asks, Rests, Stops, Fails}
use Rattle.pp_event.specs.Turns.{Effect, AsksHost, Answers, Sets, to, effect_turn, consume_turn, consumed, drained}
use Rattle.pp_event.specs.Codes.{answered, target_or, effect_of}
use Rattle.pp_mean.specs.Nodes.{reach, best, waits, key_turn, peek_turn, other_turn, peek_at, rests_at, match_turn, kind_turn}
use Rattle.pp_event.specs.Effects.{Uses}
use Rattle.pp_mean.specs.Steps.{UsesKind}
use Rattle.pp_mean.proofs.MatchLemmas.{best-is, best-le, reach-le, skip-within}

-- a configuration with a node of the graph, and a value and a slot for each property and span
pub record IsIn (g : Plan) (c : Config) : Type 0 where
  pub node_in : c.node < length g.nodes
  pub values : length c.values ≡ length g.props
  pub spans : length c.spans ≡ length g.spans

-- a turn with n bytes left leads into the graph, and the place grows by the bytes that it takes
abbrev pub Sound : Plan → Config → ℕ → Turn → Type 0
Sound g c n (Goes d k items) = IsIn g d × (d.at ≡ c.at + k) × (k ≤ n)
Sound g c n (Asks code value next) = (answer : ℕ) → IsIn g (next answer) × ((next answer).at ≡ c.at)
Sound g c n (Rests d) = Unit {0}
Sound g c n (Stops code d) = IsIn g d × (d.at ≡ c.at)
Sound g c n (Fails code) = Unit {0}

pub leads-below : (g : Plan) (number : Option ℕ) (target : ℕ) → Leads g number target → target < length g.nodes
leads-below g None target l = slice_get_within g.nodes target l.0 l.1
leads-below g (Some n) target l = slice_get_within g.nodes target l.0 l.1

sound_if : (g : Plan) (c : Config) (n : ℕ) (b : Bool) (t u : Turn) → (b ≡ true → Sound g c n t) → (b ≡ false → Sound g c n u) → Sound g c n (cond b t u)
sound_if g c n true t u h k = h refl
sound_if g c n false t u h k = k refl

to-sound : (g : Plan) (c : Config) (n node taken number : ℕ) → IsIn g c → node < length g.nodes → taken ≤ n → Sound g c n (to c node taken number)
to-sound g c n node taken number i h k = (record { node_in = h; values = i.values; spans = i.spans }, refl, k)

-- the element that is found stands in the list
find-is : {X : Type 0} (p : X → Bool) (xs : List X) (x : X) → find p xs ≡ Some x → (i : ℕ) × (slice_get xs i ≡ Some x)
find-is p [] x e = cc
find-is {X} p (y ∷ xs) x e = go (λ h. find-is p xs x h) (p y) e
  where
    go : (find p xs ≡ Some x → (i : ℕ) × (slice_get xs i ≡ Some x)) → (b : Bool) → cond b (Some y) (find p xs) ≡ Some x → (i : ℕ) × (slice_get (y ∷ xs) i ≡ Some x)
    go more true h = (zero, h)
    go more false h = (let f = more h in (suc f.0, f.1))

peek-is : (peeks : List Peek) (bytes : List ℕ) (p : Peek) → peek_at peeks bytes ≡ Some p → (i : ℕ) × (slice_get peeks i ≡ Some p)
peek-is peeks [] p e = cc
peek-is peeks (b ∷ bytes) p e = find-is (λ (q : Peek). eqb q.byte b) peeks p e

module _ (g : Plan) (c : Config) (fold : Fold) (keys : List Key) (peeks : List Peek) (other : Other) (bytes : List ℕ) (is_in : IsIn g c) (edges : AreEdges g fold keys peeks) (leads : Leads g None other.target) where
  behind : (m : ℕ) → m ≤ length bytes → (other.skip ≡ true → m + 1 ≤ length bytes) → Sound g c (length bytes) (other_turn c other m)
  behind m h s = to-sound g c (length bytes) other.target (cond other.skip (m + 1) m) 0 is_in (leads-below g None other.target leads) (go other.skip s)
    where
      go : (b : Bool) → (b ≡ true → m + 1 ≤ length bytes) → cond b (m + 1) m ≤ length bytes
      go true s = s refl
      go false s = h

  peeks_on : (m : ℕ) (o : Option Peek) → peek_at peeks bytes ≡ o → m ≤ length bytes → (other.skip ≡ true → m + 1 ≤ length bytes) → Sound g c (length bytes) (peek_turn c other m o)
  peeks_on zero (Some p) e h s =
      let at : (i : ℕ) × (slice_get peeks i ≡ Some p) = peek-is peeks bytes p e in
      to-sound g c (length bytes) p.target 0 0 is_in (leads-below g None p.target (edges.each_peek at.0 p at.1).leads) h
  peeks_on zero None e h s = behind zero h s
  peeks_on (suc m) o e h s = behind (suc m) h s

  keys_on : (o : Option Key) → best keys bytes ≡ o → waits keys peeks other bytes ≡ false → Sound g c (length bytes) (key_turn c keys peeks other bytes o)
  keys_on (Some k) e w =
      let b = best-is keys bytes k e in
      to-sound g c (length bytes) k.target (length k.bytes) (unwrap_or k.number 0) is_in (leads-below g k.number k.target (edges.each_key b.place k b.is).leads) (best-le keys bytes k e)
  keys_on None e w = peeks_on (reach keys bytes) (peek_at peeks bytes) refl (reach-le keys bytes) (λ s. skip-within keys peeks other bytes w e s)

  pub match-sound : (rest : List ℕ) → Sound g c (length bytes) (match_turn c rest keys peeks other bytes)
  match-sound rest = sound_if g c (length bytes) (waits keys peeks other bytes) (Rests (rests_at c rest)) (key_turn c keys peeks other bytes (best keys bytes)) (λ w. tt) (λ w. keys_on (best keys bytes) refl w)

-- an effect goes on to a node of the graph
effect-sound : (g : Plan) (c : Config) (n : ℕ) (edge : ℕ → ℕ) (f : Effect) → IsIn g c → ((answer : ℕ) → edge answer < length g.nodes) → Sound g c n (effect_turn c edge f)
effect-sound g c n edge (AsksHost host) i h = λ answer. (record { node_in = h answer; values = i.values; spans = i.spans }, refl)
effect-sound g c n edge (Answers answer) i h = (record { node_in = h answer; values = i.values; spans = i.spans }, sym (add-zero c.at), zero-le)
effect-sound g c n edge (Sets prop value) i h =
    (record { node_in = h 0; values = length-set c.values prop value ∙ i.values; spans = i.spans }, sym (add-zero c.at), zero-le)

target-below : (g : Plan) (answers : List Answer) (other : ℕ) (o : Option Answer) → AreAnswers g answers → Leads g None other → ((a : Answer) → o ≡ Some a → (i : ℕ) × (slice_get answers i ≡ Some a)) → target_or other o < length g.nodes
target-below g answers other None a l h = leads-below g None other l
target-below g answers other (Some x) a l h =
    let at : (i : ℕ) × (slice_get answers i ≡ Some x) = h x refl in
    leads-below g None x.target (a.leads at.0 x at.1)

answered-below : (g : Plan) (answers : List Answer) (other n : ℕ) → AreAnswers g answers → Leads g None other → answered answers other n < length g.nodes
answered-below g answers other n a l =
    target-below g answers other _ a l (λ x e. find-is (λ (y : Answer). eqb y.number n) answers x e)

consume-sound : (g : Plan) (c : Config) (rest : List ℕ) (prop next : ℕ) → IsIn g c → next < length g.nodes → Sound g c (length rest) (consume_turn c rest prop next)
consume-sound g c rest prop next i h =
    sound_if g c (length rest) (leb (slice_index c.values prop) (length rest)) (Goes (consumed c prop next (slice_index c.values prop)) (slice_index c.values prop) []) (Rests (drained c prop (slice_index c.values prop) (length rest)))
    (λ t. (record { node_in = h; values = length-set c.values prop 0 ∙ i.values; spans = i.spans }, refl, leb-true (slice_index c.values prop) (length rest) t))
    (λ t. tt)

-- so does every node
pub kind-sound : (g : Plan) (kind : Kind) (c : Config) (rest : List ℕ) → IsIn g c → FitsIn g kind → Sound g c (length rest) (kind_turn kind c rest)
kind-sound g (Match fold keys peeks other) c rest i f =
    subst (λ (n : ℕ). Sound g c n (match_turn c rest keys peeks other (map (folded fold) rest))) (length-map rest (folded fold))
    (match-sound g c fold keys peeks other (map (folded fold) rest) i f.0 f.1 rest)
kind-sound g (Invoke what answers other) c rest i f =
    effect-sound g c (length rest) (answered answers other) (effect_of c.values c.carried what) i (λ n. answered-below g answers other n f.1 f.2)
kind-sound g (Consume prop next) c rest i f = consume-sound g c rest prop next i (leads-below g None next f.1)
kind-sound g (SpanOpen span next) c rest i f =
    (record { node_in = leads-below g None next f.1; values = i.values; spans = length-set c.spans span (Some c.at) ∙ i.spans }, sym (add-zero c.at), zero-le)
kind-sound g (SpanClose span next) c rest i f =
    (record { node_in = leads-below g None next f.1; values = i.values; spans = length-set c.spans span None ∙ i.spans }, sym (add-zero c.at), zero-le)
kind-sound g (Pause number reason next) c rest i f = (record { node_in = leads-below g None next f.1; values = i.values; spans = i.spans }, refl)
kind-sound g (Fail number reason) c rest i f = tt

pub holds-below : (g : Plan) (prop value : ℕ) → Holds g prop value → prop < length g.props
holds-below g prop value h = slice_get_within g.props prop h.0 h.1

code-uses : (g : Plan) (what : Code) → IsWellFormed g → CodeFits g what → Uses (length g.props) what
code-uses g (code.Call host) w f = (let few : length g.hosts ≤ 64 = w.few_hosts in omega arith)
code-uses g (code.Store prop) w f = f
code-uses g (code.Load prop) w f = f
code-uses g (code.Update prop value) w f = holds-below g prop value f
code-uses g (code.Equal prop value) w f = holds-below g prop value f
code-uses g (code.And prop value) w f = holds-below g prop value f
code-uses g (code.Or prop value) w f = holds-below g prop value f
code-uses g (code.Test prop value) w f = holds-below g prop value f
code-uses g (code.MulAdd prop base most) w f = holds-below g prop most f

-- a node uses properties and spans that the graph has
pub kind-uses : (g : Plan) (kind : Kind) (c : Config) → IsWellFormed g → IsIn g c → FitsIn g kind → UsesKind c kind
kind-uses g (Match fold keys peeks other) c w i f = tt
kind-uses g (Invoke what answers other) c w i f = subst (λ (n : ℕ). Uses n what) (sym i.values) (code-uses g what w f.0)
kind-uses g (Consume prop next) c w i f = (let h : prop < length g.props = f.0 in let l : length c.values ≡ length g.props = i.values in omega arith)
kind-uses g (SpanOpen span next) c w i f = (let h : span < length g.spans = f.0 in let l : length c.spans ≡ length g.spans = i.spans in omega arith)
kind-uses g (SpanClose span next) c w i f = (let h : span < length g.spans = f.0 in let l : length c.spans ≡ length g.spans = i.spans in omega arith)
kind-uses g (Pause number reason next) c w i f = tt
kind-uses g (Fail number reason) c w i f = tt
