-- The calls that tell a graph keep the rules.
use Rattle.std.proofs.Common.{◌≡◌, ℕ, ◌+◌, ◌<◌, ◌≤◌, suc, List, [], ◌∷◌, ◌++◌, Bool, true, false, not, ◌&&◌, ◌||◌, ◌==◌, nat_le, nat_lt, length, take, drop, slice_get, map, filter_map, sum_by, Option, Some, refl, ap, ap₂, sym, ◌∙◌, subst, arith}
use Rattle.std.specs.Prelude.{None as none}
use Rattle.std.specs.List.{list_any}
use Rattle.std.proofs.Math.Bool.{or-true}
use Rattle.std.proofs.lemmas.Bool.{false≢true}
use Rattle.std.proofs.lemmas.List.{length-append}
use Rattle.std.proofs.lemmas.List.Elements.{filter_map-append}
use Rattle.std.proofs.lemmas.List.Sums.{sum_by-cons, sum_by-append}
use Rattle.pp_graph.specs.declared.node.Kind.{Kind}
use Rattle.pp_graph.specs.declared.node.Kind.TheVariants as placed
use Rattle.pp_rules.specs.declared.call.NamedEdge.{NamedEdge}
use Rattle.pp_rules.specs.declared.call.NamedEdge.TheVariants as edge
use Rattle.pp_rules.specs.declared.call.BuilderCall.{BuilderCall}
use Rattle.pp_rules.specs.declared.call.BuilderCall.TheVariants as call
use Rattle.pp_rules.specs.declared.rules.GraphRule.{GraphRule}
use Rattle.pp_rules.specs.declared.rules.GraphRule.TheVariants.{DuplicateName, UnknownName, NoEntry, NoOtherwise, KeyClash, PrefixGap, ValueTarget, ValueTooWide, EmptyKey, KeyNotFolded, TooMany}
use Rattle.pp_rules.specs.Keys.{has_gap}
use Rattle.pp_graph.specs.Plan.{Plan, IsWellFormed}
use Rattle.pp_rules.specs.Calls.{own_calls, since_node}
use Rattle.pp_rules.specs.Edges.{edge_of, edges_of, keys_of, key_of_edge}
use Rattle.pp_rules.specs.Rules.{KeepsRules, Keeps, fails, fails_at_call, fails_at_end}
use Rattle.pp_rules.specs.Rules.Otherwise.{lacks_otherwise, needs_otherwise, is_otherwise}
use Rattle.pp_rules.specs.Rules.Clash.{edges_clash, is_clash}
use Rattle.pp_rules.specs.Rules.SortedKeys.{is_gap, gaps_with}
use Rattle.pp_rules.specs.Rules.Form.{is_lower, lower_kind, is_not_folded, has_upper_case}
use Rattle.pp_rules.specs.Rules.Limits.{passes_limit, edge_passes_limit, weight_of_call}
use Rattle.pp_graph.proofs.TableLemmas.{Each}
use Rattle.pp_graph.proofs.EachLemmas.{each-map, each-both, and_false}
use Rattle.pp_text.specs.Telling.{calls_of, edge_calls, key_call, peek_call, answer_call, other_call, else_call, named_kind}
use Rattle.pp_text.proofs.ListLemmas.{AtEach, parted, each-middle, each-front, any-fails, any-push}
use Rattle.pp_text.proofs.NameLemmas.{not_over}
use Rattle.pp_text.proofs.SuitLemmas.{Suits, calls-suit}
use Rattle.pp_text.proofs.PlaceLemmas.{IsPlaced, InPlace, each-in_place}
use Rattle.pp_text.proofs.OwnLemmas.{edges-of_kind, keys_in, keys-of_kind, Apart, IsFolded, edges-folded, Gapless, keys-gapless, keys-few, IsShort, edges-short}
use Rattle.pp_text.proofs.FollowLemmas.{edge-is, edges-before}
use Rattle.pp_text.proofs.WeightLemmas.{calls-light}
use Rattle.pp_text.proofs.UniqueLemmas.{no-duplicate, entry-there, prop-room, host-room, span-room, node-room, not_reached}

-- the keys of calls around one that adds a key
keys_of-around : (before after : List BuilderCall) (bytes : List ℕ) (number : Option ℕ) (target : List ℕ) → keys_of (before ++ call.Edge (edge.Key bytes number) target ∷ after) ≡ keys_of before ++ bytes ∷ keys_of after
keys_of-around before after bytes number target =
    ap (filter_map key_of_edge) (filter_map-append edge_of before (call.Edge (edge.Key bytes number) target ∷ after)) ∙ filter_map-append key_of_edge (filter_map edge_of before) (edge.Key bytes number ∷ filter_map edge_of after)

-- a rule that fails at no call and not at the end is kept
keeps-step : (rule : GraphRule) (calls : List BuilderCall) (i : ℕ) (o : Option BuilderCall) → slice_get calls i ≡ o → fails_at_end rule calls ≡ false → AtEach (λ before c after. fails rule calls before c after ≡ false) calls → fails_at_call rule calls i o ≡ false
keeps-step rule calls i none e h s = ap (λ b. i == length calls && b) h ∙ and_false (i == length calls)
keeps-step rule calls i (Some c) e h s = s (take i calls) c (drop (suc i) calls) (parted calls i c e)

keeps-from : (rule : GraphRule) (calls : List BuilderCall) → fails_at_end rule calls ≡ false → AtEach (λ before c after. fails rule calls before c after ≡ false) calls → Keeps calls rule
keeps-from rule calls h s = λ i t. false≢true (sym (keeps-step rule calls i (slice_get calls i) refl h s) ∙ t)

-- each node but an error has an otherwise
ends-so : (xs : List BuilderCall) (c : BuilderCall) → is_otherwise c ≡ true → not (list_any is_otherwise (xs ++ c ∷ [])) ≡ false
ends-so xs c h =
    ap not (any-push is_otherwise xs c ∙ ap (λ b. list_any is_otherwise xs || (b || false)) h ∙ or-true (list_any is_otherwise xs))

closed-kind : (g : Plan) (k : Kind) → (needs_otherwise (named_kind g k) && not (list_any is_otherwise (edge_calls g k))) ≡ false
closed-kind g (placed.Match fold keys peeks other) = ends-so (map (key_call g) keys ++ map (peek_call g) peeks) (other_call g other) refl
closed-kind g (placed.Invoke what answers other) = ends-so (map (answer_call g) answers) (else_call g other) refl
closed-kind g (placed.Consume prop next) = refl
closed-kind g (placed.SpanOpen span next) = refl
closed-kind g (placed.SpanClose span next) = refl
closed-kind g (placed.Pause number reason next) = refl
closed-kind g (placed.Fail number reason) = refl

closed-at : (g : Plan) (before : List BuilderCall) (c : BuilderCall) (after : List BuilderCall) → InPlace g before c after → lacks_otherwise c after ≡ false
closed-at g before (call.Prop name width) after p = refl
closed-at g before (call.Host name value) after p = refl
closed-at g before (call.Span name) after p = refl
closed-at g before (call.Entry node) after p = refl
closed-at g before (call.Finish prop host) after p = refl
closed-at g before (call.Node name what) after p =
    ap₂ (λ w own. needs_otherwise w && not (list_any is_otherwise own)) p.1 p.2 ∙ closed-kind g p.0
closed-at g before (call.Edge when target) after p = refl

-- no earlier edge of the node clashes
clear-at : (g : Plan) (before : List BuilderCall) (c : BuilderCall) (after : List BuilderCall) → InPlace g before c after → is_clash before c ≡ false
clear-at g before (call.Prop name width) after p = refl
clear-at g before (call.Host name value) after p = refl
clear-at g before (call.Span name) after p = refl
clear-at g before (call.Entry node) after p = refl
clear-at g before (call.Finish prop host) after p = refl
clear-at g before (call.Node name what) after p = refl
clear-at g before (call.Edge when target) after p =
    any-fails (λ e. edges_clash e when) (edges_of before) (each-map (λ e. Apart e when) (λ e. edges_clash e when ≡ false) (edges_of before) (λ e a. a.1) (edges-before g before when target after p))

-- no upper case where bytes are folded
folded-at : (g : Plan) (before : List BuilderCall) (c : BuilderCall) (after : List BuilderCall) → InPlace g before c after → is_not_folded before c ≡ false
folded-at g before (call.Prop name width) after p = and_false (is_lower before)
folded-at g before (call.Host name value) after p = and_false (is_lower before)
folded-at g before (call.Span name) after p = and_false (is_lower before)
folded-at g before (call.Entry node) after p = and_false (is_lower before)
folded-at g before (call.Finish prop host) after p = and_false (is_lower before)
folded-at g before (call.Node name what) after p = and_false (is_lower before)
folded-at g before (call.Edge when target) after p =
    ap (λ b. b && has_upper_case (Some when)) p.lower ∙ edge-is (IsFolded (lower_kind (named_kind g p.kind))) g before when target after p (edges-folded g p.kind p.fits)

-- the keys of the node: those before, this one, those behind
keys-parted : (g : Plan) (before : List BuilderCall) (bytes : List ℕ) (number : Option ℕ) (target : List ℕ) (after : List BuilderCall) (p : IsPlaced g before (call.Edge (edge.Key bytes number) target) after) → keys_in p.kind ≡ keys_of (since_node before) ++ bytes ∷ keys_of (own_calls after)
keys-parted g before bytes number target after p =
    sym (keys-of_kind p.kind) ∙ ap (filter_map key_of_edge) (sym (edges-of_kind g p.kind)) ∙ ap keys_of (sym p.own) ∙ keys_of-around (since_node before) (own_calls after) bytes number target

-- no gap
gaps-none : (keys earlier later : List (List ℕ)) (bytes : List ℕ) → Each (λ short. Each (Gapless keys short) (earlier ++ bytes ∷ later)) (earlier ++ bytes ∷ later) → gaps_with keys earlier bytes ≡ false
gaps-none keys earlier later bytes s =
    let whole = earlier ++ bytes ∷ later in
    let onto : Each (λ k. Gapless keys k bytes) earlier = each-map (λ k. Each (Gapless keys k) whole) (λ k. Gapless keys k bytes) earlier (λ k t. each-middle (Gapless keys k) earlier bytes later t) (each-front (λ k. Each (Gapless keys k) whole) earlier (bytes ∷ later) s) in
    let from : Each (Gapless keys bytes) earlier = each-front (Gapless keys bytes) earlier (bytes ∷ later) (each-middle (λ k. Each (Gapless keys k) whole) earlier bytes later s) in
    any-fails (λ k. has_gap keys k bytes || has_gap keys bytes k) earlier
    (each-both (λ k. Gapless keys k bytes) (Gapless keys bytes) (λ k. (has_gap keys k bytes || has_gap keys bytes k) ≡ false) earlier (λ k a b. ap₂ ◌||◌ a b) onto from)

edge-gapless : (g : Plan) (before : List BuilderCall) (when : NamedEdge) (target : List ℕ) (after : List BuilderCall) → IsPlaced g before (call.Edge when target) after → is_gap before (call.Edge when target) after ≡ false
edge-gapless g before (edge.Key bytes number) target after p =
    let earlier = keys_of (since_node before) in
    let later = keys_of (own_calls after) in
    let whole = earlier ++ bytes ∷ later in
    let around : keys_of (since_node before ++ call.Edge (edge.Key bytes number) target ∷ own_calls after) ≡ whole = keys_of-around (since_node before) (own_calls after) bytes number target in
    let gapless : Each (λ short. Each (Gapless whole short) whole) whole = subst (λ ks. Each (λ short. Each (Gapless ks short) ks) ks) (keys-parted g before bytes number target after p) (keys-gapless g p.kind p.fits) in
    ap (λ ks. gaps_with ks earlier bytes) around ∙ gaps-none whole earlier later bytes gapless
edge-gapless g before (edge.Peek byte) target after p = refl
edge-gapless g before (edge.Answer number) target after p = refl
edge-gapless g before (edge.Otherwise skip) target after p = refl

gapless-at : (g : Plan) (before : List BuilderCall) (c : BuilderCall) (after : List BuilderCall) → InPlace g before c after → is_gap before c after ≡ false
gapless-at g before (call.Prop name width) after p = refl
gapless-at g before (call.Host name value) after p = refl
gapless-at g before (call.Span name) after p = refl
gapless-at g before (call.Entry node) after p = refl
gapless-at g before (call.Finish prop host) after p = refl
gapless-at g before (call.Node name what) after p = refl
gapless-at g before (call.Edge when target) after p = edge-gapless g before when target after p

-- no limit is passed
weight-at : (g : Plan) → IsWellFormed g → (before : List BuilderCall) (c : BuilderCall) (after : List BuilderCall) → calls_of g ≡ before ++ c ∷ after → sum_by weight_of_call before + weight_of_call c ≤ 20000
weight-at g w before c after e =
    omega (arith, calls-light g w, ap (sum_by weight_of_call) e, sum_by-append weight_of_call before (c ∷ after), sum_by-cons weight_of_call c after)

key-room : (g : Plan) (before : List BuilderCall) (bytes : List ℕ) (number : Option ℕ) (target : List ℕ) (after : List BuilderCall) → IsPlaced g before (call.Edge (edge.Key bytes number) target) after → length (keys_of (since_node before)) < 2048
key-room g before bytes number target after p =
    let earlier = keys_of (since_node before) in
    let later = keys_of (own_calls after) in
    omega (arith, keys-few g p.kind p.fits, ap length (keys-parted g before bytes number target after p), length-append earlier (bytes ∷ later))

three-fail : (a b c : Bool) → a ≡ false → b ≡ false → c ≡ false → (a || b || c) ≡ false
three-fail true b c p q r = p
three-fail false true c p q r = q
three-fail false false c p q r = r

edge-within : (g : Plan) → IsWellFormed g → (before : List BuilderCall) (when : NamedEdge) (target : List ℕ) (after : List BuilderCall) → calls_of g ≡ before ++ call.Edge when target ∷ after → IsPlaced g before (call.Edge when target) after → edge_passes_limit before when ≡ false
edge-within g w before (edge.Key bytes number) target after e p =
    let c = call.Edge (edge.Key bytes number) target in
    three-fail (nat_lt 64 (length bytes)) (nat_le 2048 (length (keys_of (since_node before)))) (nat_lt 20000 (sum_by weight_of_call before + length bytes))
    (not_over 64 (length bytes) (edge-is IsShort g before (edge.Key bytes number) target after p (edges-short g p.kind p.fits)))
    (not_reached 2048 (length (keys_of (since_node before))) (key-room g before bytes number target after p))
    (not_over 20000 (sum_by weight_of_call before + length bytes) (weight-at g w before c after e))
edge-within g w before (edge.Peek byte) target after e p =
    not_reached 20000 (sum_by weight_of_call before) (omega (arith, weight-at g w before (call.Edge (edge.Peek byte) target) after e))
edge-within g w before (edge.Answer number) target after e p =
    not_reached 20000 (sum_by weight_of_call before) (omega (arith, weight-at g w before (call.Edge (edge.Answer number) target) after e))
edge-within g w before (edge.Otherwise skip) target after e p = refl

within-at : (g : Plan) → IsWellFormed g → (before : List BuilderCall) (c : BuilderCall) (after : List BuilderCall) → calls_of g ≡ before ++ c ∷ after → InPlace g before c after → passes_limit before c ≡ false
within-at g w before (call.Prop name width) after e p = prop-room g w before (call.Prop name width) after e refl
within-at g w before (call.Host name value) after e p = host-room g w before (call.Host name value) after e refl
within-at g w before (call.Span name) after e p = span-room g w before (call.Span name) after e refl
within-at g w before (call.Entry node) after e p = refl
within-at g w before (call.Finish prop host) after e p = refl
within-at g w before (call.Node name what) after e p = node-room g w before (call.Node name what) after e refl
within-at g w before (call.Edge when target) after e p = edge-within g w before when target after e p

-- what each call is by itself
suits-at : (g : Plan) → IsWellFormed g → (before : List BuilderCall) (c : BuilderCall) (after : List BuilderCall) → calls_of g ≡ before ++ c ∷ after → Suits (calls_of g) c
suits-at g w before c after e =
    each-middle (Suits (calls_of g)) before c after (subst (Each (Suits (calls_of g))) e (calls-suit g w))

-- the calls that tell a graph keep the rules
pub calls-keep : (g : Plan) → IsWellFormed g → KeepsRules (calls_of g)
calls-keep g w DuplicateName = keeps-from DuplicateName (calls_of g) refl (no-duplicate g w)
calls-keep g w UnknownName = keeps-from UnknownName (calls_of g) refl (λ before c after e. (suits-at g w before c after e).known)
calls-keep g w NoEntry = keeps-from NoEntry (calls_of g) (ap not (entry-there g)) (λ before c after e. refl)
calls-keep g w NoOtherwise = keeps-from NoOtherwise (calls_of g) refl (λ before c after e. closed-at g before c after (each-in_place g w before c after e))
calls-keep g w KeyClash = keeps-from KeyClash (calls_of g) refl (λ before c after e. clear-at g before c after (each-in_place g w before c after e))
calls-keep g w PrefixGap = keeps-from PrefixGap (calls_of g) refl (λ before c after e. gapless-at g before c after (each-in_place g w before c after e))
calls-keep g w ValueTarget = keeps-from ValueTarget (calls_of g) refl (λ before c after e. (suits-at g w before c after e).valued)
calls-keep g w ValueTooWide = keeps-from ValueTooWide (calls_of g) refl (λ before c after e. (suits-at g w before c after e).wide)
calls-keep g w EmptyKey = keeps-from EmptyKey (calls_of g) refl (λ before c after e. (suits-at g w before c after e).filled)
calls-keep g w KeyNotFolded = keeps-from KeyNotFolded (calls_of g) refl (λ before c after e. folded-at g before c after (each-in_place g w before c after e))
calls-keep g w TooMany = keeps-from TooMany (calls_of g) refl (λ before c after e. within-at g w before c after e (each-in_place g w before c after e))
