-- The edges of one node: they differ, leave no gap, are few, and each is in order.
use Rattle.std.proofs.Common.{◌≡◌, ◌≢◌, ℕ, ◌<◌, ◌≤◌, List, [], ◌∷◌, ◌++◌, Bool, true, false, ◌&&◌, ◌||◌, ◌==◌, nat_lt, length, map, slice_get, filter_map, Option, Some, IfSome, option_map, option_and_then, refl, ap, sym, ◌∙◌, subst, arith, append_assoc}
use Rattle.std.specs.Prelude.{None as none}
use Rattle.std.specs.List.{cons_option, starts_with}
use Rattle.std.proofs.lemmas.Bool.{false≢true}
use Rattle.std.proofs.lemmas.Bool.Decides.{nat_tests}
use Rattle.std.proofs.lemmas.List.{append-nil, length_push, length-map}
use Rattle.std.proofs.lemmas.List.Elements.{filter_map-append}
use Rattle.std.proofs.lemmas.List.Sums.{fold_push}
use Rattle.std.proofs.lemmas.Slice.Eq.{bytes_eq-Decides}
use Rattle.pp_graph.specs.declared.node.Key.{Key}
use Rattle.pp_graph.specs.declared.node.Peek.{Peek}
use Rattle.pp_graph.specs.declared.node.Answer.{Answer}
use Rattle.pp_rules.specs.declared.call.NamedKind.{NamedKind}
use Rattle.pp_rules.specs.declared.call.NamedEdge.{NamedEdge}
use Rattle.pp_rules.specs.declared.call.NamedEdge.TheVariants as edge
use Rattle.pp_rules.specs.declared.call.BuilderCall.{BuilderCall}
use Rattle.pp_rules.specs.declared.call.BuilderCall.TheVariants as call
use Rattle.pp_rules.specs.Keys.{has_gap}
use Rattle.pp_graph.specs.Plan.{AreDistinct, key_bytes}
use Rattle.pp_rules.specs.Calls.{own_calls, since_node, since_after}
use Rattle.pp_rules.specs.Declarations.{Tables}
use Rattle.pp_graph.specs.Built.{key_edge, peek_edge, answer_edge}
use Rattle.pp_rules.specs.Edges.{edge_of, key_of_edge, keys_of}
use Rattle.pp_rules.specs.Rules.Clash.{edges_clash, clashes_with_any, begins_with_byte}
use Rattle.pp_rules.specs.Rules.SortedKeys.{gaps_with_any}
use Rattle.pp_rules.specs.Rules.Form.{has_upper_case, is_lower, lower_kind, lower_after, is_empty_key}
use Rattle.pp_rules.specs.Rules.Numbers.{is_value_fault, is_too_wide}
use Rattle.pp_rules.specs.Rules.Names.{names_unknown}
use Rattle.pp_rules.specs.Rules.Limits.{passes_limit}
use Rattle.pp_graph.proofs.TableLemmas.{Each, each-at}
use Rattle.pp_graph.proofs.EachLemmas.{Pairs, pairs-push, pairs-all, pairs-filter_map, each-fails, each-filter_map, each-from_map, map-filter_map, filter_map-twice, distinct-from_pairs}
use Rattle.pp_rules.proofs.ListLemmas.{or_false_left, or_false_right}
use Rattle.pp_graph.proofs.SoundLemmas.{IsSound, AreSound, below_from, within_from}

-- the key of a call, if it adds one
abbrev pub key_of_call : BuilderCall → Option (List ℕ)
key_of_call c = option_and_then key_of_edge (edge_of c)

-- what the rules say at a call that belongs to a node, with all the calls that do and those of them before it
pub record IsOwn (all own : List BuilderCall) (lower : Bool) (seen : List BuilderCall) (c : BuilderCall) : Type 0 where
  pub known : names_unknown all c ≡ false
  pub clear : clashes_with_any (filter_map edge_of seen) (edge_of c) ≡ false
  pub gapless : gaps_with_any (keys_of own) (keys_of seen) (edge_of c) ≡ false
  pub valued : is_value_fault all c ≡ false
  pub wide : is_too_wide all c ≡ false
  pub filled : is_empty_key (edge_of c) ≡ false
  pub folded : (lower && has_upper_case (edge_of c)) ≡ false
  pub short : IfSome (key_of_call c) (λ k. length k ≤ 64)
  pub room : IfSome (key_of_call c) (λ k. length (keys_of seen) < 2048)

abbrev pub AreOwn : List BuilderCall → List BuilderCall → Bool → List BuilderCall → List BuilderCall → Type 0
AreOwn all own lower seen [] = Unit {0}
AreOwn all own lower seen (c ∷ calls) = IsOwn all own lower seen c × AreOwn all own lower (seen ++ c ∷ []) calls

own-short : (before : List BuilderCall) (c : BuilderCall) → passes_limit before c ≡ false → IfSome (key_of_call c) (λ k. length k ≤ 64)
own-short before (call.Edge (edge.Key bytes number) target) h =
    within_from 64 (length bytes) (or_false_left _ _ (or_false_left _ _ h))
own-short before c h = tt

own-room : (before : List BuilderCall) (c : BuilderCall) → passes_limit before c ≡ false → IfSome (key_of_call c) (λ k. length (keys_of (since_node before)) < 2048)
own-room before (call.Edge (edge.Key bytes number) target) h =
    below_from 2048 (length (keys_of (since_node before))) (or_false_right (nat_lt 64 (length bytes)) _ (or_false_left _ _ h))
own-room before c h = tt

own-at : (all own before : List BuilderCall) (c : BuilderCall) (after : List BuilderCall) → since_node before ++ c ∷ own_calls after ≡ own → IsSound all before c after → IsOwn all own (is_lower before) (since_node before) c
own-at all own before c after e s = record {
  known = s.known;
  clear = s.clear;
  gapless = subst (λ cs. gaps_with_any (keys_of cs) (keys_of (since_node before)) (edge_of c) ≡ false) e s.gapless;
  valued = s.valued;
  wide = s.wide;
  filled = s.filled;
  folded = s.folded;
  short = own-short before c s.within;
  room = own-room before c s.within;
}

-- one more call that belongs to the node
own-joined : (own before : List BuilderCall) (c : BuilderCall) (after : List BuilderCall) → since_after (since_node before) c ≡ since_node before ++ c ∷ [] → since_node before ++ c ∷ own_calls after ≡ own → since_node (before ++ c ∷ []) ++ own_calls after ≡ own
own-joined own before c after same e =
    ap (λ cs. cs ++ own_calls after) (fold_push since_after [] before c ∙ same) ∙ append_assoc (since_node before) (c ∷ []) (own_calls after) ∙ e

own-step : (all own before : List BuilderCall) (c : BuilderCall) (after : List BuilderCall) → since_after (since_node before) c ≡ since_node before ++ c ∷ [] → lower_after (is_lower before) c ≡ is_lower before → AreOwn all own (is_lower (before ++ c ∷ [])) (since_node (before ++ c ∷ [])) (own_calls after) → AreOwn all own (is_lower before) (since_node before ++ c ∷ []) (own_calls after)
own-step all own before c after same low s =
    let P : List BuilderCall → Type 0 = λ cs. AreOwn all own (is_lower (before ++ c ∷ [])) cs (own_calls after) in
    let Q : Bool → Type 0 = λ b. AreOwn all own b (since_node before ++ c ∷ []) (own_calls after) in
    subst Q (fold_push lower_after false before c ∙ low) (subst P (fold_push since_after [] before c ∙ same) s)

pub own-sound : (all own before after : List BuilderCall) → since_node before ++ own_calls after ≡ own → AreSound all before after → AreOwn all own (is_lower before) (since_node before) (own_calls after)
own-sound all own before [] e s = tt
own-sound all own before (call.Prop name width ∷ after) e s =
    let c = call.Prop name width in
    (own-at all own before c after e s.0, own-step all own before c after refl refl (own-sound all own (before ++ c ∷ []) after (own-joined own before c after refl e) s.1))
own-sound all own before (call.Host name value ∷ after) e s =
    let c = call.Host name value in
    (own-at all own before c after e s.0, own-step all own before c after refl refl (own-sound all own (before ++ c ∷ []) after (own-joined own before c after refl e) s.1))
own-sound all own before (call.Span name ∷ after) e s =
    let c = call.Span name in
    (own-at all own before c after e s.0, own-step all own before c after refl refl (own-sound all own (before ++ c ∷ []) after (own-joined own before c after refl e) s.1))
own-sound all own before (call.Entry node ∷ after) e s =
    let c = call.Entry node in
    (own-at all own before c after e s.0, own-step all own before c after refl refl (own-sound all own (before ++ c ∷ []) after (own-joined own before c after refl e) s.1))
own-sound all own before (call.Finish prop host ∷ after) e s =
    let c = call.Finish prop host in
    (own-at all own before c after e s.0, own-step all own before c after refl refl (own-sound all own (before ++ c ∷ []) after (own-joined own before c after refl e) s.1))
own-sound all own before (call.Node name what ∷ after) e s = tt
own-sound all own before (call.Edge when target ∷ after) e s =
    let c = call.Edge when target in
    (own-at all own before c after e s.0, own-step all own before c after refl refl (own-sound all own (before ++ c ∷ []) after (own-joined own before c after refl e) s.1))

-- those of the node that was just added
pub node-own : (all before : List BuilderCall) (name : List ℕ) (what : NamedKind) (after : List BuilderCall) → AreSound all (before ++ call.Node name what ∷ []) after → AreOwn all (own_calls after) (lower_kind what) [] (own_calls after)
node-own all before name what after s =
    let c = call.Node name what in
    let empty : since_node (before ++ c ∷ []) ≡ [] = fold_push since_after [] before c in
    let low : is_lower (before ++ c ∷ []) ≡ lower_kind what = fold_push lower_after false before c in
    let own = own_calls after in
    let P : List BuilderCall → Type 0 = λ cs. AreOwn all own (is_lower (before ++ c ∷ [])) cs own in
    let Q : Bool → Type 0 = λ b. AreOwn all own b [] own in
    subst Q low (subst P empty (own-sound all own (before ++ c ∷ []) after (ap (λ cs. cs ++ own) empty) s))

-- what each such call keeps holds of all
own-along : (P : List BuilderCall → Type 0) (all own : List BuilderCall) (lower : Bool) (seen calls : List BuilderCall) → AreOwn all own lower seen calls → ((front : List BuilderCall) (c : BuilderCall) → IsOwn all own lower front c → P front → P (front ++ c ∷ [])) → P seen → P (seen ++ calls)
own-along P all own lower seen [] s step p = subst P (sym (append-nil seen)) p
own-along P all own lower seen (c ∷ calls) s step p =
    subst P (append_assoc seen (c ∷ []) calls) (own-along P all own lower (seen ++ c ∷ []) calls s.1 step (step seen c s.0 p))

pub own-each : (P : BuilderCall → Type 0) (all own : List BuilderCall) (lower : Bool) (seen calls : List BuilderCall) → ((front : List BuilderCall) (c : BuilderCall) → IsOwn all own lower front c → P c) → AreOwn all own lower seen calls → Each P calls
own-each P all own lower seen [] f s = tt
own-each P all own lower seen (c ∷ calls) f s = (f seen c s.0, own-each P all own lower (seen ++ c ∷ []) calls f s.1)

-- no two edges clash
abbrev Clear : NamedEdge → NamedEdge → Type 0
Clear e f = edges_clash e f ≡ false

clear-step : (seen : List NamedEdge) (o : Option NamedEdge) → clashes_with_any seen o ≡ false → Pairs Clear seen → Pairs Clear (seen ++ cons_option o [])
clear-step seen none h p = rw (append-nil seen) p
clear-step seen (Some f) h p = pairs-push Clear seen f p (each-fails (λ e. edges_clash e f) seen h)

pub own-clear : (all own : List BuilderCall) (lower : Bool) → AreOwn all own lower [] own → Pairs Clear (filter_map edge_of own)
own-clear all own lower s =
    own-along (λ cs. Pairs Clear (filter_map edge_of cs)) all own lower [] own s
    (λ front c h p. rw (filter_map-append edge_of front (c ∷ [])) (clear-step (filter_map edge_of front) (edge_of c) h.clear p)) tt

-- no two keys leave a gap
keys_of-calls : (calls : List BuilderCall) → keys_of calls ≡ filter_map key_of_call calls
keys_of-calls calls = filter_map-twice key_of_edge edge_of key_of_call calls (λ c. refl)

keys_of-push : (front : List BuilderCall) (c : BuilderCall) → keys_of (front ++ c ∷ []) ≡ keys_of front ++ cons_option (key_of_call c) []
keys_of-push front c =
    keys_of-calls (front ++ c ∷ []) ∙ filter_map-append key_of_call front (c ∷ []) ∙ ap (λ ks. ks ++ cons_option (key_of_call c) []) (sym (keys_of-calls front))

abbrev GapFree : List (List ℕ) → List ℕ → List ℕ → Type 0
GapFree keys k l = (has_gap keys k l || has_gap keys l k) ≡ false

gap-step : (keys seen : List (List ℕ)) (o : Option NamedEdge) → gaps_with_any keys seen o ≡ false → Pairs (GapFree keys) seen → Pairs (GapFree keys) (seen ++ cons_option (option_and_then key_of_edge o) [])
gap-step keys seen none h p = rw (append-nil seen) p
gap-step keys seen (Some (edge.Key bytes number)) h p =
    pairs-push (GapFree keys) seen bytes p (each-fails (λ k. has_gap keys k bytes || has_gap keys bytes k) seen h)
gap-step keys seen (Some (edge.Peek byte)) h p = rw (append-nil seen) p
gap-step keys seen (Some (edge.Answer number)) h p = rw (append-nil seen) p
gap-step keys seen (Some (edge.Otherwise skip)) h p = rw (append-nil seen) p

own-gapless : (all own : List BuilderCall) (lower : Bool) → AreOwn all own lower [] own → Pairs (GapFree (keys_of own)) (keys_of own)
own-gapless all own lower s =
    own-along (λ cs. Pairs (GapFree (keys_of own)) (keys_of cs)) all own lower [] own s
    (λ front c h p. subst (Pairs (GapFree (keys_of own))) (sym (keys_of-push front c)) (gap-step (keys_of own) (keys_of front) (edge_of c) h.gapless p)) tt

-- the keys are few
few-step : (seen : List (List ℕ)) (o : Option (List ℕ)) → IfSome o (λ k. length seen < 2048) → length seen ≤ 2048 → length (seen ++ cons_option o []) ≤ 2048
few-step seen none r h = rw (append-nil seen) h
few-step seen (Some k) r h = omega (arith, length_push seen k)

own-few : (all own : List BuilderCall) (lower : Bool) → AreOwn all own lower [] own → length (keys_of own) ≤ 2048
own-few all own lower s =
    own-along (λ cs. length (keys_of cs) ≤ 2048) all own lower [] own s
    (λ front c h p. subst (λ (ks : List (List ℕ)). length ks ≤ 2048) (sym (keys_of-push front c)) (few-step (keys_of front) (key_of_call c) h.room p)) (omega arith)

-- edges as the graph has them
bytes-key : (t : Tables) (c : BuilderCall) → option_map (λ (k : Key). k.bytes) (key_edge t c) ≡ key_of_call c
bytes-key t (call.Edge (edge.Key bytes number) target) = refl
bytes-key t c = refl

keys-bytes : (t : Tables) (own : List BuilderCall) → key_bytes (filter_map (key_edge t) own) ≡ keys_of own
keys-bytes t own = map-filter_map (λ (k : Key). k.bytes) (key_edge t) key_of_call own (bytes-key t) ∙ sym (keys_of-calls own)

abbrev peek_of_edge : NamedEdge → Option ℕ
peek_of_edge (edge.Key bytes number) = none
peek_of_edge (edge.Peek byte) = Some byte
peek_of_edge (edge.Answer number) = none
peek_of_edge (edge.Otherwise skip) = none

abbrev peek_of_call : BuilderCall → Option ℕ
peek_of_call c = option_and_then peek_of_edge (edge_of c)

byte-peek : (t : Tables) (c : BuilderCall) → option_map (λ (p : Peek). p.byte) (peek_edge t c) ≡ peek_of_call c
byte-peek t (call.Edge (edge.Peek byte) target) = refl
byte-peek t c = refl

peeks-bytes : (t : Tables) (own : List BuilderCall) → map (λ (p : Peek). p.byte) (filter_map (peek_edge t) own) ≡ filter_map peek_of_edge (filter_map edge_of own)
peeks-bytes t own =
    map-filter_map (λ (p : Peek). p.byte) (peek_edge t) peek_of_call own (byte-peek t) ∙ sym (filter_map-twice peek_of_edge edge_of peek_of_call own (λ c. refl))

abbrev answer_of_edge : NamedEdge → Option ℕ
answer_of_edge (edge.Key bytes number) = none
answer_of_edge (edge.Peek byte) = none
answer_of_edge (edge.Answer number) = Some number
answer_of_edge (edge.Otherwise skip) = none

abbrev answer_of_call : BuilderCall → Option ℕ
answer_of_call c = option_and_then answer_of_edge (edge_of c)

number-answer : (t : Tables) (c : BuilderCall) → option_map (λ (a : Answer). a.number) (answer_edge t c) ≡ answer_of_call c
number-answer t (call.Edge (edge.Answer number) target) = refl
number-answer t c = refl

answers-numbers : (t : Tables) (own : List BuilderCall) → map (λ (a : Answer). a.number) (filter_map (answer_edge t) own) ≡ filter_map answer_of_edge (filter_map edge_of own)
answers-numbers t own =
    map-filter_map (λ (a : Answer). a.number) (answer_edge t) answer_of_call own (number-answer t) ∙ sym (filter_map-twice answer_of_edge edge_of answer_of_call own (λ c. refl))

-- edges that do not clash differ
differ : (a b : ℕ) → (a == b) ≡ false → a ≢ b
differ a b h = grind (arith, nat_tests)

clear-keys : (e f : NamedEdge) → Clear e f → IfSome (key_of_edge e) (λ a. IfSome (key_of_edge f) (λ b. a ≢ b))
clear-keys (edge.Key bytes number) (edge.Key other n) h = λ e. false≢true (sym h ∙ (bytes_eq-Decides bytes other).1 e)
clear-keys e f h = tt

clear-peeks : (e f : NamedEdge) → Clear e f → IfSome (peek_of_edge e) (λ a. IfSome (peek_of_edge f) (λ b. a ≢ b))
clear-peeks (edge.Peek byte) (edge.Peek other) h = differ byte other h
clear-peeks e f h = tt

clear-answers : (e f : NamedEdge) → Clear e f → IfSome (answer_of_edge e) (λ a. IfSome (answer_of_edge f) (λ b. a ≢ b))
clear-answers (edge.Answer number) (edge.Answer other) h = differ number other h
clear-answers e f h = tt

pub keys-distinct : (t : Tables) (all own : List BuilderCall) (lower : Bool) → AreOwn all own lower [] own → AreDistinct (key_bytes (filter_map (key_edge t) own))
keys-distinct t all own lower s =
    subst AreDistinct (sym (keys-bytes t own))
    (distinct-from_pairs (keys_of own) (pairs-filter_map key_of_edge Clear ◌≢◌ (filter_map edge_of own) clear-keys (own-clear all own lower s)))

pub peeks-distinct : (t : Tables) (all own : List BuilderCall) (lower : Bool) → AreOwn all own lower [] own → AreDistinct (map (λ (p : Peek). p.byte) (filter_map (peek_edge t) own))
peeks-distinct t all own lower s =
    subst AreDistinct (sym (peeks-bytes t own))
    (distinct-from_pairs (filter_map peek_of_edge (filter_map edge_of own)) (pairs-filter_map peek_of_edge Clear ◌≢◌ (filter_map edge_of own) clear-peeks (own-clear all own lower s)))

pub answers-distinct : (t : Tables) (all own : List BuilderCall) (lower : Bool) → AreOwn all own lower [] own → AreDistinct (map (λ (a : Answer). a.number) (filter_map (answer_edge t) own))
answers-distinct t all own lower s =
    subst AreDistinct (sym (answers-numbers t own))
    (distinct-from_pairs (filter_map answer_of_edge (filter_map edge_of own)) (pairs-filter_map answer_of_edge Clear ◌≢◌ (filter_map edge_of own) clear-answers (own-clear all own lower s)))

-- no prefix that a key has of another leaves a gap
middle-false : (a b c : Bool) → b ≡ false → (a && b && c) ≡ false
middle-false true true c h = absurd (false≢true (sym h))
middle-false true false c h = refl
middle-false false b c h = refl

gap-self : (keys : List (List ℕ)) (k : List ℕ) → has_gap keys k k ≡ false
gap-self keys k =
    let same : nat_lt (length k) (length k) ≡ false = grind (arith, nat_tests) in
    middle-false (starts_with ◌==◌ k k) _ _ same

pub keys-gapless : (t : Tables) (all own : List BuilderCall) (lower : Bool) → AreOwn all own lower [] own → (short long : Key) (i j : ℕ) → slice_get (filter_map (key_edge t) own) i ≡ Some short → slice_get (filter_map (key_edge t) own) j ≡ Some long → has_gap (key_bytes (filter_map (key_edge t) own)) short.bytes long.bytes ≡ false
keys-gapless t all own lower s short long i j a b =
    let keys = filter_map (key_edge t) own in
    let bytes = key_bytes keys in
    let S : List ℕ → List ℕ → Type 0 = λ k l. has_gap bytes k l ≡ false in
    let pairs : Pairs (GapFree bytes) bytes = subst (λ ks. Pairs (GapFree ks) ks) (sym (keys-bytes t own)) (own-gapless all own lower s) in
    let any : Each (λ k. Each (S k) bytes) bytes = pairs-all (GapFree bytes) S bytes (λ k l h. (or_false_left _ _ h, or_false_right (has_gap bytes k l) _ h)) (gap-self bytes) pairs in
    let here : Each (S short.bytes) bytes = each-at (λ (k : Key). Each (S k.bytes) bytes) keys (each-from_map (λ (k : Key). k.bytes) (λ k. Each (S k) bytes) keys any) i short a in
    each-at (λ (k : Key). S short.bytes k.bytes) keys (each-from_map (λ (k : Key). k.bytes) (S short.bytes) keys here) j long b

pub keys-few : (t : Tables) (all own : List BuilderCall) (lower : Bool) → AreOwn all own lower [] own → length (filter_map (key_edge t) own) ≤ 2048
keys-few t all own lower s =
    let keys = filter_map (key_edge t) own in
    omega (arith, own-few all own lower s, length-map keys (λ (k : Key). k.bytes), ap length (keys-bytes t own))

-- no key begins with a peek byte
abbrev Apart : NamedEdge → NamedEdge → Type 0
Apart (edge.Key bytes number) (edge.Peek byte) = begins_with_byte byte bytes ≡ false
Apart e f = Unit {0}

clear-apart : (e f : NamedEdge) → Clear e f → Apart e f × Apart f e
clear-apart (edge.Key bytes number) (edge.Peek byte) h = (h, tt)
clear-apart (edge.Peek byte) (edge.Key bytes number) h = (tt, h)
clear-apart (edge.Answer number) (edge.Answer other) h = (tt, tt)
clear-apart (edge.Otherwise skip) (edge.Otherwise other) h = (tt, tt)
clear-apart e f h = (tt, tt)

apart-self : (e : NamedEdge) → Apart e e
apart-self (edge.Key bytes number) = tt
apart-self e = tt

apart-peek : (bytes : List ℕ) (number : Option ℕ) (f : NamedEdge) → Apart (edge.Key bytes number) f → IfSome (peek_of_edge f) (λ b. begins_with_byte b bytes ≡ false)
apart-peek bytes number (edge.Peek byte) h = h
apart-peek bytes number f h = tt

apart-key : (edges : List NamedEdge) (e : NamedEdge) → Each (Apart e) edges → IfSome (key_of_edge e) (λ k. Each (λ b. begins_with_byte b k ≡ false) (filter_map peek_of_edge edges))
apart-key edges (edge.Key bytes number) s =
    each-filter_map peek_of_edge (Apart (edge.Key bytes number)) (λ b. begins_with_byte b bytes ≡ false) edges (apart-peek bytes number) s
apart-key edges e s = tt

begins-false : (b : ℕ) (bytes : List ℕ) → begins_with_byte b bytes ≡ false → slice_get bytes 0 ≢ Some b
begins-false b [] h = λ e. absurd cc
begins-false b (c ∷ bytes) h = λ e. let same : c ≡ b = cc in differ b c h (sym same)

pub keys-apart : (t : Tables) (all own : List BuilderCall) (lower : Bool) → AreOwn all own lower [] own → (k : Key) (p : Peek) (i j : ℕ) → slice_get (filter_map (key_edge t) own) i ≡ Some k → slice_get (filter_map (peek_edge t) own) j ≡ Some p → slice_get k.bytes 0 ≢ Some p.byte
keys-apart t all own lower s k p i j a b =
    let keys = filter_map (key_edge t) own in
    let peeks = filter_map (peek_edge t) own in
    let edges = filter_map edge_of own in
    let Q : List ℕ → ℕ → Type 0 = λ bytes x. begins_with_byte x bytes ≡ false in
    let any = pairs-all Clear Apart edges clear-apart apart-self (own-clear all own lower s) in
    let R : List ℕ → List ℕ → Type 0 = λ xs bytes. Each (Q bytes) xs in
    let each : Each (R (filter_map peek_of_edge edges)) (keys_of own) = each-filter_map key_of_edge (λ e. Each (Apart e) edges) (R (filter_map peek_of_edge edges)) edges (apart-key edges) any in
    let moved : Each (R (map (λ (x : Peek). x.byte) peeks)) (key_bytes keys) =
    subst (λ ks. Each (R (map (λ (x : Peek). x.byte) peeks)) ks) (sym (keys-bytes t own))
    (subst (λ xs. Each (R xs) (keys_of own)) (sym (peeks-bytes t own)) each) in
    let here : Each (Q k.bytes) (map (λ (x : Peek). x.byte) peeks) = each-at (λ (x : Key). R (map (λ (y : Peek). y.byte) peeks) x.bytes) keys (each-from_map (λ (x : Key). x.bytes) (R (map (λ (y : Peek). y.byte) peeks)) keys moved) i k a in
    begins-false p.byte k.bytes (each-at (λ (x : Peek). Q k.bytes x.byte) peeks (each-from_map (λ (x : Peek). x.byte) (Q k.bytes) peeks here) j p b)
