-- The printed text of a graph lies within the limit.
use Rattle.std.proofs.Common.{◌≡◌, ℕ, ◌+◌, ◌*◌, ◌/◌, ◌%◌, ◌<◌, ◌≤◌, ◌^◌, List, [], ◌∷◌, ◌++◌, Bool, true, false, ◌&&◌, nat_le, length, map, flat_map, sum_by, Option, Some, refl, ap, arith}
use Rattle.std.specs.Prelude.{codes, decimal, if◌then◌else◌}
use Rattle.std.specs.Prelude.{None as none}
use Rattle.std.specs.List.{list_all}
use Rattle.std.proofs.lemmas.Bool.{and_parts, leb-true}
use Rattle.std.proofs.lemmas.Fmt.{length-decimal-le}
use Rattle.std.proofs.lemmas.List.{length-append}
use Rattle.std.proofs.lemmas.List.Sums.{sum_by-cons, sum_by-append}
use Rattle.pp_bytes.specs.declared.fold.Fold.{Fold}
use Rattle.pp_bytes.specs.declared.fold.Fold.TheVariants.{Same, Lower}
use Rattle.pp_rules.specs.declared.declaration.Width.{Width}
use Rattle.pp_rules.specs.declared.declaration.Width.TheVariants.{W8, W16, W32, W64}
use Rattle.pp_rules.specs.declared.call.Constant.{Constant}
use Rattle.pp_rules.specs.declared.call.Constant.TheVariants as constant
use Rattle.pp_rules.specs.declared.call.NamedCode.{NamedCode}
use Rattle.pp_rules.specs.declared.call.NamedCode.TheVariants as code
use Rattle.pp_rules.specs.declared.call.NamedKind.{NamedKind}
use Rattle.pp_rules.specs.declared.call.NamedKind.TheVariants as kind
use Rattle.pp_rules.specs.declared.call.NamedEdge.TheVariants as edge
use Rattle.pp_rules.specs.declared.call.BuilderCall.{BuilderCall}
use Rattle.pp_rules.specs.declared.call.BuilderCall.TheVariants as call
use Rattle.pp_graph.specs.declared.node.Key.{Key}
use Rattle.pp_graph.specs.declared.node.Kind.{Kind}
use Rattle.pp_graph.specs.declared.node.Kind.TheVariants as placed
use Rattle.pp_graph.specs.declared.node.Node.{Node}
use Rattle.pp_rules.specs.Names.{begins_name, continues_name, is_plain_byte, IsName, IsReason}
use Rattle.pp_graph.specs.Calls.{HasForm, CodeHasForm, KindHasForm}
use Rattle.pp_graph.specs.Plan.{Plan, IsWellFormed, IsKey, FitsIn, weight_of}
use Rattle.pp_graph.proofs.TableLemmas.{Each}
use Rattle.pp_text.specs.Tokens.{Token, Quoted, token_text}
use Rattle.pp_text.specs.Statements.{width_word, constant_word, most_tokens, code_tokens, fold_tokens, kind_tokens, arrow_tokens, carried_tokens, MostFits, CodeFits, KindFits, NumberFits}
use Rattle.pp_text.specs.Text.{limit}
use Rattle.pp_text.specs.Telling.{calls_of, prop_call, host_call, span_call, finish_calls, node_calls, edge_calls, key_call, peek_call, answer_call, other_call, else_call, node_name, named_kind}
use Rattle.pp_text.specs.Printed.{hex_digit, printed_byte, printed_tokens, printed_line, printed, behind_blank, spaced}
use Rattle.pp_text.proofs.ListLemmas.{each-from_is}
use Rattle.pp_text.proofs.ShapeLemmas.{calls_of-parts, ends_calls, nodes_calls}
use Rattle.pp_text.proofs.PrintedTokenLemmas.{CallInRange}
use Rattle.pp_text.proofs.PrintedTextLemmas.{CanBePrinted}

-- how much tokens take, each with a blank
abbrev size : List Token → ℕ
size [] = 0
size (t ∷ ts) = 1 + length (token_text t) + size ts

behind-length : (ts : List Token) → length (flat_map behind_blank ts) ≡ size ts
behind-length [] = refl
behind-length (t ∷ ts) =
    omega (arith, length-append (token_text t) (flat_map behind_blank ts), behind-length ts)

line-length : (ts : List Token) → length (spaced ts ++ 10 ∷ []) ≤ 1 + size ts
line-length [] = omega arith
line-length (t ∷ ts) =
    omega (
      arith,
      length-append (token_text t ++ flat_map behind_blank ts) (10 ∷ []),
      length-append (token_text t) (flat_map behind_blank ts),
      behind-length ts,
    )

size-append : (xs ys : List Token) → size (xs ++ ys) ≡ size xs + size ys
size-append [] ys = omega arith
size-append (t ∷ ts) ys = omega (arith, size-append ts ys)

-- names, reasons, numbers, keys and the words of widths and constants
name-short : (name : List ℕ) → IsName name → length name ≤ 32
name-short [] h = omega arith
name-short (b ∷ bytes) h =
    let parts = and_parts (begins_name b && list_all continues_name bytes) (nat_le (length bytes) 31) h in
    omega (arith, leb-true (length bytes) 31 parts.1)

reason-short : (reason : List ℕ) → IsReason reason → length (token_text (Quoted reason)) ≤ 82
reason-short reason h =
    let outer = and_parts (nat_le 1 (length reason) && nat_le (length reason) 80) (list_all is_plain_byte reason) h in
    let parts = and_parts (nat_le 1 (length reason)) (nat_le (length reason) 80) outer.0 in
    omega (arith, length-append reason (34 ∷ []), leb-true (length reason) 80 parts.1)

number-short : (n : ℕ) → n < 2 ^ 64 → length (decimal n) ≤ 20
number-short n h = length-decimal-le 20 n (omega arith) (omega arith) h

small-short : (n : ℕ) → n < 2 ^ 32 → length (decimal n) ≤ 20
small-short n h = number-short n (omega arith)

byte-short : (t : Bool) (b : ℕ) → length (if t then b ∷ [] else 92 ∷ 120 ∷ hex_digit (b / 16) ∷ hex_digit (b % 16) ∷ []) ≤ 4
byte-short true b = omega arith
byte-short false b = omega arith

key-short : (bytes : List ℕ) → length (flat_map printed_byte bytes) ≤ 4 * length bytes
key-short [] = omega arith
key-short (b ∷ bytes) =
    omega (arith, length-append (printed_byte b) (flat_map printed_byte bytes), byte-short (is_plain_byte b) b, key-short bytes)

key_token-short : (bytes : List ℕ) → length (token_text (Quoted (flat_map printed_byte bytes))) ≤ 2 + 4 * length bytes
key_token-short bytes =
    omega (arith, length-append (flat_map printed_byte bytes) (34 ∷ []), key-short bytes)

width-short : (width : Width) → length (token_text (width_word width)) ≤ 3
width-short W8 = omega arith
width-short W16 = omega arith
width-short W32 = omega arith
width-short W64 = omega arith

constant-short : (what : Constant) → length (token_text (constant_word what)) ≤ 6
constant-short constant.Update = omega arith
constant-short constant.Equal = omega arith
constant-short constant.And = omega arith
constant-short constant.Or = omega arith
constant-short constant.Test = omega arith

signature-short : (value : Bool) → length (if value then codes "value" else codes "match") ≤ 5
signature-short true = omega arith
signature-short false = omega arith

other-short : (skip : Bool) → length (if skip then codes "skip" else codes "else") ≤ 4
other-short true = omega arith
other-short false = omega arith

-- the parts of a line
arrow-size : (target : List ℕ) → IsName target → size (arrow_tokens target) ≤ 36
arrow-size target h = omega (arith, name-short target h)

carried-size : (number : Option ℕ) → NumberFits number → size (carried_tokens number) ≤ 23
carried-size none h = omega arith
carried-size (Some number) h = omega (arith, small-short number h)

most-size : (most : Option ℕ) → MostFits most → size (most_tokens most) ≤ 25
most-size none h = omega arith
most-size (Some most) h = omega (arith, number-short most h)

code-size : (what : NamedCode) → CodeHasForm what → CodeFits what → size (code_tokens what) ≤ 90
code-size (code.Call host) f r = omega (arith, name-short host f)
code-size (code.Store prop) f r = omega (arith, name-short prop f)
code-size (code.Load prop) f r = omega (arith, name-short prop f)
code-size (code.Constant what prop value) f r =
    omega (arith, constant-short what, name-short prop f, number-short value r)
code-size (code.MulAdd prop base most) f r =
    omega (arith, name-short prop f, small-short base r.0, most-size most r.1)

fold-size : (fold : Fold) → size (fold_tokens fold) ≤ 6
fold-size Same = omega arith
fold-size Lower = omega arith

kind-size : (what : NamedKind) → KindHasForm what → KindFits what → size (kind_tokens what) ≤ 120
kind-size (kind.Match fold) f r = omega (arith, fold-size fold)
kind-size (kind.Invoke what) f r = omega (arith, code-size what f r)
kind-size (kind.Consume prop) f r = omega (arith, name-short prop f)
kind-size (kind.SpanOpen span) f r = omega (arith, name-short span f)
kind-size (kind.SpanClose span) f r = omega (arith, name-short span f)
kind-size (kind.Pause number reason) f r = omega (arith, small-short number r, reason-short reason f)
kind-size (kind.Fail number reason) f r = omega (arith, small-short number r, reason-short reason f)

-- the most that the line of a call takes
abbrev cost : BuilderCall → ℕ
cost (call.Prop name width) = 200
cost (call.Host name value) = 200
cost (call.Span name) = 200
cost (call.Entry node) = 200
cost (call.Finish prop host) = 200
cost (call.Node name what) = 200
cost (call.Edge (edge.Key bytes number) target) = 80 + 4 * length bytes
cost (call.Edge (edge.Peek byte) target) = 80
cost (call.Edge (edge.Answer number) target) = 80
cost (call.Edge (edge.Otherwise skip) target) = 200

tokens-size : (c : BuilderCall) → HasForm c → CallInRange c → 1 + size (printed_tokens c) ≤ cost c
tokens-size (call.Prop name width) f r = omega (arith, name-short name f, width-short width)
tokens-size (call.Host name value) f r = omega (arith, name-short name f, signature-short value)
tokens-size (call.Span name) f r = omega (arith, name-short name f)
tokens-size (call.Entry node) f r = omega (arith, name-short node f)
tokens-size (call.Finish prop host) f r = omega (arith, name-short prop f.0, name-short host f.1)
tokens-size (call.Node name what) f r = omega (arith, name-short name f.0, kind-size what f.1 r)
tokens-size (call.Edge (edge.Key bytes number) target) f r =
    omega (arith, key_token-short bytes, size-append (carried_tokens number) (arrow_tokens target), carried-size number r.1, arrow-size target f)
tokens-size (call.Edge (edge.Peek byte) target) f r =
    omega (arith, key_token-short (byte ∷ []), arrow-size target f)
tokens-size (call.Edge (edge.Answer number) target) f r = omega (arith, small-short number r, arrow-size target f)
tokens-size (call.Edge (edge.Otherwise skip) target) f r = omega (arith, other-short skip, arrow-size target f)

line-short : (c : BuilderCall) → CanBePrinted c → length (printed_line c) ≤ cost c
line-short c h = omega (arith, line-length (printed_tokens c), tokens-size c h.0 h.1)

lines-short : (calls : List BuilderCall) → Each CanBePrinted calls → length (flat_map printed_line calls) ≤ sum_by cost calls
lines-short [] h = omega arith
lines-short (c ∷ calls) h =
    omega (
      arith,
      length-append (printed_line c) (flat_map printed_line calls),
      sum_by-cons cost c calls,
      line-short c h.0,
      lines-short calls h.1,
    )

-- what each costs, of so many
sum-each : {X Y : Type 0} (h : X → Y) (f : Y → ℕ) (n : ℕ) (xs : List X) → ((x : X) → f (h x) ≡ n) → sum_by f (map h xs) ≡ length xs * n
sum-each h f n [] e = omega arith
sum-each h f n (x ∷ xs) e = omega (arith, sum_by-cons f (h x) (map h xs), e x, sum-each h f n xs e)

abbrev key_weight : Key → ℕ
key_weight k = length k.bytes

-- no key is empty
keys-cost : (g : Plan) (fold : Fold) (keys : List Key) → Each (IsKey g fold) keys → sum_by cost (map (key_call g) keys) ≤ 84 * sum_by key_weight keys
keys-cost g fold [] h = omega arith
keys-cost g fold (k ∷ keys) h =
    omega (
      arith,
      sum_by-cons cost (key_call g k) (map (key_call g) keys),
      sum_by-cons key_weight k keys,
      h.0.some,
      keys-cost g fold keys h.1,
    )

edges-cost : (g : Plan) (k : Kind) → FitsIn g k → sum_by cost (edge_calls g k) ≤ 200 + 84 * weight_of k
edges-cost g (placed.Match fold keys peeks other) f =
    let ks = map (key_call g) keys in
    let ps = map (peek_call g) peeks in
    omega (
      arith,
      sum_by-append cost (ks ++ ps) (other_call g other ∷ []),
      sum_by-append cost ks ps,
      sum_by-cons cost (other_call g other) [],
      keys-cost g fold keys (each-from_is (IsKey g fold) keys f.0.each_key),
      sum-each (peek_call g) cost 80 peeks (λ p. refl),
    )
edges-cost g (placed.Invoke what answers other) f =
    let xs = map (answer_call g) answers in
    omega (
      arith,
      sum_by-append cost xs (else_call g other ∷ []),
      sum_by-cons cost (else_call g other) [],
      sum-each (answer_call g) cost 80 answers (λ a. refl),
    )
edges-cost g (placed.Consume prop next) f = omega (arith, sum_by-cons cost (else_call g next) [])
edges-cost g (placed.SpanOpen span next) f = omega (arith, sum_by-cons cost (else_call g next) [])
edges-cost g (placed.SpanClose span next) f = omega (arith, sum_by-cons cost (else_call g next) [])
edges-cost g (placed.Pause number reason next) f = omega (arith, sum_by-cons cost (else_call g next) [])
edges-cost g (placed.Fail number reason) f = omega arith

abbrev node_weight : Node → ℕ
node_weight n = weight_of n.kind

nodes-cost : (g : Plan) (nodes : List Node) → Each (λ n. FitsIn g n.kind) nodes → sum_by cost (flat_map (node_calls g) nodes) ≤ 400 * length nodes + 84 * sum_by node_weight nodes
nodes-cost g [] h = omega arith
nodes-cost g (n ∷ nodes) h =
    let c = call.Node n.name (named_kind g n.kind) in
    omega (
      arith,
      sum_by-append cost (node_calls g n) (flat_map (node_calls g) nodes),
      sum_by-cons cost c (edge_calls g n.kind),
      edges-cost g n.kind h.0,
      sum_by-cons node_weight n nodes,
      nodes-cost g nodes h.1,
    )

ends-cost : (g : Plan) (i : ℕ) (rule : Option (ℕ × ℕ)) → sum_by cost (call.Entry (node_name g i) ∷ finish_calls g rule) ≤ 400
ends-cost g i none = omega arith
ends-cost g i (Some rule) = omega arith

calls-cost : (g : Plan) → IsWellFormed g → sum_by cost (calls_of g) ≤ 3400000
calls-cost g w =
    let props = map prop_call g.props in
    let hosts = map host_call g.hosts in
    let spans = map span_call g.spans in
    let ends = ends_calls g in
    let nodes = nodes_calls g in
    omega (
      arith,
      ap (sum_by cost) (calls_of-parts g),
      sum_by-append cost props (hosts ++ (spans ++ (ends ++ nodes))),
      sum_by-append cost hosts (spans ++ (ends ++ nodes)),
      sum_by-append cost spans (ends ++ nodes),
      sum_by-append cost ends nodes,
      sum-each prop_call cost 200 g.props (λ p. refl),
      sum-each host_call cost 200 g.hosts (λ p. refl),
      sum-each span_call cost 200 g.spans (λ p. refl),
      ends-cost g g.entry g.finish,
      nodes-cost g g.nodes (each-from_is (λ n. FitsIn g n.kind) g.nodes w.kinds),
      w.few_props,
      w.few_hosts,
      w.few_spans,
      w.few_nodes,
      w.light,
    )

pub printed-short : (g : Plan) → IsWellFormed g → Each CanBePrinted (calls_of g) → length (printed g) ≤ limit
printed-short g w h =
    let lines = flat_map printed_line (calls_of g) in
    omega (
      arith,
      length-append (codes "graph 1\n" ++ lines) (codes "end\n"),
      length-append (codes "graph 1\n") lines,
      lines-short (calls_of g) h,
      calls-cost g w,
    )
