-- What the rules ask of the calls, which is the same of all calls as of the kept ones.
use Rattle.std.proofs.Common.{◌≡◌, ℕ, ◌-◌, List, [], ◌∷◌, ◌++◌, Bool, true, false, not, ◌&&◌, ◌||◌, if◌then◌else◌, Option, Some, option_map, find, filter_map, map, refl, ap, ap₂, sym, ◌∙◌}
use Rattle.std.specs.Prelude.{◌^◌, bytes_eq, nat_lt, unwrap_or}
use Rattle.std.specs.Prelude.{None as none}
use Rattle.std.specs.List.{list_any, cons_option}
use Rattle.std.specs.FinSet as set
use Rattle.std.specs.Ordering.{nat_cmp}
use Rattle.std.proofs.lemmas.List.Elements.{filter_map-append}
use Rattle.std.proofs.lemmas.List.Folds.{list_any-append}
use Rattle.pp_bytes.specs.Bytes.{bytes_of}
use Rattle.pp_rules.specs.declared.declaration.PropDecl.{PropDecl}
use Rattle.pp_rules.specs.declared.call.BuilderCall.{BuilderCall}
use Rattle.pp_rules.specs.declared.call.BuilderCall.TheVariants as call
use Rattle.pp_rules.specs.declared.call.NamedCode.{NamedCode}
use Rattle.pp_rules.specs.declared.call.NamedCode.TheVariants as code
use Rattle.pp_rules.specs.declared.call.NamedKind.{NamedKind}
use Rattle.pp_rules.specs.declared.call.NamedKind.TheVariants as kind
use Rattle.pp_rules.specs.declared.call.NamedEdge.{NamedEdge}
use Rattle.pp_rules.specs.declared.call.NamedEdge.TheVariants as edge
use Rattle.pp_rules.specs.declared.call.Sort.{Sort}
use Rattle.pp_rules.specs.declared.kept.ByteUse.{ByteUse}
use Rattle.pp_rules.specs.declared.kept.ByteUse.TheVariants as byte_use
use Rattle.pp_rules.specs.Widths.{greatest}
use Rattle.pp_rules.specs.Calls.{is_declared, is_declared_by, declared_by, named_by, is_node, own_calls}
use Rattle.pp_rules.specs.Declarations.{greatest_of, tables_of, prop_decl}
use Rattle.pp_rules.specs.Rules.Names.{is_redeclared, names_unknown}
use Rattle.pp_rules.specs.Rules.Otherwise.{is_otherwise, needs_otherwise, lacks_otherwise}
use Rattle.pp_rules.specs.Rules.Numbers.{declares_value_host, is_value_host, code_takes_value, kind_takes_value, adds_value_node, is_value_node, carries_number, is_value_fault, is_wide_most, is_wide_code, is_wide_kind, stores_narrow, is_wide_edge, is_too_wide}
use Rattle.pp_rules.specs.Sets.{byte_call, spread, all_calls, IsSetOf, AreSets}
use Rattle.pp_rules.proofs.ListLemmas.{or_false}
use Rattle.pp_rules.proofs.SetLemmas.{spread-set}

-- a test that no edge of a byte passes finds among all calls what it finds among the kept ones
module _ (p : BuilderCall → Bool) (none_passes : (how : ByteUse) (target : List ℕ) (b : ℕ) → p (byte_call how target b) ≡ false) where
  any-bytes : (how : ByteUse) (target bytes : List ℕ) → list_any p (map (byte_call how target) bytes) ≡ false
  any-bytes how target [] = refl
  any-bytes how target (b ∷ bytes) = ap₂ ◌||◌ (none_passes how target b) (any-bytes how target bytes)

  any-spread : (c : BuilderCall) (s : Option (set.FinSet nat_cmp)) → IsSetOf c s → list_any p (spread c s) ≡ p c
  any-spread c none h = or_false (p c)
  any-spread c (Some bytes) (how, target, b, e, full) =
      ap (list_any p) (spread-set c bytes how target b e) ∙ any-bytes how target (bytes_of bytes) ∙ sym (ap p e ∙ none_passes how target b)

  any-all : (calls : List BuilderCall) (sets : List (Option (set.FinSet nat_cmp))) → AreSets calls sets → list_any p (all_calls calls sets) ≡ list_any p calls
  any-all [] sets h = refl
  any-all (c ∷ calls) [] h = absurd h
  any-all (c ∷ calls) (s ∷ sets) h =
      list_any-append p (spread c s) (all_calls calls sets) ∙ ap₂ ◌||◌ (any-spread c s h.0) (any-all calls sets h.1)

-- the properties that are declared are the same
props-bytes : (how : ByteUse) (target bytes : List ℕ) → filter_map prop_decl (map (byte_call how target) bytes) ≡ []
props-bytes how target [] = refl
props-bytes how target (b ∷ bytes) = props-bytes how target bytes

append-option : {X : Type 0} (o : Option X) (xs : List X) → cons_option o [] ++ xs ≡ cons_option o xs
append-option none xs = refl
append-option (Some x) xs = refl

props-spread : (c : BuilderCall) (s : Option (set.FinSet nat_cmp)) (props : List PropDecl) → IsSetOf c s → filter_map prop_decl (spread c s) ++ props ≡ cons_option (prop_decl c) props
props-spread c none props h = append-option (prop_decl c) props
props-spread c (Some bytes) props (how, target, b, e, full) =
    ap (λ cs. filter_map prop_decl cs ++ props) (spread-set c bytes how target b e)
    ∙ ap (λ ps. ps ++ props) (props-bytes how target (bytes_of bytes))
    ∙ sym (ap (λ d. cons_option (prop_decl d) props) e)

props-all : (calls : List BuilderCall) (sets : List (Option (set.FinSet nat_cmp))) → AreSets calls sets → filter_map prop_decl (all_calls calls sets) ≡ filter_map prop_decl calls
props-all [] sets h = refl
props-all (c ∷ calls) [] h = absurd h
props-all (c ∷ calls) (s ∷ sets) h =
    filter_map-append prop_decl (spread c s) (all_calls calls sets)
    ∙ props-spread c s (filter_map prop_decl (all_calls calls sets)) h.0
    ∙ ap (cons_option (prop_decl c)) (props-all calls sets h.1)

-- an edge of a byte is no otherwise
byte-otherwise : (how : ByteUse) (target : List ℕ) (b : ℕ) → is_otherwise (byte_call how target b) ≡ false
byte-otherwise (byte_use.Key number) target b = refl
byte-otherwise byte_use.Peek target b = refl

-- an otherwise among the calls that belong to a node
abbrev has_own : List BuilderCall → Bool
has_own after = list_any is_otherwise (own_calls after)

own-byte : (how : ByteUse) (target : List ℕ) (b : ℕ) (after : List BuilderCall) → has_own (byte_call how target b ∷ after) ≡ has_own after
own-byte how target b after = ap (λ x. x || has_own after) (byte-otherwise how target b)

own-bytes : (how : ByteUse) (target bytes : List ℕ) (after : List BuilderCall) → has_own (map (byte_call how target) bytes ++ after) ≡ has_own after
own-bytes how target [] after = refl
own-bytes how target (b ∷ bytes) after = own-byte how target b (map (byte_call how target) bytes ++ after) ∙ own-bytes how target bytes after

own-step : (b : Bool) (c : BuilderCall) (xs ys : List BuilderCall) → list_any is_otherwise xs ≡ list_any is_otherwise ys → list_any is_otherwise (if b then [] else c ∷ xs) ≡ list_any is_otherwise (if b then [] else c ∷ ys)
own-step true c xs ys e = refl
own-step false c xs ys e = ap (λ x. is_otherwise c || x) e

own-spread : (c : BuilderCall) (s : Option (set.FinSet nat_cmp)) (after kept : List BuilderCall) → IsSetOf c s → has_own after ≡ has_own kept → has_own (spread c s ++ after) ≡ has_own (c ∷ kept)
own-spread c none after kept h same = own-step (is_node c) c (own_calls after) (own_calls kept) same
own-spread c (Some bytes) after kept (how, target, b, e, full) same =
    ap (λ cs. has_own (cs ++ after)) (spread-set c bytes how target b e)
    ∙ own-bytes how target (bytes_of bytes) after
    ∙ same
    ∙ sym (ap (λ d. has_own (d ∷ kept)) e ∙ own-byte how target b kept)

own-all : (calls : List BuilderCall) (sets : List (Option (set.FinSet nat_cmp))) → AreSets calls sets → has_own (all_calls calls sets) ≡ has_own calls
own-all [] sets h = refl
own-all (c ∷ calls) [] h = absurd h
own-all (c ∷ calls) (s ∷ sets) h = own-spread c s (all_calls calls sets) calls h.0 (own-all calls sets h.1)

-- tests that agree find the same
any-same : {X : Type 0} (p q : X → Bool) (xs : List X) → ((x : X) → p x ≡ q x) → list_any p xs ≡ list_any q xs
any-same p q [] same = refl
any-same p q (x ∷ xs) same = ap₂ ◌||◌ (same x) (any-same p q xs same)

-- what the rules ask of the calls is the same
module _ (calls : List BuilderCall) (sets : List (Option (set.FinSet nat_cmp))) (h : AreSets calls sets) where
  pub declared-all : (named : Sort × List ℕ) → is_declared (all_calls calls sets) named ≡ is_declared calls named
  declared-all named = any-all (λ c. is_declared_by named.0 named.1 (declared_by c)) (λ how target b. refl) calls sets h

  pub redeclared-all : (o : Option (Sort × List ℕ)) → is_redeclared (all_calls calls sets) o ≡ is_redeclared calls o
  redeclared-all none = refl
  redeclared-all (Some named) = declared-all named

  pub unknown-all : (c : BuilderCall) → names_unknown (all_calls calls sets) c ≡ names_unknown calls c
  unknown-all c =
      any-same (λ named. not (is_declared (all_calls calls sets) named)) (λ named. not (is_declared calls named)) (named_by c) (λ named. ap not (declared-all named))

  pub lacks-all : (c : BuilderCall) → lacks_otherwise c (all_calls calls sets) ≡ lacks_otherwise c calls
  lacks-all (call.Prop name width) = refl
  lacks-all (call.Host name value) = refl
  lacks-all (call.Span name) = refl
  lacks-all (call.Entry node) = refl
  lacks-all (call.Finish prop host) = refl
  lacks-all (call.Node name what) = ap (λ has. needs_otherwise what && not has) (own-all calls sets h)
  lacks-all (call.Edge when target) = refl

  value_host-all : (host : List ℕ) → is_value_host (all_calls calls sets) host ≡ is_value_host calls host
  value_host-all host = any-all (declares_value_host host) (λ how target b. refl) calls sets h

  code_value-all : (what : NamedCode) → code_takes_value (all_calls calls sets) what ≡ code_takes_value calls what
  code_value-all (code.Call host) = value_host-all host
  code_value-all (code.Store prop) = refl
  code_value-all (code.Load prop) = refl
  code_value-all (code.Constant what prop value) = refl
  code_value-all (code.MulAdd prop base most) = refl

  kind_value-all : (what : NamedKind) → kind_takes_value (all_calls calls sets) what ≡ kind_takes_value calls what
  kind_value-all (kind.Match fold) = refl
  kind_value-all (kind.Invoke what) = code_value-all what
  kind_value-all (kind.Consume prop) = refl
  kind_value-all (kind.SpanOpen span) = refl
  kind_value-all (kind.SpanClose span) = refl
  kind_value-all (kind.Pause number reason) = refl
  kind_value-all (kind.Fail number reason) = refl

  adds_value-all : (node : List ℕ) (c : BuilderCall) → adds_value_node (all_calls calls sets) node c ≡ adds_value_node calls node c
  adds_value-all node (call.Prop name width) = refl
  adds_value-all node (call.Host name value) = refl
  adds_value-all node (call.Span name) = refl
  adds_value-all node (call.Entry name) = refl
  adds_value-all node (call.Finish prop host) = refl
  adds_value-all node (call.Node name what) = ap (λ takes. bytes_eq name node && takes) (kind_value-all what)
  adds_value-all node (call.Edge when target) = refl

  value_node-all : (node : List ℕ) → is_value_node (all_calls calls sets) node ≡ is_value_node calls node
  value_node-all node =
      any-same (adds_value_node (all_calls calls sets) node) (adds_value_node calls node) (all_calls calls sets) (adds_value-all node)
      ∙ any-all (adds_value_node calls node) (λ how target b. refl) calls sets h

  pub value_fault-all : (c : BuilderCall) → is_value_fault (all_calls calls sets) c ≡ is_value_fault calls c
  value_fault-all (call.Prop name width) = refl
  value_fault-all (call.Host name value) = refl
  value_fault-all (call.Span name) = refl
  value_fault-all (call.Entry node) = value_node-all node
  value_fault-all (call.Finish prop host) = value_host-all host
  value_fault-all (call.Node name what) = refl
  value_fault-all (call.Edge when target) =
      ap (λ takes. not (carries_number when) && takes || carries_number when && not takes) (value_node-all target)

  greatest-all : (prop : List ℕ) → greatest_of (tables_of (all_calls calls sets)) prop ≡ greatest_of (tables_of calls) prop
  greatest-all prop =
      ap (λ props. unwrap_or (option_map (λ (p : PropDecl). greatest p.width) (find (λ (p : PropDecl). bytes_eq prop p.name) props)) (2 ^ 64 - 1)) (props-all calls sets h)

  wide_code-all : (what : NamedCode) → is_wide_code (all_calls calls sets) what ≡ is_wide_code calls what
  wide_code-all (code.Call host) = refl
  wide_code-all (code.Store prop) = refl
  wide_code-all (code.Load prop) = refl
  wide_code-all (code.Constant what prop value) = ap (λ most. nat_lt most value) (greatest-all prop)
  wide_code-all (code.MulAdd prop base most) = ap (λ m. is_wide_most m most) (greatest-all prop)

  wide_kind-all : (what : NamedKind) → is_wide_kind (all_calls calls sets) what ≡ is_wide_kind calls what
  wide_kind-all (kind.Match fold) = refl
  wide_kind-all (kind.Invoke what) = wide_code-all what
  wide_kind-all (kind.Consume prop) = refl
  wide_kind-all (kind.SpanOpen span) = refl
  wide_kind-all (kind.SpanClose span) = refl
  wide_kind-all (kind.Pause number reason) = refl
  wide_kind-all (kind.Fail number reason) = refl

  narrow-all : (node : List ℕ) (number : ℕ) (c : BuilderCall) → stores_narrow (all_calls calls sets) node number c ≡ stores_narrow calls node number c
  narrow-all node number (call.Prop name width) = refl
  narrow-all node number (call.Host name value) = refl
  narrow-all node number (call.Span name) = refl
  narrow-all node number (call.Entry name) = refl
  narrow-all node number (call.Finish prop host) = refl
  narrow-all node number (call.Node name (kind.Match fold)) = refl
  narrow-all node number (call.Node name (kind.Invoke (code.Call host))) = refl
  narrow-all node number (call.Node name (kind.Invoke (code.Store prop))) = ap (λ most. bytes_eq name node && nat_lt most number) (greatest-all prop)
  narrow-all node number (call.Node name (kind.Invoke (code.Load prop))) = refl
  narrow-all node number (call.Node name (kind.Invoke (code.Constant what prop value))) = refl
  narrow-all node number (call.Node name (kind.Invoke (code.MulAdd prop base most))) = refl
  narrow-all node number (call.Node name (kind.Consume prop)) = refl
  narrow-all node number (call.Node name (kind.SpanOpen span)) = refl
  narrow-all node number (call.Node name (kind.SpanClose span)) = refl
  narrow-all node number (call.Node name (kind.Pause other reason)) = refl
  narrow-all node number (call.Node name (kind.Fail other reason)) = refl
  narrow-all node number (call.Edge when target) = refl

  wide_edge-all : (when : NamedEdge) (target : List ℕ) → is_wide_edge (all_calls calls sets) when target ≡ is_wide_edge calls when target
  wide_edge-all (edge.Key bytes none) target = refl
  wide_edge-all (edge.Key bytes (Some number)) target =
      any-same (stores_narrow (all_calls calls sets) target number) (stores_narrow calls target number) (all_calls calls sets) (narrow-all target number)
      ∙ any-all (stores_narrow calls target number) (λ how other b. refl) calls sets h
  wide_edge-all (edge.Peek byte) target = refl
  wide_edge-all (edge.Answer number) target = refl
  wide_edge-all (edge.Otherwise skip) target = refl

  pub too_wide-all : (c : BuilderCall) → is_too_wide (all_calls calls sets) c ≡ is_too_wide calls c
  too_wide-all (call.Prop name width) = refl
  too_wide-all (call.Host name value) = refl
  too_wide-all (call.Span name) = refl
  too_wide-all (call.Entry node) = refl
  too_wide-all (call.Finish prop host) = refl
  too_wide-all (call.Node name what) = wide_kind-all what
  too_wide-all (call.Edge when target) = wide_edge-all when target
