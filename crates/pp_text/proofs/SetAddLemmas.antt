-- What a set of bytes adds to what was told.
use Rattle.std.proofs.Common.{◌≡◌, ◌≢◌, ℕ, ◌==◌, Bool, true, List, [], ◌∷◌, ◌++◌, length, map, replicate, eq-eqb, refl, sym, ap, subst, ◌∙◌, arith}
use Rattle.std.proofs.lemmas.Bool.{ne_eqb}
use Rattle.std.proofs.lemmas.List.{length-map}
use Rattle.std.proofs.lemmas.List.Sums.{fold-append}
use Rattle.std.specs.Prelude.{Option}
use Rattle.pp_graph.specs.declared.builder.LastNode.TheVariants as last
use Rattle.pp_rules.specs.declared.call.NamedEdge.{NamedEdge}
use Rattle.pp_rules.specs.declared.call.NamedEdge.TheVariants as edge
use Rattle.pp_rules.specs.declared.call.BuilderCall.{BuilderCall}
use Rattle.pp_rules.specs.declared.call.BuilderCall.TheVariants as call
use Rattle.pp_graph.specs.Calls.{MayFollow, last_node, last_after}
use Rattle.pp_text.specs.declared.calls.KeyUse.{KeyUse}
use Rattle.pp_text.specs.declared.calls.KeyUse.TheVariants as key_use
use Rattle.pp_text.specs.Sequence.{Follow}
use Rattle.pp_text.specs.steps.Rows.{IsAnswer, FitUse, edge_call, AddsKeys}
use Rattle.pp_text.specs.Text.{Told}
use Rattle.pp_text.proofs.DraftLemmas.{AddsKeys-none, told_is}
use Rattle.pp_text.proofs.RunLemmas.{lines-told}

-- bytes as keys
abbrev pub byte_keys : List ℕ → List (List ℕ)
byte_keys bytes = map (λ b. b ∷ []) bytes

-- the edges of bytes as keys, and as peek bytes
pub key_edges : (number : Option ℕ) (target bytes : List ℕ) → map (λ b. call.Edge (edge.Key (b ∷ []) number) target) bytes ≡ map (edge_call (key_use.Key number) target) (byte_keys bytes)
key_edges number target [] = refl
key_edges number target (b ∷ bytes) = ap (λ l. call.Edge (edge.Key (b ∷ []) number) target ∷ l) (key_edges number target bytes)

pub peek_edges : (target bytes : List ℕ) → map (λ b. call.Edge (edge.Peek b) target) bytes ≡ map (edge_call key_use.Peek target) (byte_keys bytes)
peek_edges target [] = refl
peek_edges target (b ∷ bytes) = ap (λ l. call.Edge (edge.Peek b) target ∷ l) (peek_edges target bytes)

-- a byte is a key of one byte
pub fit_bytes : (how : KeyUse) (bytes : List ℕ) → FitUse how (byte_keys bytes)
fit_bytes how [] = tt
fit_bytes (key_use.Key number) (b ∷ bytes) = (tt, fit_bytes (key_use.Key number) bytes)
fit_bytes key_use.Peek (b ∷ bytes) = (refl, fit_bytes key_use.Peek bytes)

-- an edge leaves the node that was added last as it is
last_kept : (before : List BuilderCall) (when : NamedEdge) (target : List ℕ) → last_node (before ++ call.Edge when target ∷ []) ≡ last_node before
last_kept before when target = fold-append last_after last.None before (call.Edge when target ∷ [])

-- behind a match node each of the edges may follow
follow_bytes : (how : KeyUse) (target bytes : List ℕ) (before : List BuilderCall) → last_node before ≡ last.Match → Follow before (map (edge_call how target) (byte_keys bytes))
follow_bytes how target [] before at = tt
follow_bytes (key_use.Key number) target (b ∷ bytes) before at =
    (at, follow_bytes (key_use.Key number) target bytes (before ++ call.Edge (edge.Key (b ∷ []) number) target ∷ []) (last_kept before (edge.Key (b ∷ []) number) target ∙ at))
follow_bytes key_use.Peek target (b ∷ bytes) before at =
    (at, follow_bytes key_use.Peek target bytes (before ++ call.Edge (edge.Peek b) target ∷ []) (last_kept before (edge.Peek b) target ∙ at))

-- and they may follow no other
after_match : (how : KeyUse) (target : List ℕ) (b : ℕ) (before : List BuilderCall) → MayFollow before (edge_call how target (b ∷ [])) → last_node before ≡ last.Match
after_match (key_use.Key number) target b before may = may
after_match key_use.Peek target b before may = may

-- behind another node, bytes add nothing if there are none, and else may not stand there
pub set_stays : (line : ℕ) (how : KeyUse) (target bytes : List ℕ) (n : ℕ) (a : Told) → n ≡ length bytes → last_node a.calls ≢ last.Match →
    IsAnswer (n == 0) a (AddsKeys line how target (byte_keys bytes) a)
set_stays line how target [] n a is other =
    subst (λ (led : Bool). IsAnswer led a (AddsKeys line how target [] a)) (sym (eq-eqb n 0 is)) (AddsKeys-none line how target a)
set_stays line how target (b ∷ bytes) n a is other =
    subst (λ (led : Bool). IsAnswer led a (AddsKeys line how target (byte_keys (b ∷ bytes)) a)) (sym (ne_eqb n 0 (λ e. omega (arith, e, is))))
    (λ c w. other (after_match how target b a.calls w.1.0))

-- behind a match node their edges are told, each at the line
pub set_told : (line : ℕ) (how : KeyUse) (target bytes : List ℕ) (n : ℕ) (a : Told) (calls : List BuilderCall) (lines : List ℕ) → n ≡ length bytes → last_node a.calls ≡ last.Match →
    calls ≡ a.calls ++ map (edge_call how target) (byte_keys bytes) → lines ≡ a.lines ++ replicate n line →
    (let b : Told = record { calls = calls; lines = lines } in IsAnswer true b (AddsKeys line how target (byte_keys bytes) a))
set_told line how target bytes n a calls lines is at calls_are lines_are =
    let edges = map (edge_call how target) (byte_keys bytes) in
    let count : n ≡ length edges = is ∙ sym (length-map bytes (λ b. b ∷ [])) ∙ sym (length-map (byte_keys bytes) (edge_call how target)) in
    let same = told_is calls (a.calls ++ edges) lines (a.lines ++ map (λ c. line) edges) calls_are (lines_are ∙ ap (λ l. a.lines ++ l) (lines-told line n edges count)) in
    ((fit_bytes how bytes, follow_bytes how target bytes a.calls at, same), λ other w. same ∙ sym w.2)
