-- What a builder knows after the edges of a set.
use Rattle.std.proofs.Common.{◌≡◌, ℕ, ◌+◌, ◌<◌, List, [], ◌∷◌, ◌++◌, Bool, length, map, subst, refl, sym, arith, append_assoc}
use Rattle.std.proofs.lemmas.List.{append-nil, length_push}
use Rattle.pp_rules.specs.declared.call.BuilderCall.{BuilderCall}
use Rattle.pp_rules.specs.declared.kept.ByteUse.{ByteUse}
use Rattle.pp_rules.specs.declared.kept.ByteUse.TheVariants as byte_use
use Rattle.pp_graph.specs.declared.builder.LastNode.{LastNode}
use Rattle.pp_rules.specs.Names.{IsName}
use Rattle.pp_graph.specs.Calls.{IsRecord, otherwise_after}
use Rattle.pp_rules.specs.Sets.{byte_call}
use Rattle.pp_graph.proofs.CallLemmas.{IsRecord-push}

-- the edge of a byte is no otherwise
no-otherwise : (closed : Bool) (how : ByteUse) (target : List ℕ) (b : ℕ) → otherwise_after closed (byte_call how target b) ≡ closed
no-otherwise closed (byte_use.Key number) target b = refl
no-otherwise closed byte_use.Peek target b = refl

-- the record of the edges of a set
pub IsRecord-set : (calls : List BuilderCall) (before : LastNode) (closed : Bool) (how : ByteUse) (target : List ℕ) (bytes : List ℕ) → IsRecord calls before closed → IsName target → length calls + length bytes < 4294967296 → IsRecord (calls ++ map (byte_call how target) bytes) before closed
IsRecord-set calls before closed how target [] r p small = subst (λ cs. IsRecord cs before closed) (sym (append-nil calls)) r
IsRecord-set calls before closed how target (b ∷ bytes) r p small =
    let c : BuilderCall = byte_call how target b in
    let one : IsRecord (calls ++ c ∷ []) before closed = subst (λ (t : Bool). IsRecord (calls ++ c ∷ []) before t) (no-otherwise closed how target b) (IsRecord-push calls before closed c r p (omega arith)) in
    subst (λ cs. IsRecord cs before closed) (append_assoc calls (c ∷ []) (map (byte_call how target) bytes))
    (IsRecord-set (calls ++ c ∷ []) before closed how target bytes one p (omega (arith, length_push calls c)))
