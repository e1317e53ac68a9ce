-- The edges of a set, byte by byte, as kept calls stand for them.
use Rattle.std.proofs.Common.{◌≡◌, ℕ, ◌+◌, ◌<◌, List, [], ◌∷◌, ◌++◌, true, false, Option, Some, length, map, ap, ap₂, subst, refl, ◌∙◌, sym, arith, append_assoc}
use Rattle.std.specs.FinSet.{FinSet, contains}
use Rattle.std.specs.Ordering.{nat_cmp}
use Rattle.std.proofs.lemmas.List.{map-append}
use Rattle.pp_bytes.specs.Bytes.{bytes_of, bytes_below}
use Rattle.pp_bytes.proofs.ByteLemmas.{bytes_below_yes, bytes_below_no}
use Rattle.pp_rules.specs.declared.call.BuilderCall.{BuilderCall}
use Rattle.pp_rules.specs.declared.call.BuilderCall.TheVariants as call
use Rattle.pp_rules.specs.declared.call.NamedEdge.{NamedEdge}
use Rattle.pp_rules.specs.declared.kept.ByteUse.{ByteUse}
use Rattle.pp_rules.specs.Sets.{byte_edge, byte_call, spread, IsSetOf}
use Rattle.pp_rules.proofs.SetLemmas.{spread-set}

-- behind these calls stand those of the bytes below a number: where it is in the set, its own comes next
pub below-yes : (how : ByteUse) (target : List ℕ) (bytes : FinSet nat_cmp) (b : ℕ) (before now after : List BuilderCall) (e : NamedEdge) (t : List ℕ) → b < 256 → contains bytes b ≡ true → now ≡ before ++ map (byte_call how target) (bytes_below bytes b) → after ≡ now ++ call.Edge e t ∷ [] → e ≡ byte_edge how b → t ≡ target → after ≡ before ++ map (byte_call how target) (bytes_below bytes (b + 1))
below-yes how target bytes b before now after e t h held is more edge to =
    let f : ℕ → BuilderCall = byte_call how target in
    more ∙ ap (λ x. x ++ call.Edge e t ∷ []) is
    ∙ ap₂ (λ x y. (before ++ map f (bytes_below bytes b)) ++ call.Edge x y ∷ []) edge to
    ∙ append_assoc before (map f (bytes_below bytes b)) (f b ∷ [])
    ∙ ap (λ x. before ++ x) (sym (map-append f (bytes_below bytes b) (b ∷ [])) ∙ ap (map f) (sym (bytes_below_yes bytes b h held)))

-- and where it is not, none
pub below-no : (how : ByteUse) (target : List ℕ) (bytes : FinSet nat_cmp) (b : ℕ) (before now after : List BuilderCall) → b < 256 → contains bytes b ≡ false → now ≡ before ++ map (byte_call how target) (bytes_below bytes b) → after ≡ now → after ≡ before ++ map (byte_call how target) (bytes_below bytes (b + 1))
below-no how target bytes b before now after h out e same =
    same ∙ e ∙ ap (λ x. before ++ map (byte_call how target) x) (sym (bytes_below_no bytes b h out))

-- a list that is not empty has an element
pub not-empty : {A : Type 0} (xs : List A) → (xs ≡ [] → ⊥) → 0 < length xs
not-empty [] none = absurd (none refl)
not-empty (x ∷ xs) none = omega arith

-- the edges that a kept call with a set stands for, by what its bytes are to the node
pub spread-use : (c : BuilderCall) (s : Option (FinSet nat_cmp)) (bytes : FinSet nat_cmp) (how : ByteUse) (target : List ℕ) → IsSetOf c s → s ≡ Some bytes → ((how_of : ByteUse) (target_of : List ℕ) (b : ℕ) → c ≡ byte_call how_of target_of b → (how ≡ how_of) × (target ≡ target_of)) → map (byte_call how target) (bytes_of bytes) ≡ spread c s
spread-use c s bytes how target is_set e used =
    let edge : IsSetOf c (Some bytes) = subst (IsSetOf c) e is_set in
    let same : (how ≡ edge.0) × (target ≡ edge.1) = used edge.0 edge.1 edge.2 edge.3 in
    ap₂ (λ h t. map (byte_call h t) (bytes_of bytes)) same.0 same.1 ∙ sym (spread-set c bytes edge.0 edge.1 edge.2 edge.3) ∙ ap (spread c) (sym e)
