-- A key clash is a longer key that comes again, or another clash; so the first is the earlier of the first of both.
use Rattle.std.proofs.Common.{◌≡◌, ℕ, List, Bool, true, false, not, ◌&&◌, ◌||◌, ◌==◌, ◌⊎◌, Option, Some, slice_get, take, length, refl, sym, ◌∙◌}
use Rattle.std.specs.Prelude.{bytes_eq, IsTrue, IsSomeAnd}
use Rattle.std.specs.Prelude.{None as none}
use Rattle.std.proofs.lemmas.Bool.{false≢true}
use Rattle.pp_rules.specs.declared.call.NamedEdge.{NamedEdge}
use Rattle.pp_rules.specs.declared.call.NamedEdge.TheVariants as edge
use Rattle.pp_rules.specs.declared.call.BuilderCall.{BuilderCall}
use Rattle.pp_rules.specs.declared.rules.GraphRule.TheVariants.{KeyClash}
use Rattle.pp_rules.specs.Edges.{edge_of, edges_of}
use Rattle.pp_rules.specs.Rules.Clash.{edges_clash, clashes_with_any, begins_with_byte}
use Rattle.pp_rules.specs.Rules.{fails_at_call, FailsAt}
use Rattle.pp_rules.specs.steps.Clashes.{same_longer, short_clash, any_with, is_short_clash, comes_again, ComesAgainAt}
use Rattle.pp_rules.specs.steps.Least.{IsLeast, lesser}
use Rattle.pp_rules.proofs.LeastLemmas.{IsLeast-lesser}
use Rattle.pp_rules.proofs.KeyLemmas.{or-true, or-left, or-right, and-no}
use Rattle.pp_rules.proofs.OwnEdgeLemmas.{any-split}

-- equal keys have one byte or not
either : (a b : Bool) → a ≡ (a && not (a && not b) || a && not b)
either true true = refl
either true false = refl
either false b = refl

-- other edges are no equal keys
other : (a : Bool) → a ≡ (a && true || false)
other true = refl
other false = refl

-- two edges clash as the parts of the rule say
clash-parts : (e when : NamedEdge) → edges_clash e when ≡ (short_clash e when || same_longer e when)
clash-parts (edge.Key bytes number) (edge.Key key n) = either (bytes_eq bytes key) (length key == 1)
clash-parts (edge.Key bytes number) (edge.Peek byte) = other (begins_with_byte byte bytes)
clash-parts (edge.Key bytes number) (edge.Answer n) = refl
clash-parts (edge.Key bytes number) (edge.Otherwise skip) = refl
clash-parts (edge.Peek byte) when = other (edges_clash (edge.Peek byte) when)
clash-parts (edge.Answer number) when = other (edges_clash (edge.Answer number) when)
clash-parts (edge.Otherwise skip) when = refl

-- so does one of some edges
parts : (edges : List NamedEdge) (o : Option NamedEdge) → clashes_with_any edges o ≡ (any_with short_clash edges o || any_with same_longer edges o)
parts edges none = refl
parts edges (Some when) =
    any-split (λ e. edges_clash e when) (λ e. short_clash e when) (λ e. same_longer e when) edges (λ e. clash-parts e when)

-- the call of this number is such another clash
abbrev IsShortAt : List BuilderCall → ℕ → Type 0
IsShortAt all i = IsSomeAnd (slice_get all i) (λ c. IsTrue (is_short_clash (take i all) c))

-- such a clash and a longer key that comes again are clashes, and there are no others
module _ (all : List BuilderCall) (i : ℕ) where
  abbrev edges : List NamedEdge
  edges = edges_of (take i all)

  of-short : (o : Option BuilderCall) → IsSomeAnd o (λ c. IsTrue (is_short_clash (take i all) c)) → IsTrue (fails_at_call KeyClash all i o)
  of-short none h = absurd h
  of-short (Some c) h = parts edges (edge_of c) ∙ or-left (is_short_clash (take i all) c) (comes_again (take i all) c) h

  of-again : (o : Option BuilderCall) → IsSomeAnd o (λ c. IsTrue (comes_again (take i all) c)) → IsTrue (fails_at_call KeyClash all i o)
  of-again none h = absurd h
  of-again (Some c) h = parts edges (edge_of c) ∙ or-right (is_short_clash (take i all) c) (comes_again (take i all) c) h

  of-clash : (o : Option BuilderCall) → IsTrue (fails_at_call KeyClash all i o) → IsSomeAnd o (λ c. IsTrue (is_short_clash (take i all) c)) ⊎ IsSomeAnd o (λ c. IsTrue (comes_again (take i all) c))
  of-clash none h = absurd (false≢true (sym (and-no (i == length all)) ∙ h))
  of-clash (Some c) h = or-true (is_short_clash (take i all) c) (comes_again (take i all) c) (sym (parts edges (edge_of c)) ∙ h)

-- the first clash is the earlier of the first of both
pub least-clash : (all : List BuilderCall) (short again : Option ℕ) → IsLeast (IsShortAt all) short → IsLeast (ComesAgainAt all) again → IsLeast (FailsAt KeyClash all) (lesser short again)
least-clash all short again =
    IsLeast-lesser (IsShortAt all) (ComesAgainAt all) (FailsAt KeyClash all) short again (λ i. of-short all i (slice_get all i)) (λ i. of-again all i (slice_get all i)) (λ i. of-clash all i (slice_get all i))
