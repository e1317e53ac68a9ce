-- The keys of a match node of a graph that keeps the rules differ, and are short.
use Rattle.std.proofs.Common.{◌≡◌, ◌<◌, ◌≤◌, ◌+◌, ◌*◌, ◌^◌, suc, List, [], ◌∷◌, refl, arith, length}
use Rattle.std.specs.Prelude.{sum_by}
use Rattle.std.proofs.lemmas.List.Sums.{sum_by-cons}
use Rattle.pp_bytes.specs.declared.fold.Fold.{Fold}
use Rattle.pp_graph.specs.declared.node.Key.{Key}
use Rattle.pp_graph.specs.declared.node.Kind.{Kind}
use Rattle.pp_graph.specs.declared.node.Kind.TheVariants.{Match, Invoke, Consume, SpanOpen, SpanClose, Pause, Fail}
use Rattle.pp_graph.specs.Plan.{Plan, EachIs, AreDistinct, key_bytes, IsKey, FitsIn}
use Rattle.pp_lower.specs.Tree.{IsMatch, keys_of}

few_bytes : (g : Plan) (folding : Fold) (keys : List Key) → EachIs (IsKey g folding) keys → sum_by length (key_bytes keys) ≤ 64 * length keys
few_bytes g folding [] each = omega arith
few_bytes g folding (k ∷ keys) each =
    let one : length k.bytes ≤ 64 = (each 0 k refl).short in
    let rest : sum_by length (key_bytes keys) ≤ 64 * length keys = few_bytes g folding keys (λ i x e. each (suc i) x e) in
    let more : sum_by length (key_bytes (k ∷ keys)) ≡ length k.bytes + sum_by length (key_bytes keys) = sum_by-cons length k.bytes (key_bytes keys) in
    omega (arith, one, rest, more)

pub keys_differ : (g : Plan) (k : Kind) → FitsIn g k → IsMatch k → AreDistinct (key_bytes (keys_of k))
keys_differ g (Match folding keys peeks other) fits is = fits.0.distinct_keys
keys_differ g (Invoke what answers other) fits is = absurd is
keys_differ g (Consume prop next) fits is = absurd is
keys_differ g (SpanOpen span next) fits is = absurd is
keys_differ g (SpanClose span next) fits is = absurd is
keys_differ g (Pause number reason next) fits is = absurd is
keys_differ g (Fail number reason) fits is = absurd is

pub keys_fit : (g : Plan) (k : Kind) → FitsIn g k → IsMatch k → sum_by length (key_bytes (keys_of k)) + 1 < 2 ^ 32
keys_fit g (Match folding keys peeks other) fits is =
    let bytes : sum_by length (key_bytes keys) ≤ 64 * length keys = few_bytes g folding keys fits.0.each_key in
    let few : length keys ≤ 2048 = fits.0.few in
    omega (arith, bytes, few)
keys_fit g (Invoke what answers other) fits is = absurd is
keys_fit g (Consume prop next) fits is = absurd is
keys_fit g (SpanOpen span next) fits is = absurd is
keys_fit g (SpanClose span next) fits is = absurd is
keys_fit g (Pause number reason next) fits is = absurd is
keys_fit g (Fail number reason) fits is = absurd is
