use Rattle.std.proofs.Common.{ℕ, List, ◌≡◌, [], ◌∷◌, refl, subst, arith, length, get_or, ◌<◌}
use Rattle.pp_program.specs.States.{branch_turn}
use Rattle.pp_engine.specs.Spots.{config, IsTurn}
use Rattle.pp_engine.proofs.turn.branch.Goals as goal

none : (bytes : List ℕ) → length bytes < 1 → [] ≡ bytes
none [] h = refl
none (b ∷ bytes) h = absurd (omega arith)

begins : (bytes : List ℕ) → 0 < length bytes → (later : List ℕ) × (get_or bytes 0 0 ∷ later ≡ bytes)
begins [] h = absurd (omega arith)
begins (b ∷ bytes) h = (bytes, refl)

pub returns-in-empty : goal.returns-in-empty
returns-in-empty c =
    subst (λ (l : List ℕ). IsTurn (λ n. 0) (config c.args.spot.now) (config c.branch_at_end.new.spot) c.branch_at_end.result (branch_turn (config c.args.spot.now) c.args.fold c.args.stay.now c.args.edges.now c.args.rest l))
    (none c.args.bytes.now (omega (arith, c.in-empty.len_below))) (c.branch_at_end.ensures c.args.fold)

pub returns-in-len1-up : goal.returns-in-len1-up
returns-in-len1-up c =
    let some = begins c.args.bytes.now (omega (arith, c.in-len1-up.len_at_least)) in
    subst (λ (l : List ℕ). IsTurn (λ n. 0) (config c.args.spot.now) (config c.branch_on.new.spot) c.branch_on.result (branch_turn (config c.args.spot.now) c.args.fold c.args.stay.now c.args.edges.now c.args.rest l))
    some.1 (c.branch_on.ensures some.0)
