use Rattle.std.proofs.Common.{◌≡◌, ◌++◌, ◌∷◌, [], ℕ, List, map, ap, sym, subst}
use Rattle.std.specs.Prelude.{IsSomeAnd, IsNone, IfOk}
use Rattle.pp_bytes.specs.Bytes.{bytes_of}
use Rattle.pp_rules.specs.declared.call.BuilderCall.{BuilderCall}
use Rattle.pp_rules.specs.Sets.{byte_call, spread, IsSetOf}
use Rattle.pp_rules.specs.steps.Least.{IsLeast}
use Rattle.pp_rules.specs.steps.Seen.{TakesIn, FailsBehind}
use Rattle.pp_rules.proofs.LookingBackLemmas.{spread-use}
use Rattle.pp_rules.proofs.rules.looking_back.first_of_kept.Goals as goal
use Rattle.pp_rules.proofs.rules.looking_back.first_of_kept.Goals.{in_default-via-in-Some+in_default, in_default-via-in_default}

-- the calls of a kept one with a set are the edges of its bytes
edges : (c : goal.After-first_of_set) → (target : List ℕ) × (spread c.args.call.now c.args.set.now ≡ map (byte_call c.in-Some-Some.how target) (bytes_of c.in-Some-Some.bytes))
edges c =
    spread-use c.args.call.now c.args.set.now c.in-Some-Some.bytes c.in-Some-Some.how c.requires c.in-Some-Some.is-0 (λ other target b e. (subst (λ u. IsSomeAnd u (λ r. (r.0 ≡ other) × (r.1.now ≡ target))) c.in-Some-Some.is-1 (c.use_of.ensures other target b e)).0)

pub returns-in-Some-Some-clause-fails : goal.returns-in-Some-Some-clause-fails
returns-in-Some-Some-clause-fails c before s =
    subst (λ xs. IsLeast (FailsBehind c.args.rule before xs) c.first_of_set.result) (sym (edges c).1) (c.first_of_set.ensures.fails before (edges c).0 s)

pub returns-in-Some-Some-clause-taken : goal.returns-in-Some-Some-clause-taken
returns-in-Some-Some-clause-taken c none before s =
    subst (λ xs. TakesIn c.args.rule c.first_of_set.new.seen (before ++ xs)) (sym (edges c).1) (c.first_of_set.ensures.taken none before (edges c).0 s)

-- one without a set stands for itself
alone : (c : goal.After-first_of_one) → spread c.args.call.now c.args.set.now ≡ c.args.call.now ∷ []
alone c = elim c.in_default.branch [
  | in_default-via-in-Some+in_default w ↦
      let set = subst (IsSetOf c.args.call.now) w.in_default.is-0 c.requires in
      absurd (subst (λ u. IsSomeAnd u (λ r. (r.0 ≡ set.0) × (r.1.now ≡ set.1))) w.in_default.is-1 (c.use_of.ensures set.0 set.1 set.2 set.3))
  | in_default-via-in_default w ↦ ap (spread c.args.call.now) w.in_default.is-0
]

pub returns-in_default-clause-taken : goal.returns-in_default-clause-taken
returns-in_default-clause-taken c =
    subst (λ xs. IfOk c.first_of_one.result (λ found. IsNone found → (before : List BuilderCall) → TakesIn c.args.rule c.args.seen.now before → TakesIn c.args.rule c.first_of_one.new.seen (before ++ xs))) (sym (alone c)) c.first_of_one.ensures.taken
