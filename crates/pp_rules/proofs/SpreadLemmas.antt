-- All calls, one by one, from the kept ones and their sets.
use Rattle.std.proofs.Common.{◌≡◌, ◌⊎◌, inl, inr, List, [], ◌∷◌, ◌++◌, Option, Some, Global, Vec, vec_len, length, ap, ap₂, refl, subst, sym, ◌∙◌, arith, append_assoc}
use Rattle.std.specs.Prelude.{None as none}
use Rattle.std.specs.FinSet as set
use Rattle.std.specs.Ordering.{nat_cmp}
use Rattle.std.specs.Vec.Iter.{into_iter_items, into_iter_len, into_iter_steps}
use Rattle.std.specs.Iterator.Adapters.{zip_first, zip_second, zip_steps}
use Rattle.std.specs.declared.vec.IntoIter.{IntoIter}
use Rattle.std.specs.declared.iter.Zip.{Zip}
use Rattle.std.proofs.lemmas.List.{append-nil, nil_from_length}
use Rattle.std.proofs.lemmas.Option.{MatchOption-at_none, MatchOption-at_some}
use Rattle.pp_rules.specs.declared.call.BuilderCall.{BuilderCall}
use Rattle.pp_rules.specs.Sets.{spread, all_calls, IsSetOf, AreSets}

abbrev pub Kept : Type 0
Kept = Zip (IntoIter BuilderCall Global) (IntoIter (Option (set.FinSet nat_cmp)) Global)

abbrev pub calls_left : Kept → List BuilderCall
calls_left s = into_iter_items (zip_first s)

abbrev pub sets_left : Kept → List (Option (set.FinSet nat_cmp))
sets_left s = into_iter_items (zip_second s)

-- what is done, and the calls that the kept ones that are left stand for, are the whole list
pub record IsLeft (s : Kept) (done whole : List BuilderCall) : Type 0 where
  pub sets : AreSets (calls_left s) (sets_left s)
  pub all : done ++ all_calls (calls_left s) (sets_left s) ≡ whole
  pub calls_count : into_iter_len (zip_first s) ≡ length (calls_left s)
  pub sets_count : into_iter_len (zip_second s) ≡ length (sets_left s)

abbrev pub kept_steps : Kept → Option (BuilderCall × Option (set.FinSet nat_cmp)) → Kept → Type 0
kept_steps = zip_steps into_iter_steps into_iter_steps

-- before the first step
pub left-first : (s : Kept) (kept : Vec BuilderCall Global) (sets : Vec (Option (set.FinSet nat_cmp)) Global) (done whole : List BuilderCall) → calls_left s ≡ kept.items → into_iter_len (zip_first s) ≡ vec_len kept → sets_left s ≡ sets.items → into_iter_len (zip_second s) ≡ vec_len sets → AreSets kept.items sets.items → done ≡ [] → all_calls kept.items sets.items ≡ whole → IsLeft s done whole
left-first s kept sets done whole calls calls_long others sets_long are_sets begun is = record {
  sets = subst (λ ys. AreSets (calls_left s) ys) (sym others) (subst (λ xs. AreSets xs sets.items) (sym calls) are_sets);
  all = ap (λ xs. xs ++ all_calls (calls_left s) (sets_left s)) begun ∙ ap₂ all_calls calls others ∙ is;
  calls_count = omega (arith, calls_long, ap length calls, kept.ok);
  sets_count = omega (arith, sets_long, ap length others, sets.ok);
}

module _ (s t : Kept) (c : BuilderCall) (x : Option (set.FinSet nat_cmp)) (r : Option (BuilderCall × Option (set.FinSet nat_cmp))) (is : r ≡ Some (c, x)) (step : kept_steps s r t) where
  one : into_iter_steps (zip_first s) (Some c) (zip_first t) × into_iter_steps (zip_second s) (Some x) (zip_second t)
  one = MatchOption-at_some _ _ (c, x) is step

  are_sets : AreSets (calls_left s) (sets_left s) → AreSets (c ∷ calls_left t) (x ∷ sets_left t)
  are_sets h = subst (λ ys. AreSets (c ∷ calls_left t) ys) one.1.0 (subst (λ xs. AreSets xs (sets_left s)) one.0.0 h)

  -- the call and the set of this step belong together
  pub left-set : (done whole : List BuilderCall) → IsLeft s done whole → IsSetOf c x
  left-set done whole left = (are_sets left.sets).0

  -- behind it what it stands for is done too
  pub left-more : (done after whole : List BuilderCall) → IsLeft s done whole → after ≡ done ++ spread c x → IsLeft t after whole
  left-more done after whole left more = record {
    sets = (are_sets left.sets).1;
    all =
        ap (λ xs. xs ++ all_calls (calls_left t) (sets_left t)) more
        ∙ append_assoc done (spread c x) (all_calls (calls_left t) (sets_left t))
        ∙ ap (λ xs. done ++ xs) (sym (ap₂ all_calls one.0.0 one.1.0))
        ∙ left.all;
    calls_count = omega (arith, one.0.1, ap length one.0.0, left.calls_count);
    sets_count = omega (arith, one.1.1, ap length one.1.0, left.sets_count);
  }

-- no calls without a kept call, and none without a set
none-left : (calls : List BuilderCall) (sets : List (Option (set.FinSet nat_cmp))) → (calls ≡ []) ⊎ (sets ≡ []) → all_calls calls sets ≡ []
none-left calls sets (inl e) = ap (λ xs. all_calls xs sets) e
none-left [] sets (inr e) = refl
none-left (c ∷ calls) sets (inr e) = ap (all_calls (c ∷ calls)) e

-- behind the last step all is done
pub left-none : (s t : Kept) (r : Option (BuilderCall × Option (set.FinSet nat_cmp))) (done whole : List BuilderCall) → r ≡ none → kept_steps s r t → IsLeft s done whole → done ≡ whole
left-none s t r done whole is step left =
    let ended : (calls_left s ≡ []) ⊎ (sets_left s ≡ []) = elim (MatchOption-at_none _ _ is step) [
      | inl p ↦ inl (nil_from_length (calls_left s) (omega (arith, p.1.0, left.calls_count)))
      | inr p ↦ inr (nil_from_length (sets_left s) (omega (arith, p.1.0, left.sets_count)))
    ] in
    sym (append-nil done) ∙ ap (λ xs. done ++ xs) (sym (none-left (calls_left s) (sets_left s) ended)) ∙ left.all
