-- What a builder knows of its calls, after one more call.
use Rattle.std.proofs.Common.{◌≡◌, ◌<◌, suc, zero, List, [], ◌∷◌, ◌++◌, Bool, length, ap, subst, arith}
use Rattle.std.proofs.lemmas.List.{length_push}
use Rattle.std.proofs.lemmas.List.Sums.{fold_push}
use Rattle.pp_rules.specs.declared.call.BuilderCall.{BuilderCall}
use Rattle.pp_graph.specs.declared.builder.LastNode.{LastNode}
use Rattle.pp_graph.specs.declared.builder.LastNode.TheVariants as last
use Rattle.pp_graph.specs.Calls.{HasForm, HaveForm, IsRecord, last_after, otherwise_after}

-- the form of one more call
pub HaveForm-push : (calls : List BuilderCall) (c : BuilderCall) → HaveForm calls → HasForm c → HaveForm (calls ++ c ∷ [])
HaveForm-push [] c h p zero b e = let same : c ≡ b = cc in subst HasForm same p
HaveForm-push [] c h p (suc i) b e = absurd cc
HaveForm-push (d ∷ calls) c h p zero b e = h 0 b e
HaveForm-push (d ∷ calls) c h p (suc i) b e = HaveForm-push calls c (λ j a. h (suc j) a) p i b e

-- the record of one more call
pub IsRecord-push : (calls : List BuilderCall) (before : LastNode) (closed : Bool) (c : BuilderCall) → IsRecord calls before closed → HasForm c → length calls < 4294967295 → IsRecord (calls ++ c ∷ []) (last_after before c) (otherwise_after closed c)
IsRecord-push calls before closed c r p small = record {
  forms = HaveForm-push calls c r.forms p;
  few = omega (arith, length_push calls c);
  knows_last = rw (fold_push last_after last.None calls c) (ap (λ n. last_after n c) r.knows_last);
  knows_otherwise = rw (fold_push otherwise_after _ calls c) (ap (λ n. otherwise_after n c) r.knows_otherwise);
}
