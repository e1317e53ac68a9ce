-- What stands in front of a CR at the end, or all where none stands there.
use Rattle.std.proofs.Common.{◌≡◌, ◌≢◌, ◌++◌, ◌∷◌, [], ℕ, List, Bor, sym, subst, refl, inl, inr}
use Rattle.std.proofs.lemmas.Bool.Decides.{Decides-eqb}
use Rattle.std.specs.Prelude.{codes, Option, Some, None, MatchOption, unwrap_or}
use Rattle.std.proofs.lemmas.Slice.Eq.{strip_suffix_is}
use Rattle.pp_text.specs.Text.{IsRowOf}
use Rattle.pp_text.proofs.line.without_cr.Goals as goal

row_of_stripped : (bytes w : Bor (List ℕ)) (r : Option (Bor (List ℕ))) →
    MatchOption r ((front : List ℕ) → bytes.now ≢ front ++ 13 ∷ []) (λ x. bytes.now ≡ x.now ++ 13 ∷ []) → w ≡ unwrap_or r bytes → IsRowOf bytes.now w.now
row_of_stripped bytes w None h e = subst (λ (x : Bor (List ℕ)). IsRowOf bytes.now x.now) (sym e) (inr (refl, h))
row_of_stripped bytes w (Some x) h e = subst (λ (y : Bor (List ℕ)). IsRowOf bytes.now y.now) (sym e) (inl h)

pub returns : goal.returns
returns c =
    let said = strip_suffix_is Decides-eqb c.args.bytes.now (codes "\r") c.strip_suffix.result c.strip_suffix.ensures.cases in
    row_of_stripped c.args.bytes c.unwrap_or.result c.strip_suffix.result said c.unwrap_or.ensures
