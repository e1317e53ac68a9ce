-- Runs whose hosts answer alike for a while tell the same for that while.
use Rattle.std.proofs.Common.{◌≡◌, ℕ, zero, suc, ◌⊎◌, inl, inr, List, [], ◌∷◌, ◌++◌, Some, refl, sym, ◌∙◌, ap, subst, append_assoc}
use Rattle.pp_event.specs.declared.item.Item.{Item}
use Rattle.pp_event.specs.declared.item.Item.TheVariants.{Call}
use Rattle.pp_event.specs.Chain.{Move, On, Over, then, run_for}
use Rattle.pp_event.specs.Run.{Turn, Goes, Asks, Rests, Stops, Fails, Machine, Oracle, Stage, RunResult, move, move_by, telling}
use Rattle.pp_event.specs.Answers.{Honest}
use Rattle.pp_event.specs.Growth.{Extends}
use Rattle.pp_event.proofs.RunLaws.{grows}

-- one list begins with the other
pub record BeginsWith (all first : List Item) : Type 0 where
  pub more : List Item
  pub is : all ≡ first ++ more

-- it goes on so
record GoesBeyond (all first : List Item) : Type 0 where
  one : Item
  more : List Item
  is : all ≡ first ++ one ∷ more

beyond-cons : (x y : Item) (a c : List Item) → x ≡ y → GoesBeyond c a → GoesBeyond (y ∷ c) (x ∷ a)
beyond-cons x y a c e g = record { one = g.one; more = g.more; is = ap (λ (z : Item). z ∷ c) (sym e) ∙ ap (λ (l : List Item). x ∷ l) g.is }

begins-cons : (x y : Item) (a c : List Item) → x ≡ y → BeginsWith a c → BeginsWith (x ∷ a) (y ∷ c)
begins-cons x y a c e g = record { more = g.more; is = ap (λ (z : Item). z ∷ a) e ∙ ap (λ (l : List Item). y ∷ l) g.is }

-- of two fronts of a list one begins with the other
fronts : (a b c d : List Item) → a ++ b ≡ c ++ d → BeginsWith a c ⊎ GoesBeyond c a
fronts a b [] d e = inl (record { more = a; is = refl })
fronts [] b (y ∷ c) d e = inr (record { one = y; more = c; is = refl })
fronts (x ∷ a) b (y ∷ c) d e =
    let head : x ≡ y = cc in
    let tail : a ++ b ≡ c ++ d = cc in
    elim (fronts a b c d tail) [ inl g ↦ inl (begins-cons x y a c head g) | inr g ↦ inr (beyond-cons x y a c head g) ]

cancel : (a b c : List Item) → a ++ b ≡ a ++ c → b ≡ c
cancel [] b c e = e
cancel (x ∷ a) b c e = (let t : a ++ b ≡ a ++ c = cc in cancel a b c t)

heads : {x y : Item} {a b : List Item} → x ∷ a ≡ y ∷ b → x ≡ y
heads e = cc

module _ (turn : Machine) (one other : Oracle) (xs : List Item) (h : Honest other xs) where
  same_move : (n : ℕ) (s : Stage) (r : RunResult) (ys : List Item) (t : Turn) → GoesBeyond xs s.items → r.last.items ≡ xs ++ ys → then (run_for (move turn one) n) (move_by one s t) ≡ Some r →
      move_by one s t ≡ move_by other s t
  same_move n s r ys (Goes d k items) g e p = refl
  same_move n s r ys (Asks code value next) g e p =
      let x : Item = Call code value s.config.at s.config.values (one s.items code) in
      let grown : Extends (s.items ++ x ∷ []) r.last.items = grows turn one n (telling s (x ∷ []) (next (one s.items code)) s.rest) r p in
      let both : s.items ++ (x ∷ grown.0) ≡ s.items ++ (g.one ∷ (g.more ++ ys)) =
      sym (append_assoc s.items (x ∷ []) grown.0) ∙ sym grown.1 ∙ e ∙ ap (λ (l : List Item). l ++ ys) g.is ∙ append_assoc s.items (g.one ∷ g.more) ys in
      let first : x ≡ g.one = heads (cancel s.items (x ∷ grown.0) (g.one ∷ (g.more ++ ys)) both) in
      let there : xs ≡ s.items ++ x ∷ g.more = g.is ∙ ap (λ (z : Item). s.items ++ z ∷ g.more) (sym first) in
      let same : other s.items code ≡ one s.items code = h s.items g.more code value s.config.at s.config.values (one s.items code) there in
      ap (λ (a : ℕ). On (telling s (Call code value s.config.at s.config.values a ∷ []) (next a) s.rest)) (sym same)
  same_move n s r ys (Rests d) g e p = refl
  same_move n s r ys (Stops code d) g e p = refl
  same_move n s r ys (Fails code) g e p = refl

  both_ways : (n m : ℕ) (r q : RunResult) (ys : List Item) → r.last.items ≡ xs ++ ys →
      ((d : Stage) → run_for (move turn one) n d ≡ Some r → run_for (move turn other) m d ≡ Some q → BeginsWith q.last.items xs) →
      (u v : Move Stage RunResult) → u ≡ v → then (run_for (move turn one) n) u ≡ Some r → then (run_for (move turn other) m) v ≡ Some q → BeginsWith q.last.items xs
  both_ways n m r q ys e go u v same p k = each u p (subst (λ (x : Move Stage RunResult). then (run_for (move turn other) m) x ≡ Some q) (sym same) k)
    where
      each : (u : Move Stage RunResult) → then (run_for (move turn one) n) u ≡ Some r → then (run_for (move turn other) m) u ≡ Some q → BeginsWith q.last.items xs
      each (On d) p k = go d p k
      each (Over z) p k =
          (let a : z ≡ r = cc in
          let b : z ≡ q = cc in
          record { more = ys; is = ap (λ (y : RunResult). y.last.items) (sym b ∙ a) ∙ e })

  -- a run under another oracle that gives the answers of the first items begins with these
  pub begins_for : (n m : ℕ) (s : Stage) (r q : RunResult) (ys : List Item) → run_for (move turn one) n s ≡ Some r → run_for (move turn other) m s ≡ Some q → r.last.items ≡ xs ++ ys →
      BeginsWith q.last.items xs
  begins_for zero m s r q ys p k e = cc
  begins_for (suc n) zero s r q ys p k e = cc
  begins_for (suc n) (suc m) s r q ys p k e =
      let g : Extends s.items r.last.items = grows turn one (suc n) s r p in
      let f : Extends s.items q.last.items = grows turn other (suc m) s q k in
      elim (fronts s.items g.0 xs ys (sym g.1 ∙ e)) [
        | inl b ↦ record { more = b.more ++ f.0; is = f.1 ∙ ap (λ (l : List Item). l ++ f.0) b.is ∙ append_assoc xs b.more f.0 }
        | inr b ↦ both_ways n m r q ys e (λ d u v. begins_for n m d r q ys u v e) (move turn one s) (move turn other s) (same_move n s r ys (turn s.config s.rest) b e p) p k
      ]
