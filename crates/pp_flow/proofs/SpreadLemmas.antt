-- A table of pairs that grows.
use Rattle.std.proofs.Common.{◌≡◌, ◌≢◌, ℕ, ◌<◌, ◌⊎◌, ◌||◌, Bool, true, false, List, length, refl, sym, ◌∙◌, ap, inl, inr}
use Rattle.std.proofs.lemmas.Bool.{cases_eq, false≢true}
use Rattle.pp_flow.specs.steps.Bits.{has_pair, Has}
use Rattle.pp_flow.specs.steps.Spread.{Grows}

pub was_missing : (a c : Bool) → (a ≡ true → c ≡ true) → c ≡ false → a ≡ false
was_missing true c h e = absurd (false≢true (sym e ∙ h refl))
was_missing false c h e = refl

pub not_both : (a : Bool) → a ≡ true → a ≡ false → ⊥
not_both a t f = false≢true (sym f ∙ t)

pub true_or_false : (a : Bool) → (a ≡ true) ⊎ (a ≡ false)
true_or_false true = inl refl
true_or_false false = inr refl

-- all pairs but one are as they were
abbrev pub SameBut : List ℕ → List ℕ → ℕ → ℕ → Type 0
SameBut old new node b = (x c : ℕ) → c < 256 → (x ≢ node) ⊎ (c ≢ b) → has_pair new x c ≡ has_pair old x c

-- the pair that was added, or another one
pub this_or_other : (x node c b : ℕ) → ((x ≡ node) × (c ≡ b)) ⊎ ((x ≢ node) ⊎ (c ≢ b))
this_or_other x node c b = elim (cases_eq x node) [
  | inl e ↦ elim (cases_eq c b) [ inl f ↦ inl (e, f) | inr f ↦ inr (inr f) ]
  | inr e ↦ inr (inl e)
]

pub add_keeps : (old new : List ℕ) (node b : ℕ) → Has new node b → SameBut old new node b → (x c : ℕ) → c < 256 → Has old x c → Has new x c
add_keeps old new node b here others x c h p = elim (this_or_other x node c b) [
  | inl e ↦ ap (λ (y : ℕ). has_pair new y c) e.0 ∙ (ap (λ (y : ℕ). has_pair new node y) e.1 ∙ here)
  | inr o ↦ others x c h o ∙ p
]

pub grows_first : (to : ℕ) (words : List ℕ) → Grows to words words false
grows_first to words = record {
  long = refl;
  keeps = λ x b h p. p;
  others = λ x b h o p. p;
  same = λ e x b h p. p;
  more = λ e. absurd (false≢true e);
}

pub grows_add : (to b : ℕ) (old mid new : List ℕ) (changed : Bool) → b < 256 → Grows to old mid changed → has_pair mid to b ≡ false →
    length new ≡ length mid → Has new to b → SameBut mid new to b → Grows to old new true
grows_add to b old mid new changed h g missing long here others = record {
  long = long ∙ g.long;
  keeps = λ x c n p. add_keeps mid new to b here others x c n (g.keeps x c n p);
  others = λ x c n o p. g.others x c n o (sym (others x c n (inl o)) ∙ p);
  same = λ e. absurd (false≢true (sym e));
  more = λ _. (b, h, here, was_missing (has_pair old to b) (has_pair mid to b) (g.keeps to b h) missing);
}

-- one growth after another
pub grows_twice : (to : ℕ) (old mid new : List ℕ) (one two : Bool) → Grows to old mid one → Grows to mid new two → Grows to old new (one || two)
grows_twice to old mid new one two g h = record {
  long = h.long ∙ g.long;
  keeps = λ x c n p. h.keeps x c n (g.keeps x c n p);
  others = λ x c n o p. g.others x c n o (h.others x c n o p);
  same = λ e x c n p. (let f : (one ≡ false) × (two ≡ false) = neither one two e in g.same f.0 x c n (h.same f.1 x c n p));
  more = λ e. elim (some one two e) [
    | inl t ↦ (let p = g.more t in (p.0, p.1, h.keeps to p.0 p.1 p.2, p.3))
    | inr t ↦ (let p = h.more t in (p.0, p.1, p.2, was_missing (has_pair old to p.0) (has_pair mid to p.0) (g.keeps to p.0 p.1) p.3))
  ];
}
  where
    neither : (a b : Bool) → (a || b) ≡ false → (a ≡ false) × (b ≡ false)
    neither true b e = absurd (false≢true (sym e))
    neither false b e = (refl, e)

    some : (a b : Bool) → (a || b) ≡ true → (a ≡ true) ⊎ (b ≡ true)
    some true b e = inl refl
    some false b e = inr e
