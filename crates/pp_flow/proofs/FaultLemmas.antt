-- What is told of a point's faults.
use Rattle.std.proofs.Common.{◌≡◌, ◌≢◌, ◌↔◌, ◌⊎◌, ℕ, ◌+◌, ◌*◌, ◌<◌, List, Option, Some, None, subst, refl, sym, ◌∙◌, arith, inl, inr}
use Rattle.pp_flow.specs.declared.faults.SpanFault.{SpanFault}
use Rattle.pp_flow.specs.declared.faults.SpanFault.TheVariants.{Reopened, NotOpen, Mixed}
use Rattle.pp_flow.specs.declared.moves.Act.{Act}
use Rattle.pp_flow.specs.declared.moves.Act.TheVariants.{Goes, Opens, Closes, Fails}
use Rattle.pp_flow.specs.Faults.{Reopens, ClosesShut, Mixes, HasNo, HasNoFault, IsFirstAt, IsFirstFault}
use Rattle.pp_flow.specs.steps.Faults.{IsMixedFault, IsToldAt}
use Rattle.pp_flow.specs.Spans.{act_at, HaveSpans}

module _ (stands : ℕ → ℕ → Type 0) (acts : List Act) (n : ℕ) where
  pub told_mixed : (o : Option SpanFault) → IsMixedFault stands n o → act_at acts n ≢ Fails → HasNo (Reopens stands acts n) → HasNo (ClosesShut stands acts n) → IsToldAt stands acts n o
  told_mixed None m a r c = record { reopens = r; closes = c; mixes = λ t q. m t q.0 q.2 q.3 }
  told_mixed (Some (Reopened k s)) m a r c = absurd m
  told_mixed (Some (NotOpen k s)) m a r c = absurd m
  told_mixed (Some (Mixed k s)) m a r c = (m.0, (m.1, a, m.2, m.3), r, c, λ t lt q. m.4 t lt q.2 q.3)

  pub told_fails : act_at acts n ≡ Fails → HasNoFault stands acts n
  told_fails e = record {
    reopens = λ s q. (let f : Opens s ≡ Fails = sym q.0 ∙ e in cc);
    closes = λ s q. (let f : Closes s ≡ Fails = sym q.0 ∙ e in cc);
    mixes = λ s q. q.1 e;
  }

  pub told_reopened : (s : ℕ) → act_at acts n ≡ Opens s → stands (s * 2 + 1) n → IsFirstAt stands acts n (Reopened n s)
  told_reopened s e q = (refl, (e, q), λ t lt p. (let f : Opens s ≡ Opens t = sym e ∙ p.0 in let g : s ≡ t = cc in omega arith))

  pub told_closed : (s : ℕ) → act_at acts n ≡ Closes s → stands (s * 2) n → IsFirstAt stands acts n (NotOpen n s)
  told_closed s e q = (refl, (e, q), λ t p. (let f : Closes s ≡ Opens t = sym e ∙ p.0 in cc), λ t lt p. (let f : Closes s ≡ Closes t = sym e ∙ p.0 in let g : s ≡ t = cc in omega arith))

  pub told_opens : (s : ℕ) (o : Option SpanFault) → act_at acts n ≡ Opens s → (stands (s * 2 + 1) n → ⊥) → IsMixedFault stands n o → IsToldAt stands acts n o
  told_opens s o e shut m = told_mixed o m (λ f. (let g : Opens s ≡ Fails = sym e ∙ f in cc))
      (λ t q. (let f : Opens s ≡ Opens t = sym e ∙ q.0 in let g : t ≡ s = cc in shut (subst (λ (x : ℕ). stands (x * 2 + 1) n) g q.1)))
      (λ t q. (let f : Opens s ≡ Closes t = sym e ∙ q.0 in cc))

  pub told_closes : (s : ℕ) (o : Option SpanFault) → act_at acts n ≡ Closes s → (stands (s * 2) n → ⊥) → IsMixedFault stands n o → IsToldAt stands acts n o
  told_closes s o e opened m = told_mixed o m (λ f. (let g : Closes s ≡ Fails = sym e ∙ f in cc))
      (λ t q. (let f : Closes s ≡ Opens t = sym e ∙ q.0 in cc))
      (λ t q. (let f : Closes s ≡ Closes t = sym e ∙ q.0 in let g : t ≡ s = cc in opened (subst (λ (x : ℕ). stands (x * 2) n) g q.1)))

  pub told_goes : (o : Option SpanFault) → act_at acts n ≡ Goes → IsMixedFault stands n o → IsToldAt stands acts n o
  told_goes o e m = told_mixed o m (λ f. (let g : Goes ≡ Fails = sym e ∙ f in cc)) (λ t q. (let f : Goes ≡ Opens t = sym e ∙ q.0 in cc)) (λ t q. (let f : Goes ≡ Closes t = sym e ∙ q.0 in cc))

-- the same faults by another table of standings
module _ (one two : ℕ → ℕ → Type 0) (same : (b n : ℕ) → b < 64 → one b n ↔ two b n) (acts : List Act) (small : HaveSpans acts) where
  pub no_fault_same : (n : ℕ) → HasNoFault one acts n → HasNoFault two acts n
  no_fault_same n h = record {
    reopens = λ s q. h.reopens s (q.0, (same (s * 2 + 1) n (let l : s < 32 = small n s (inl q.0) in omega arith)).1 q.1);
    closes = λ s q. h.closes s (q.0, (same (s * 2) n (let l : s < 32 = small n s (inr q.0) in omega arith)).1 q.1);
    mixes = λ s q. h.mixes s (q.0, q.1, (same (s * 2 + 1) n (omega (arith, q.0))).1 q.2, (same (s * 2) n (omega (arith, q.0))).1 q.3);
  }

  reopens_back : (n s : ℕ) → Reopens two acts n s → Reopens one acts n s
  reopens_back n s q = (q.0, (same (s * 2 + 1) n (let l : s < 32 = small n s (inl q.0) in omega arith)).1 q.1)

  closes_back : (n s : ℕ) → ClosesShut two acts n s → ClosesShut one acts n s
  closes_back n s q = (q.0, (same (s * 2) n (let l : s < 32 = small n s (inr q.0) in omega arith)).1 q.1)

  mixes_back : (n s : ℕ) → Mixes two acts n s → Mixes one acts n s
  mixes_back n s q = (q.0, q.1, (same (s * 2 + 1) n (omega (arith, q.0))).1 q.2, (same (s * 2) n (omega (arith, q.0))).1 q.3)

  first_at_same : (n : ℕ) (f : SpanFault) → IsFirstAt one acts n f → IsFirstAt two acts n f
  first_at_same n (Reopened m s) h = (h.0, (h.1.0, (same (s * 2 + 1) n (let l : s < 32 = small n s (inl h.1.0) in omega arith)).0 h.1.1), λ t lt q. h.2 t lt (reopens_back n t q))
  first_at_same n (NotOpen m s) h = (h.0, (h.1.0, (same (s * 2) n (let l : s < 32 = small n s (inr h.1.0) in omega arith)).0 h.1.1), λ t q. h.2 t (reopens_back n t q), λ t lt q. h.3 t lt (closes_back n t q))
  first_at_same n (Mixed m s) h = (
    h.0,
    (h.1.0, h.1.1, (same (s * 2 + 1) n (omega (arith, h.1.0))).0 h.1.2, (same (s * 2) n (omega (arith, h.1.0))).0 h.1.3),
    λ t q. h.2 t (reopens_back n t q),
    λ t q. h.3 t (closes_back n t q),
    λ t lt q. h.4 t lt (mixes_back n t q),
  )

  pub first_same : (f : SpanFault) → IsFirstFault one acts f → IsFirstFault two acts f
  first_same f h = record { node = h.node; first = first_at_same h.node f h.first; before = λ m lt. no_fault_same m (h.before m lt) }

-- a point opens or closes one span at most
pub one_span : (act : Act) (s t : ℕ) → (act ≡ Opens s) ⊎ (act ≡ Closes s) → (act ≡ Opens t) ⊎ (act ≡ Closes t) → s ≡ t
one_span act s t (inl a) (inl c) = (let f : Opens s ≡ Opens t = sym a ∙ c in cc)
one_span act s t (inr a) (inr c) = (let f : Closes s ≡ Closes t = sym a ∙ c in cc)
one_span act s t (inl a) (inr c) = absurd (let f : Opens s ≡ Closes t = sym a ∙ c in cc)
one_span act s t (inr a) (inl c) = absurd (let f : Closes s ≡ Opens t = sym a ∙ c in cc)
