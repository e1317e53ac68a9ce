-- A status that is no fault comes of a verdict.
use Rattle.std.proofs.Common.{◌≡◌, ◌≢◌, ℕ, ◌⊎◌, inl, inr, List, [], Option, refl, sym, ap, subst, ◌∙◌}
use Rattle.pp_outside.specs.Sink.{Adds, AddsSome}
use Rattle.pp_tool.specs.declared.refusal.Refusal.{Refusal}
use Rattle.pp_tool.specs.declared.status.Status.{Status}
use Rattle.pp_tool.specs.declared.status.Status.TheVariants as status
use Rattle.pp_tool.specs.Answers.{status_of}
use Rattle.pp_tool.specs.Verdict.{Refuses, Verdict, IsOnly, IsFault, HasLines, Concludes, status_by, lines_by}

-- The answer is that of this verdict, or yields to a fault; to a failed write only where there is something to write.
abbrev pub Fits : Verdict → Status → Type 0
Fits v answer = (answer ≡ status_by v) ⊎ (answer ≡ status.ReadFault) ⊎ (answer ≡ status.NoMemory) ⊎ ((answer ≡ status.WriteFault) × HasLines v)

-- it comes of a verdict, or of a fault; and whatever the verdict is, it fits that
pub record IsAnswered (Decided : Verdict → Type 0) (answer : Status) : Type 0 where
  pub found : IsFault answer ⊎ ((v : Verdict) × Decided v × (answer ≡ status_by v))
  pub always : (v : Verdict) → Decided v → Fits v answer

written : (Decided : Verdict → Type 0) (answer : Status) (one v : Verdict) → IsOnly Decided one → answer ≡ status_by one → Decided v → Fits v answer
written Decided answer one v only e d = inl (e ∙ ap status_by (sym (only.1 v d)))

cut : (Decided : Verdict → Type 0) (answer : Status) (one v : Verdict) → IsOnly Decided one → answer ≡ status.WriteFault → HasLines one → Decided v → Fits v answer
cut Decided answer one v only e lines d = inr (inr (inr (e, subst HasLines (sym (only.1 v d)) lines)))

of_one : (Decided : Verdict → Type 0) (answer : Status) (one : Verdict) (before after : Option (List ℕ)) → IsOnly Decided one →
    ((answer ≡ status_by one) × Adds before after (lines_by one)) ⊎ ((answer ≡ status.WriteFault) × HasLines one × AddsSome before after (lines_by one)) → IsAnswered Decided answer
of_one Decided answer one before after only (inl h) = record { found = inr (one, only.0, h.0); always = λ v d. written Decided answer one v only h.0 d }
of_one Decided answer one before after only (inr h) = record { found = inl (inr (inl h.0)); always = λ v d. cut Decided answer one v only h.0 h.1 d }

-- an answer as a command gives it
pub answered : (Decided : Verdict → Type 0) (answer : Status) (before after : Option (List ℕ)) → Concludes Decided answer before after → IsAnswered Decided answer
answered Decided answer before after (inl e) = record { found = inl (inl e); always = λ v d. inr (inl e) }
answered Decided answer before after (inr (inl e)) = record { found = inl (inr (inr e)); always = λ v d. inr (inr (inl e)) }
answered Decided answer before after (inr (inr h)) = of_one Decided answer h.0 before after h.1 h.2

-- not one of the three faults
pub record IsNoFault (this : Status) : Type 0 where
  pub read : status.ReadFault ≢ this
  pub write : status.WriteFault ≢ this
  pub memory : status.NoMemory ≢ this

pub no_fault : (answer this : Status) → IsNoFault this → answer ≡ this → IsFault answer → ⊥
no_fault answer this none e (inl f) = none.read (sym f ∙ e)
no_fault answer this none e (inr (inl f)) = none.write (sym f ∙ e)
no_fault answer this none e (inr (inr f)) = none.memory (sym f ∙ e)

of_verdict : (Decided : Verdict → Type 0) (answer this : Status) → IsNoFault this → answer ≡ this → IsFault answer ⊎ ((v : Verdict) × Decided v × (answer ≡ status_by v)) →
    (v : Verdict) × Decided v × (status_by v ≡ this)
of_verdict Decided answer this none e (inl f) = absurd (no_fault answer this none e f)
of_verdict Decided answer this none e (inr h) = (h.0, h.1, sym h.2 ∙ e)

pub found : (Decided : Verdict → Type 0) (answer this : Status) → IsNoFault this → IsAnswered Decided answer → answer ≡ this → (v : Verdict) × Decided v × (status_by v ≡ this)
found Decided answer this none answered e = of_verdict Decided answer this none e answered.found

-- a refusal before any line yields to a failed read and to want of memory alone
pub bare : (r : Refusal) (answer : Status) → Fits (Refuses r []) answer → (answer ≡ status_of r) ⊎ (answer ≡ status.ReadFault) ⊎ (answer ≡ status.NoMemory)
bare r answer (inl h) = inl h
bare r answer (inr (inl h)) = inr (inl h)
bare r answer (inr (inr (inl h))) = inr (inr h)
bare r answer (inr (inr (inr h))) = absurd (h.1 refl)

pub graph_no_fault : IsNoFault status.Graph
graph_no_fault = record { read = λ e. absurd cc; write = λ e. absurd cc; memory = λ e. absurd cc }

pub check_no_fault : IsNoFault status.Check
check_no_fault = record { read = λ e. absurd cc; write = λ e. absurd cc; memory = λ e. absurd cc }

pub too_long_no_fault : IsNoFault status.TooLong
too_long_no_fault = record { read = λ e. absurd cc; write = λ e. absurd cc; memory = λ e. absurd cc }

pub capture_no_fault : IsNoFault status.Capture
capture_no_fault = record { read = λ e. absurd cc; write = λ e. absurd cc; memory = λ e. absurd cc }

pub program_no_fault : IsNoFault status.Program
program_no_fault = record { read = λ e. absurd cc; write = λ e. absurd cc; memory = λ e. absurd cc }
