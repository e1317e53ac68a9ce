-- The sets that a report's subject takes are those that a program can hold.
use Rattle.std.proofs.Common.{◌≡◌, ℕ, zero, suc, ◌<◌, ◌≤◌, arith, List, [], ◌∷◌, Some, refl, sym, subst, map, length}
use Rattle.std.specs.Prelude.{◌↔◌, All, slice_get, slice_index}
use Rattle.std.proofs.lemmas.List.{length-map}
use Rattle.std.proofs.lemmas.List.Elements.{All-nil, All-cons, All-head, All-tail}
use Rattle.pp_rules.specs.Widths.{greatest}
use Rattle.pp_rules.specs.declared.declaration.PropDecl.{PropDecl}
use Rattle.pp_program.specs.declared.program.Program.{Program}
use Rattle.pp_program.specs.Runnable.{CanHold}
use Rattle.pp_engine.specs.Sets.{AreRight}
use Rattle.pp_trace.specs.Faults.{FitsProperty}
use Rattle.pp_trace.specs.Programs.{program_subject}
use Rattle.pp_trace.specs.Subject.{SeenRuns}

abbrev most : List PropDecl → List ℕ
most props = map (λ (d : PropDecl). greatest d.width) props

-- the property at a place can hold what is at most its greatest value
holds : (props : List PropDecl) (i value : ℕ) → value ≤ slice_index (most props) i → (d : PropDecl) → slice_get props i ≡ Some d → value ≤ greatest d.width
holds [] i value h d e = cc
holds (x ∷ props) zero value h d e = (let same : x ≡ d = cc in subst (λ (y : PropDecl). value ≤ greatest y.width) same h)
holds (x ∷ props) (suc i) value h d e = holds props i value h d e

-- and the other way round
fits : (props : List PropDecl) (i value : ℕ) → i < length props → ((d : PropDecl) → slice_get props i ≡ Some d → value ≤ greatest d.width) →
    value ≤ slice_index (most props) i
fits [] i value l h = absurd (omega (arith, l))
fits (x ∷ props) zero value l h = h x refl
fits (x ∷ props) (suc i) value l h = fits props i value (omega (arith, l)) h

-- one set
pub set_fits : (p : Program) (run : SeenRuns) (set : ℕ × ℕ) → FitsProperty (program_subject p run) set ↔ CanHold p set.0 set.1
set_fits p run set =
    let long : length (most p.props) ≡ length p.props = length-map p.props (λ (d : PropDecl). greatest d.width) in (
      (λ h. record { within = subst (λ (n : ℕ). set.0 < n) long h.0; wide = holds p.props set.0 set.1 h.1 }),
      (λ h. (subst (λ (n : ℕ). set.0 < n) (sym long) h.within, fits p.props set.0 set.1 h.within h.wide)),
    )

-- all sets of a list
right_sets : (p : Program) (run : SeenRuns) (sets : List (ℕ × ℕ)) → All (FitsProperty (program_subject p run)) sets → AreRight p sets
right_sets p run [] h i set e = cc
right_sets p run (x ∷ sets) h zero set e =
    let same : x ≡ set = cc in
    subst (λ (y : ℕ × ℕ). CanHold p y.0 y.1) same ((set_fits p run x).0 (All-head (FitsProperty (program_subject p run)) x sets h))
right_sets p run (x ∷ sets) h (suc i) set e = right_sets p run sets (All-tail (FitsProperty (program_subject p run)) x sets h) i set e

fitting_sets : (p : Program) (run : SeenRuns) (sets : List (ℕ × ℕ)) → AreRight p sets → All (FitsProperty (program_subject p run)) sets
fitting_sets p run [] h = All-nil (FitsProperty (program_subject p run))
fitting_sets p run (x ∷ sets) h =
    All-cons (FitsProperty (program_subject p run)) x sets ((set_fits p run x).1 (h 0 x refl)) (fitting_sets p run sets (λ i set e. h (suc i) set e))

-- they fit exactly where a parser takes them
pub sets_fit : (p : Program) (run : SeenRuns) (sets : List (ℕ × ℕ)) → All (FitsProperty (program_subject p run)) sets ↔ AreRight p sets
sets_fit p run sets = (right_sets p run sets, fitting_sets p run sets)
