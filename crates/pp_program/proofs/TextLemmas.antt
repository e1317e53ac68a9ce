-- The first wrong text, by its place in the list of all texts.
use Rattle.std.proofs.Common.{◌≡◌, ℕ, ◌+◌, ◌≤◌, ◌<◌, List, [], ◌∷◌, ◌++◌, Option, Some, None, refl, subst, arith, length, length-append, map, inl, inr}
use Rattle.std.proofs.lemmas.List.{length-map}
use Rattle.std.proofs.lemmas.Option.{slice_get_within}
use Rattle.pp_rules.specs.declared.declaration.PropDecl.{PropDecl}
use Rattle.pp_rules.specs.declared.declaration.HostDecl.{HostDecl}
use Rattle.pp_rules.specs.declared.declaration.SpanDecl.{SpanDecl}
use Rattle.pp_program.specs.declared.program.State.{State}
use Rattle.pp_program.specs.declared.program.Instr.{Instr}
use Rattle.pp_program.specs.declared.program.Instr.TheVariants.{Branch, Invoke, Consume, SpanOpen, SpanClose, Pause, Fail}
use Rattle.pp_program.specs.declared.program.Program.{Program}
use Rattle.pp_program.specs.Names.{NameFails, ReasonFails, reason_of, reasons_of, TextFails}
use Rattle.pp_program.specs.steps.Least.{IsFirst}

within-map : {X : Type 0} (f : X → List ℕ) (xs : List X) (i : ℕ) → NameFails (map f xs) i → i < length xs
within-map f xs i n = (let low : i < length (map f xs) = slice_get_within (map f xs) i n.0 n.1 in let long : length (map f xs) ≡ length xs = length-map xs f in omega (arith, low, long))

module _ (p : Program) where
  abbrev Props : ℕ → Type 0
  Props = NameFails (map (λ (d : PropDecl). d.name) p.props)

  abbrev Hosts : ℕ → Type 0
  Hosts = NameFails (map (λ (d : HostDecl). d.name) p.hosts)

  abbrev Spans : ℕ → Type 0
  Spans = NameFails (map (λ (d : SpanDecl). d.name) p.spans)

  abbrev Names : ℕ → Type 0
  Names = NameFails p.names

  abbrev Reasons : ℕ → Type 0
  Reasons = ReasonFails (reasons_of p.states)

  pub text-prop : (i : ℕ) → IsFirst Props (Some i) → IsFirst (TextFails p) (Some i)
  text-prop i f = (inl (i, omega arith, f.0), least)
    where
      low : i < length p.props
      low = within-map (λ (d : PropDecl). d.name) p.props i f.0

      least : (j : ℕ) → j < i → TextFails p j → ⊥
      least j h (inl q) = f.1 q.0 (omega (arith, h, q.1)) q.2
      least j h (inr (inl q)) = omega (arith, h, q.1, low)
      least j h (inr (inr (inl q))) = omega (arith, h, q.1, low)
      least j h (inr (inr (inr (inl q)))) = omega (arith, h, q.1, low)
      least j h (inr (inr (inr (inr q)))) = omega (arith, h, q.1, low)

  pub text-host : (i : ℕ) → IsFirst Props None → IsFirst Hosts (Some i) → IsFirst (TextFails p) (Some (length p.props + i))
  text-host i a f = (inr (inl (i, refl, f.0)), least)
    where
      low : i < length p.hosts
      low = within-map (λ (d : HostDecl). d.name) p.hosts i f.0

      least : (j : ℕ) → j < length p.props + i → TextFails p j → ⊥
      least j h (inl q) = a q.0 q.2
      least j h (inr (inl q)) = f.1 q.0 (omega (arith, h, q.1)) q.2
      least j h (inr (inr (inl q))) = omega (arith, h, q.1, low)
      least j h (inr (inr (inr (inl q)))) = omega (arith, h, q.1, low)
      least j h (inr (inr (inr (inr q)))) = omega (arith, h, q.1, low)

  pub text-span : (i : ℕ) → IsFirst Props None → IsFirst Hosts None → IsFirst Spans (Some i) → IsFirst (TextFails p) (Some (length p.props + length p.hosts + i))
  text-span i a b f = (inr (inr (inl (i, refl, f.0))), least)
    where
      low : i < length p.spans
      low = within-map (λ (d : SpanDecl). d.name) p.spans i f.0

      least : (j : ℕ) → j < length p.props + length p.hosts + i → TextFails p j → ⊥
      least j h (inl q) = a q.0 q.2
      least j h (inr (inl q)) = b q.0 q.2
      least j h (inr (inr (inl q))) = f.1 q.0 (omega (arith, h, q.1)) q.2
      least j h (inr (inr (inr (inl q)))) = omega (arith, h, q.1, low)
      least j h (inr (inr (inr (inr q)))) = omega (arith, h, q.1, low)

  pub text-name : (i : ℕ) → IsFirst Props None → IsFirst Hosts None → IsFirst Spans None → IsFirst Names (Some i) → IsFirst (TextFails p) (Some (length p.props + length p.hosts + length p.spans + i))
  text-name i a b s f = (inr (inr (inr (inl (i, refl, f.0)))), least)
    where
      low : i < length p.names
      low = slice_get_within p.names i f.0.0 f.0.1

      least : (j : ℕ) → j < length p.props + length p.hosts + length p.spans + i → TextFails p j → ⊥
      least j h (inl q) = a q.0 q.2
      least j h (inr (inl q)) = b q.0 q.2
      least j h (inr (inr (inl q))) = s q.0 q.2
      least j h (inr (inr (inr (inl q)))) = f.1 q.0 (omega (arith, h, q.1)) q.2
      least j h (inr (inr (inr (inr q)))) = omega (arith, h, q.1, low)

  pub text-reason : (i : ℕ) → IsFirst Props None → IsFirst Hosts None → IsFirst Spans None → IsFirst Names None → IsFirst Reasons (Some i) →
      IsFirst (TextFails p) (Some (length p.props + length p.hosts + length p.spans + length p.names + i))
  text-reason i a b s n f = (inr (inr (inr (inr (i, refl, f.0)))), least)
    where
      least : (j : ℕ) → j < length p.props + length p.hosts + length p.spans + length p.names + i → TextFails p j → ⊥
      least j h (inl q) = a q.0 q.2
      least j h (inr (inl q)) = b q.0 q.2
      least j h (inr (inr (inl q))) = s q.0 q.2
      least j h (inr (inr (inr (inl q)))) = n q.0 q.2
      least j h (inr (inr (inr (inr q)))) = f.1 q.0 (omega (arith, h, q.1)) q.2

  pub text-none : IsFirst Props None → IsFirst Hosts None → IsFirst Spans None → IsFirst Names None → IsFirst Reasons None → IsFirst (TextFails p) None
  text-none a b s n r j (inl q) = a q.0 q.2
  text-none a b s n r j (inr (inl q)) = b q.0 q.2
  text-none a b s n r j (inr (inr (inl q))) = s q.0 q.2
  text-none a b s n r j (inr (inr (inr (inl q)))) = n q.0 q.2
  text-none a b s n r j (inr (inr (inr (inr q)))) = r q.0 q.2

few : (i : Instr) → length (reason_of i) ≤ 1
few (Branch fold stay edges rest) = omega arith
few (Invoke what answers other) = omega arith
few (Consume prop n) = omega arith
few (SpanOpen span n) = omega arith
few (SpanClose span n) = omega arith
few (Pause code reason n) = omega arith
few (Fail code reason) = omega arith

few-reasons : (states : List State) → length (reasons_of states) ≤ length states
few-reasons [] = omega arith
few-reasons (s ∷ states) =
    let one : length (reason_of s.instr) ≤ 1 = few s.instr in
    let rest : length (reasons_of states) ≤ length states = few-reasons states in
    let all : length (reason_of s.instr ++ reasons_of states) ≡ length (reason_of s.instr) + length (reasons_of states) = length-append (reason_of s.instr) (reasons_of states) in
    omega (arith, one, rest, all)

-- what is found lies within its list
pub within-names : {X : Type 0} (f : X → List ℕ) (xs : List X) (i : ℕ) → IsFirst (NameFails (map f xs)) (Some i) → i < length xs
within-names f xs i h = within-map f xs i h.0

pub within-list : (names : List (List ℕ)) (i : ℕ) → IsFirst (NameFails names) (Some i) → i < length names
within-list names i h = slice_get_within names i h.0.0 h.0.1

pub within-reasons : (states : List State) (i : ℕ) → IsFirst (ReasonFails (reasons_of states)) (Some i) → i < length states
within-reasons states i h =
    let low : i < length (reasons_of states) = slice_get_within (reasons_of states) i h.0.0 h.0.1 in
    let all : length (reasons_of states) ≤ length states = few-reasons states in
    omega (arith, low, all)

-- the same of the list that was lent
pub lent : {X : Type 0} (P : List X → ℕ → Type 0) (items xs : List X) (o q : Option ℕ) → items ≡ xs → o ≡ q → IsFirst (P items) o → IsFirst (P xs) q
lent P items xs o q e f h = subst (λ ys. IsFirst (P ys) q) e (subst (IsFirst (P items)) f h)
