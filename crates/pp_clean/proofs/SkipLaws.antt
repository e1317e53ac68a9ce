-- Skipping empty states keeps the meaning.
use Rattle.std.proofs.Common.{◌≡◌, ℕ, zero, suc, List, Option, Some, None, refl, sym, ◌∙◌, ap, length, option_map}
use Rattle.std.specs.Prelude.{slice_get, unwrap_or}
use Rattle.std.proofs.lemmas.Option.{slice_get-map}
use Rattle.pp_program.specs.declared.program.State.{State}
use Rattle.pp_program.specs.declared.program.Program.{Program}
use Rattle.pp_clean.specs.Map.{mapped_state}
use Rattle.pp_clean.specs.Keeps.{Keeps}
use Rattle.pp_clean.specs.Skip.{instr_past, state_past, past, on_past, full_within, behind, landing, skipped, NoNumber, IsNumberless}
use Rattle.pp_clean.proofs.RenameLaws.{Renames, stays, skips, lacks, renamed_keeps}

on_past_more : (f g : ℕ → Option ℕ) (n m : ℕ) → ((t : ℕ) → f t ≡ Some m → g t ≡ Some m) → (o : Option ℕ) →
    on_past f n o ≡ Some m → on_past g n o ≡ Some m
on_past_more f g n m h None e = e
on_past_more f g n m h (Some t) e = h t e

-- what is found within some places is found within one more
pub full_more : (states : List State) (k n m : ℕ) → full_within states k n ≡ Some m → full_within states (suc k) n ≡ Some m
full_more states zero n m e = cc
full_more states (suc k) n m e =
    on_past_more (full_within states k) (full_within states (suc k)) n m (λ t. full_more states k t m) (past states n) e

module _ (states : List State) where
  -- a move to a place at which no empty state stands goes there
  pub landing_full : (n : ℕ) → past states n ≡ None → landing states n ≡ n
  landing_full n e = ap (λ (o : Option ℕ). unwrap_or (on_past (full_within states (length states)) n o) n) e

  -- and to one with nothing but empty states behind it
  pub landing_endless : (n : ℕ) → behind states n ≡ None → landing states n ≡ n
  landing_endless n e = ap (λ (o : Option ℕ). unwrap_or o n) e

  -- a move to another empty state goes where a move to what it leads to goes
  pub landing_past : (n t m : ℕ) → past states n ≡ Some t → behind states n ≡ Some m → landing states t ≡ landing states n
  landing_past n t m e h =
      let found : full_within states (length states) t ≡ Some m =
      sym (ap (on_past (full_within states (length states)) n) e) ∙ h in
      ap (λ (o : Option ℕ). unwrap_or o t) (full_more states (length states) t m found) ∙ sym (ap (λ (o : Option ℕ). unwrap_or o n) h)

module _ (p : Program) (numberless : IsNumberless p.states) where
  abbrev Place : ℕ → Type 0
  Place n = Renames p (skipped p) (landing p.states) (NoNumber p.states) n

  -- the state of the new program at a place that moves go to
  pub new_state : (n : ℕ) (s : Option State) → landing p.states n ≡ n → slice_get p.states n ≡ s →
      slice_get (skipped p).states (landing p.states n) ≡ option_map (mapped_state (landing p.states)) s
  new_state n s same e =
      ap (slice_get (skipped p).states) same ∙ slice_get-map (mapped_state (landing p.states)) p.states n ∙ ap (option_map (mapped_state (landing p.states))) e

  stays_there : (n : ℕ) (s : State) → slice_get p.states n ≡ Some s → landing p.states n ≡ n → Place n
  stays_there n s e same =
      stays s (mapped_state (landing p.states) s) e (new_state n (Some s) same e) refl (numberless.onto n s e) (λ t x. refl) refl

  by_behind : (n t : ℕ) (s : State) → slice_get p.states n ≡ Some s → instr_past s.instr ≡ Some t → (o : Option ℕ) → behind p.states n ≡ o → Place n
  by_behind n t s e g None h = stays_there n s e (landing_endless p.states n h)
  by_behind n t s e g (Some m) h =
      let leads : past p.states n ≡ Some t = ap state_past e ∙ g in
      skips s t e g (numberless.from n t s e g) (landing_past p.states n t m leads h) (λ x y. refl) (λ k number. number t leads)

  by_empty : (n : ℕ) (s : State) → slice_get p.states n ≡ Some s → (o : Option ℕ) → instr_past s.instr ≡ o → Place n
  by_empty n s e None g = stays_there n s e (landing_full p.states n (ap state_past e ∙ g))
  by_empty n s e (Some t) g = by_behind n t s e g (behind p.states n) refl

  by_state : (n : ℕ) (o : Option State) → slice_get p.states n ≡ o → Place n
  by_state n None e = lacks e (new_state n None (landing_full p.states n (ap state_past e)) e)
  by_state n (Some s) e = by_empty n s e (instr_past s.instr) refl

  pub skipped_keeps : Keeps p (skipped p)
  skipped_keeps = record {
    props = refl;
    hosts = refl;
    spans = refl;
    finish = refl;
    runs = renamed_keeps p (skipped p) (landing p.states) (NoNumber p.states) (λ n k h. by_state n (slice_get p.states n) refl) (λ t x. refl) refl refl;
  }
