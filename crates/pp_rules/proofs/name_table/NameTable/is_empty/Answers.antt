use Rattle.std.proofs.Common.{◌≡◌, ℕ, List, [], ◌∷◌, true, cond, Bor, Option, Some, length, refl, sym, ap, ◌∙◌}
use Rattle.std.specs.Prelude.{None as none}
use Rattle.std.specs.BTreeMap.{is_at}
use Rattle.std.specs.Map.{lookup}
use Rattle.std.specs.Cmp.Lexicographic.{slice_cmp}
use Rattle.std.specs.Ordering.{nat_cmp, is_eq}
use Rattle.std.proofs.lemmas.List.{nil_from_length}
use Rattle.std.proofs.lemmas.Map.Text.{is_eq-slice_cmp}
use Rattle.std.proofs.lemmas.Slice.Eq.{bytes_eq-Decides}
use Rattle.pp_rules.proofs.name_table.NameTable.is_empty.Goals as goal

module _ {X : Type 0} where
  -- the value at a name among entries
  abbrev found : List (Bor (List ℕ) × X) → List ℕ → Option X
  found entries name = lookup (is_at (λ k. slice_cmp nat_cmp name k.now)) entries

  -- where there is no value at any name, there are no entries
  none-left : (entries : List (Bor (List ℕ) × X)) → ((name : List ℕ) → found entries name ≡ none) → length entries ≡ 0
  none-left [] h = refl
  none-left (e ∷ entries) h =
      let name : List ℕ = e.0.now in
      let same : is_eq (slice_cmp nat_cmp name name) ≡ true = is_eq-slice_cmp name name ∙ (bytes_eq-Decides name name).1 refl in
      let there : found (e ∷ entries) name ≡ Some e.1 = ap (λ b. cond b (Some e.1) (found entries name)) same in
      absurd (let not : Some e.1 ≡ none = sym there ∙ h name in cc)

  -- and the other way round
  none-found : (entries : List (Bor (List ℕ) × X)) → length entries ≡ 0 → (name : List ℕ) → found entries name ≡ none
  none-found entries h name = ap (λ es. found es name) (nil_from_length entries h)

pub returns : goal.returns
returns g c = (
  λ empty. none-found c.args.self.now.entries.entries (c.is_empty.ensures.0 empty),
  λ nothing. c.is_empty.ensures.1 (none-left c.args.self.now.entries.entries nothing),
)
