-- What the one answer of reading says of every other.
use Rattle.std.proofs.Common.{◌≡◌, ◌≢◌, ℕ, ◌<◌, ◌≤◌, ◌⊎◌, inl, inr, List, Option, Some, None, Result, Ok, Err, refl, sym, ap, subst, ◌∙◌, arith}
use Rattle.std.specs.Prelude.{IfOk, IfErr, IsErrOf, ◌↔◌}
use Rattle.std.proofs.lemmas.Bool.{cases_order}
use Rattle.pp_program.specs.declared.fault.VerifyRule.{VerifyRule}
use Rattle.pp_program.specs.declared.fault.VerifyRule.TheVariants.{Target, Width, Loop, Spans, Names}
use Rattle.pp_program.specs.declared.program.Program.{Program}
use Rattle.pp_program.specs.Valid.{Sound, IsBroken, IsValid}
use Rattle.pp_file.specs.declared.fault.FileFault.{FileFault}
use Rattle.pp_file.specs.declared.fault.FileFault.TheVariants.{Magic, Version, Short, Form, Verify, NoMemory}
use Rattle.pp_file.specs.Reading.{BeginWith, IsFile, IsMisstated, IsWhole, judged, stated, Refuses, IsRead, IsRefused}
use Rattle.pp_file.specs.steps.Readers.{IsAnswer}
use Rattle.pp_file.proofs.NumberLemmas.{AreBytes}
use Rattle.pp_file.specs.Held.{IsHeld}
use Rattle.pp_file.proofs.HeadLemmas.{begins}
use Rattle.pp_file.proofs.HeadAgain.{begun_again}

-- a rule fails first at one place
place_same : (p : Program) (rule : VerifyRule) (a b : ℕ) → IsBroken p rule a → IsBroken p rule b → a ≡ b
place_same p rule a b h g =
    elim (cases_order a b) [
      | inl same ↦ same
      | inr other ↦ elim other [ inl below ↦ absurd (g.least a below h.fails) | inr above ↦ absurd (h.least b above g.fails) ]
    ]

-- one rule fails first
rule_same : (p : Program) (r s : VerifyRule) (a b : ℕ) → IsBroken p r a → IsBroken p s b → r ≡ s
rule_same p Target Target a b h g = refl
rule_same p Target Width a b h g = absurd (g.first a h.fails)
rule_same p Target Loop a b h g = absurd (g.first.0 a h.fails)
rule_same p Target Spans a b h g = absurd (g.first.0 a h.fails)
rule_same p Target Names a b h g = absurd (g.first.0 a h.fails)
rule_same p Width Target a b h g = absurd (h.first b g.fails)
rule_same p Width Width a b h g = refl
rule_same p Width Loop a b h g = absurd (g.first.1 a h.fails)
rule_same p Width Spans a b h g = absurd (g.first.1 a h.fails)
rule_same p Width Names a b h g = absurd (g.first.1 a h.fails)
rule_same p Loop Target a b h g = absurd (h.first.0 b g.fails)
rule_same p Loop Width a b h g = absurd (h.first.1 b g.fails)
rule_same p Loop Loop a b h g = refl
rule_same p Loop Spans a b h g = absurd (g.first.2 a h.fails)
rule_same p Loop Names a b h g = absurd (g.first.2 a h.fails)
rule_same p Spans Target a b h g = absurd (h.first.0 b g.fails)
rule_same p Spans Width a b h g = absurd (h.first.1 b g.fails)
rule_same p Spans Loop a b h g = absurd (h.first.2 b g.fails)
rule_same p Spans Spans a b h g = refl
rule_same p Spans Names a b h g = absurd (g.first.3 a h.fails)
rule_same p Names Target a b h g = absurd (h.first.0 b g.fails)
rule_same p Names Width a b h g = absurd (h.first.1 b g.fails)
rule_same p Names Loop a b h g = absurd (h.first.2 b g.fails)
rule_same p Names Spans a b h g = absurd (h.first.3 b g.fails)
rule_same p Names Names a b h g = refl

broken_same : (p q : Program) (r s : VerifyRule) (a b : ℕ) → p ≡ q → IsBroken p r a → IsBroken q s b → Verify r a ≡ Verify s b
broken_same p q r s a b same h g =
    let other : IsBroken p s b = subst (λ (x : Program). IsBroken x s b) (sym same) g in
    let rules : r ≡ s = rule_same p r s a b h other in
    let first : IsBroken p s a = subst (λ (x : VerifyRule). IsBroken p x a) rules h in
    ap (λ (x : VerifyRule). Verify x a) rules ∙ ap (λ (n : ℕ). Verify s n) (place_same p s a b first other)

abbrev given : Program → Result Program ℕ
given p = Ok p

given_same : (p q : Program) → given p ≡ given q → p ≡ q
given_same p q e = cc

abbrev missed : ℕ → Result Program ℕ
missed n = Err n

wrong_same : (m n : ℕ) → missed m ≡ missed n → m ≡ n
wrong_same m n e = cc

given_wrong : (p : Program) (n : ℕ) → given p ≡ missed n → ⊥
given_wrong p n e = absurd cc

found_same : (m n : ℕ) → Some m ≡ Some n → m ≡ n
found_same m n e = cc

abbrev failed : FileFault → Result (Sound × ℕ) FileFault
failed e = Err e

fault_same : (e f : FileFault) → failed e ≡ failed f → e ≡ f
fault_same e f same = cc

-- a wrong field stands behind a head that is right as far as it is known
form_file : (bytes : List ℕ) (offset : ℕ) → Refuses bytes (Form offset) → IsFile bytes
form_file bytes offset (inl misstated) = misstated.0
form_file bytes offset (inr wrong) = wrong.0.file

short_form : (bytes : List ℕ) (offset : ℕ) → Refuses bytes Short → Refuses bytes (Form offset) → ⊥
short_form bytes offset h (inl misstated) = h.1 misstated.1
short_form bytes offset h (inr wrong) = wrong.0.there h.2

form_same : (bytes : List ℕ) (m n : ℕ) → Refuses bytes (Form m) → Refuses bytes (Form n) → m ≡ n
form_same bytes m n (inl h) (inl g) = h.2 ∙ sym g.2
form_same bytes m n (inl h) (inr g) = absurd (g.0.stated_well h.1)
form_same bytes m n (inr h) (inl g) = absurd (h.0.stated_well g.1)
form_same bytes m n (inr h) (inr g) = wrong_same m n (sym h.1 ∙ g.1)

-- bytes that give a program are not refused for their form
form_given : (bytes : List ℕ) (offset : ℕ) (p : Program) → Refuses bytes (Form offset) → IsWhole bytes → judged bytes ≡ Ok p → ⊥
form_given bytes offset p (inl h) whole e = whole.stated_well h.1
form_given bytes offset p (inr h) whole e = given_wrong p offset (sym e ∙ h.1)

-- there is one first thing that is wrong
refused_same : (bytes : List ℕ) (e f : FileFault) → e ≢ NoMemory → f ≢ NoMemory → Refuses bytes e → Refuses bytes f → e ≡ f
refused_same bytes Magic Magic some more h g = refl
refused_same bytes Magic (Version n) some more h g = absurd (h g.0)
refused_same bytes Magic Short some more h g = absurd (h g.0.marked)
refused_same bytes Magic (Form n) some more h g = absurd (h (form_file bytes n g).marked)
refused_same bytes Magic (Verify s b) some more h g = absurd (h g.0.file.marked)
refused_same bytes Magic NoMemory some more h g = absurd (more refl)
refused_same bytes (Version m) Magic some more h g = absurd (g h.0)
refused_same bytes (Version m) (Version n) some more h g = ap (λ (k : ℕ). Version k) (found_same m n (sym h.1.0 ∙ g.1.0))
refused_same bytes (Version m) Short some more h g = absurd (g.0.known m h.1)
refused_same bytes (Version m) (Form n) some more h g = absurd ((form_file bytes n g).known m h.1)
refused_same bytes (Version m) (Verify s b) some more h g = absurd (g.0.file.known m h.1)
refused_same bytes (Version m) NoMemory some more h g = absurd (more refl)
refused_same bytes Short Magic some more h g = absurd (g h.0.marked)
refused_same bytes Short (Version n) some more h g = absurd (h.0.known n g.1)
refused_same bytes Short Short some more h g = refl
refused_same bytes Short (Form n) some more h g = absurd (short_form bytes n h g)
refused_same bytes Short (Verify s b) some more h g = absurd (g.0.there h.2)
refused_same bytes Short NoMemory some more h g = absurd (more refl)
refused_same bytes (Form m) Magic some more h g = absurd (g (form_file bytes m h).marked)
refused_same bytes (Form m) (Version n) some more h g = absurd ((form_file bytes m h).known n g.1)
refused_same bytes (Form m) Short some more h g = absurd (short_form bytes m g h)
refused_same bytes (Form m) (Form n) some more h g = ap (λ (k : ℕ). Form k) (form_same bytes m n h g)
refused_same bytes (Form m) (Verify s b) some more h g = absurd (form_given bytes m g.1.0 h g.0 g.1.1)
refused_same bytes (Form m) NoMemory some more h g = absurd (more refl)
refused_same bytes (Verify r a) Magic some more h g = absurd (g h.0.file.marked)
refused_same bytes (Verify r a) (Version n) some more h g = absurd (h.0.file.known n g.1)
refused_same bytes (Verify r a) Short some more h g = absurd (h.0.there g.2)
refused_same bytes (Verify r a) (Form n) some more h g = absurd (form_given bytes n h.1.0 g h.0 h.1.1)
refused_same bytes (Verify r a) (Verify s b) some more h g = broken_same h.1.0 g.1.0 r s a b (given_same h.1.0 g.1.0 (sym h.1.1 ∙ g.1.1)) h.1.2 g.1.2
refused_same bytes (Verify r a) NoMemory some more h g = absurd (more refl)
refused_same bytes NoMemory f some more h g = absurd (some refl)

-- bytes that give a valid program are not refused
given_refused : (bytes : List ℕ) (p : Program) (f : FileFault) → f ≢ NoMemory → IsWhole bytes → judged bytes ≡ Ok p → IsValid p → Refuses bytes f → ⊥
given_refused bytes p Magic some whole e valid g = g whole.file.marked
given_refused bytes p (Version n) some whole e valid g = whole.file.known n g.1
given_refused bytes p Short some whole e valid g = whole.there g.2
given_refused bytes p (Form n) some whole e valid g = form_given bytes n p g whole e
given_refused bytes p (Verify s b) some whole e valid g =
    let same : g.1.0 ≡ p = given_same g.1.0 p (sym g.1.1 ∙ e) in
    let broken : IsBroken p s b = subst (λ (x : Program). IsBroken x s b) same g.1.2 in
    valid s b broken.fails
given_refused bytes p NoMemory some whole e valid g = some refl

pub ok_says : (bytes : List ℕ) (r : Result (Sound × ℕ) FileFault) → AreBytes bytes → IsAnswer bytes r → IfOk r (λ found. BeginWith bytes found.0.program found.1)
ok_says bytes (Ok found) fits h = subst (λ (n : ℕ). BeginWith bytes found.0.program n) (sym h.3) (begins bytes found.0.program fits h.0 h.1 h.2.valid)
ok_says bytes (Err fault) fits h = tt

pub fault_says : (bytes : List ℕ) (r : Result (Sound × ℕ) FileFault) → IsAnswer bytes r → IfErr r (Refuses bytes)
fault_says bytes (Ok found) h = tt
fault_says bytes (Err fault) h = h.0

is_memory : (e : FileFault) → (e ≡ NoMemory) ⊎ (e ≢ NoMemory)
is_memory Magic = inr (λ e. absurd cc)
is_memory (Version n) = inr (λ e. absurd cc)
is_memory Short = inr (λ e. absurd cc)
is_memory (Form n) = inr (λ e. absurd cc)
is_memory (Verify s b) = inr (λ e. absurd cc)
is_memory NoMemory = inl refl

pub first_says : (bytes : List ℕ) (r : Result (Sound × ℕ) FileFault) → IsAnswer bytes r → (f : FileFault) → f ≢ NoMemory → Refuses bytes f → IsRefused f r
first_says bytes (Ok found) h f some g = given_refused bytes found.0.program f some h.0 h.1 h.2.valid g
first_says bytes (Err e) h f some g =
    elim (is_memory e) [
      | inl memory ↦ inr memory
      | inr other ↦ inl (refused_same bytes e f other some h.0 g)
    ]

-- a fault of the head is told without memory
head_says : (bytes : List ℕ) (r : Result (Sound × ℕ) FileFault) → IsAnswer bytes r → (f : FileFault) → f ≢ NoMemory → (Refuses bytes f → IsWhole bytes → ⊥)
    → IsErrOf r f ↔ Refuses bytes f
head_says bytes (Ok found) h f some apart = (λ e. absurd cc, λ g. absurd (given_refused bytes found.0.program f some h.0 h.1 h.2.valid g))
head_says bytes (Err e) h f some apart = (
  λ same. subst (Refuses bytes) (fault_same e f same) h.0,
  λ g. elim (is_memory e) [
    | inl memory ↦ absurd (apart g (h.1 memory))
    | inr other ↦ ap (λ (x : FileFault). Err x) (refused_same bytes e f other some h.0 g)
  ],
)

pub magic_says : (bytes : List ℕ) (r : Result (Sound × ℕ) FileFault) → IsAnswer bytes r → IsErrOf r Magic ↔ Refuses bytes Magic
magic_says bytes r h = head_says bytes r h Magic (λ e. absurd cc) (λ g whole. g whole.file.marked)

pub version_says : (bytes : List ℕ) (r : Result (Sound × ℕ) FileFault) → IsAnswer bytes r → (found : ℕ) → IsErrOf r (Version found) ↔ Refuses bytes (Version found)
version_says bytes r h found = head_says bytes r h (Version found) (λ e. absurd cc) (λ g whole. whole.file.known found g.1)

pub short_says : (bytes : List ℕ) (r : Result (Sound × ℕ) FileFault) → IsAnswer bytes r → IsErrOf r Short ↔ Refuses bytes Short
short_says bytes r h = head_says bytes r h Short (λ e. absurd cc) (λ g whole. whole.there g.2)

pub only_says : (bytes : List ℕ) (r : Result (Sound × ℕ) FileFault) → IsAnswer bytes r → (p : Program) (len : ℕ) → IsHeld p → BeginWith bytes p len → IsRead p len r
only_says bytes (Ok found) h p len held begun =
    let w = begun_again bytes p len held begun in
    (given_same found.0.program p (sym h.1 ∙ w.gives), h.3 ∙ w.length_is)
only_says bytes (Err e) h p len held begun =
    let w = begun_again bytes p len held begun in
    elim (is_memory e) [
      | inl memory ↦ memory
      | inr other ↦ absurd (given_refused bytes p e other w.whole w.gives begun.front.valid h.0)
    ]
