-- What passes from the moves of a program to those of another one with the same declarations.
use Rattle.std.proofs.Common.{◌≡◌, ℕ, List, [], ◌∷◌, Bool, true, false, cond, refl, ap, map}
use Rattle.std.specs.List.{AllByRecursion, list_all, list_any}
use Rattle.std.proofs.lemmas.Bool.{and_parts, and_from, or_parts, or_from}
use Rattle.pp_graph.specs.declared.node.Answer.{Answer}
use Rattle.pp_program.specs.declared.program.Edge.{Edge}
use Rattle.pp_program.specs.declared.program.Instr.{Instr}
use Rattle.pp_program.specs.declared.program.Instr.TheVariants.{Branch, Invoke, Consume, SpanOpen, SpanClose, Pause, Fail}
use Rattle.pp_program.specs.declared.program.Program.{Program}
use Rattle.pp_program.specs.Merge.{joins, joined, merged_from, merged}
use Rattle.pp_clean.specs.Map.{mapped_edge, mapped_answer, mapped, targets, EachMove}
use Rattle.pp_clean.proofs.ReachLaws.{each_move}

-- The programs have the same declarations.
pub record SameDeclared (p q : Program) : Type 0 where
  pub props : q.props ≡ p.props
  pub hosts : q.hosts ≡ p.hosts
  pub spans : q.spans ≡ p.spans

-- what holds of each item that is marked and has another property holds of what it is mapped to
pub all_mapped : {X : Type 0} (M P Q : X → Type 0) (g : X → X) → ((x : X) → M x → P x → Q (g x)) → (xs : List X) → AllByRecursion M xs → AllByRecursion P xs → AllByRecursion Q (map g xs)
all_mapped M P Q g h [] m a = tt
all_mapped M P Q g h (x ∷ xs) m a = (h x m.0 a.0, all_mapped M P Q g h xs m.1 a.1)

pub all_true : {X : Type 0} (test : X → Bool) (xs : List X) → list_all test xs ≡ true → AllByRecursion (λ x. test x ≡ true) xs
all_true test [] h = tt
all_true test (x ∷ xs) h = let both = and_parts (test x) (list_all test xs) h in (both.0, all_true test xs both.1)

pub true_all : {X : Type 0} (test : X → Bool) (xs : List X) → AllByRecursion (λ x. test x ≡ true) xs → list_all test xs ≡ true
true_all test [] h = refl
true_all test (x ∷ xs) h = and_from (test x) (list_all test xs) h.0 (true_all test xs h.1)

pub none_true : {X : Type 0} (test : X → Bool) (xs : List X) → list_any test xs ≡ false → AllByRecursion (λ x. test x ≡ false) xs
none_true test [] h = tt
none_true test (x ∷ xs) h = let both = or_parts (test x) (list_any test xs) h in (both.0, none_true test xs both.1)

pub true_none : {X : Type 0} (test : X → Bool) (xs : List X) → AllByRecursion (λ x. test x ≡ false) xs → list_any test xs ≡ false
true_none test [] h = refl
true_none test (x ∷ xs) h = or_from (test x) (list_any test xs) h.0 (true_none test xs h.1)

-- what joining edges keeps holds of merged ones
pub merged_all : (P : Edge → Type 0) → ((e f : Edge) → joins e f ≡ true → P e → P f → P (joined e f)) → (edges : List Edge) → AllByRecursion P edges → AllByRecursion P (merged edges)
merged_all P join [] a = tt
merged_all P join (e ∷ edges) a = behind edges e a.0 a.1
  where
    behind : (l : List Edge) (e : Edge) → P e → AllByRecursion P l → AllByRecursion P (merged_from e l)
    behind [] e h a = (h, tt)
    behind (f ∷ l) e h a = go (joins e f) refl (behind l (joined e f)) (behind l f)
      where
        go : (v : Bool) → joins e f ≡ v → (P (joined e f) → AllByRecursion P l → AllByRecursion P (merged_from (joined e f) l)) → (P f → AllByRecursion P l → AllByRecursion P (merged_from f l)) →
            AllByRecursion P (cond v (merged_from (joined e f) l) (e ∷ merged_from f l))
        go true j one two = one (join e f j h a.0) a.1
        go false j one two = (h, two a.0 a.1)

same_edges : (edges : List Edge) → map (mapped_edge (λ t. t)) edges ≡ edges
same_edges [] = refl
same_edges (e ∷ edges) = ap (λ (l : List Edge). e ∷ l) (same_edges edges)

same_answers : (answers : List Answer) → map (mapped_answer (λ t. t)) answers ≡ answers
same_answers [] = refl
same_answers (a ∷ answers) = ap (λ (l : List Answer). a ∷ l) (same_answers answers)

-- an instruction that leads where it led
pub mapped_self : (i : Instr) → mapped (λ t. t) i ≡ i
mapped_self (Branch fold stay edges rest) = ap (λ (l : List Edge). Branch fold stay l rest) (same_edges edges)
mapped_self (Invoke code answers other) = ap (λ (l : List Answer). Invoke code l other) (same_answers answers)
mapped_self (Consume prop next) = refl
mapped_self (SpanOpen span next) = refl
mapped_self (SpanClose span next) = refl
mapped_self (Pause code reason next) = refl
mapped_self (Fail code reason) = refl

abbrev pub Anywhere : ℕ → ℕ → Type 0
Anywhere t number = Unit {0}

all_anywhere : (l : List ℕ) → AllByRecursion (λ t. Unit {0}) l
all_anywhere [] = tt
all_anywhere (t ∷ l) = (tt, all_anywhere l)

pub moves_anywhere : (i : Instr) → EachMove Anywhere i
moves_anywhere i = each_move (λ t. Unit {0}) i (all_anywhere (targets i))
