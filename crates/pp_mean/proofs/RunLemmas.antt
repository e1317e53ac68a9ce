-- The moves that the code makes, by the stages that its steps lead to.
use Rattle.std.proofs.Common.{◌≡◌, ℕ, zero, suc, ◌+◌, List, [], ◌∷◌, Option, Some, None, refl, sym, ◌∙◌, ap, subst, get_or, map, drop, replicate, append-nil, ◌++◌, append_assoc, add-one}
use Rattle.std.specs.Prelude.{count_by, slice_get}
use Rattle.pp_bytes.specs.declared.fold.Fold.{Fold}
use Rattle.pp_bytes.specs.Fold.{folded}
use Rattle.pp_graph.specs.declared.node.Key.{Key}
use Rattle.pp_graph.specs.declared.node.Peek.{Peek}
use Rattle.pp_graph.specs.declared.node.Other.{Other}
use Rattle.pp_graph.specs.declared.node.Kind.{Kind}
use Rattle.pp_graph.specs.declared.node.Kind.TheVariants.{Match}
use Rattle.pp_event.specs.declared.item.Item.{Item}
use Rattle.pp_event.specs.Answers.{is_call_of}
use Rattle.pp_event.specs.Chain.{On}
use Rattle.pp_event.specs.Run.{Turn, Rests, Waiting, Stage, Oracle, move_by}
use Rattle.pp_event.specs.Turns.{to}
use Rattle.pp_mean.specs.declared.whole.End.{End}
use Rattle.pp_mean.specs.declared.whole.End.TheVariants as end_as
use Rattle.pp_mean.specs.Nodes.{kind_turn, match_turn, rests_at}
use Rattle.pp_mean.specs.Whole.{open_from}
use Rattle.pp_mean.specs.Steps.{Made, CountsCalls, took, waited}

-- at an edge: the bytes are taken, and then the node is entered
pub edge-made : (oracle : Oracle) (s one two : Stage) (t : Turn) (target taken number : ℕ) → t ≡ to s.config target taken number → one ≡ took s taken →
    two ≡ record one { config = record one.config { node = target; carried = number } } → move_by oracle s t ≡ On two
edge-made oracle s one two t target taken number e f g =
    ap (move_by oracle s) e
    ∙ ap (λ (items : List Item). On (record { config = record { node = target; at = s.config.at + taken; carried = number; values = s.config.values; spans = s.config.spans }; rest = drop taken s.rest; items = items; resumes = s.resumes })) (append-nil s.items)
    ∙ sym (ap On (g ∙ ap (λ (x : Stage). record x { config = record x.config { node = target; carried = number } }) f))

-- without an edge: all bytes are taken, and the run waits
pub wait-made : (oracle : Oracle) (s new : Stage) (end : Option End) (t : Turn) → t ≡ Rests (rests_at s.config s.rest) → new ≡ waited s → end ≡ Some (end_as.Waits s.config.node) →
    Made new end (move_by oracle s t)
wait-made oracle s new end t e n w =
    subst (λ (o : Option End). Made new o (move_by oracle s t)) (sym w)
    (subst (λ (x : Stage). Made x (Some (end_as.Waits s.config.node)) (move_by oracle s t)) (sym n) (Waiting, ap (move_by oracle s) e, (refl, refl)))

-- a match node, told by its parts
pub match-made : (oracle : Oracle) (s new : Stage) (end : Option End) (kind : Kind) (fold : Fold) (keys keys_seen : List Key) (peeks peeks_seen : List Peek) (other : Other) →
    kind ≡ Match fold keys peeks other → keys_seen ≡ keys → peeks_seen ≡ peeks →
    Made new end (move_by oracle s (match_turn s.config s.rest keys_seen peeks_seen other (map (folded fold) s.rest))) →
    Made new end (move_by oracle s (kind_turn kind s.config s.rest))
match-made oracle s new end kind fold keys keys_seen peeks peeks_seen other is k p h =
    subst (λ (x : Kind). Made new end (move_by oracle s (kind_turn x s.config s.rest))) (sym is)
    (subst (λ (x : List Key). Made new end (move_by oracle s (match_turn s.config s.rest x peeks other (map (folded fold) s.rest)))) k
    (subst (λ (x : List Peek). Made new end (move_by oracle s (match_turn s.config s.rest keys_seen x other (map (folded fold) s.rest)))) p h))

-- one slot, and those behind it
open_from-more : (n : ℕ) (o : Option ℕ) (slots : List (Option ℕ)) → open_from n (o ∷ slots) ≡ open_from n (o ∷ []) ++ open_from (suc n) slots
open_from-more n None slots = refl
open_from-more n (Some from) slots = refl

drop-at : (slots : List (Option ℕ)) (i : ℕ) (o : Option ℕ) → slice_get slots i ≡ Some o → drop i slots ≡ o ∷ drop (suc i) slots
drop-at [] zero o e = cc
drop-at [] (suc i) o e = cc
drop-at (x ∷ slots) zero o e = (let same : x ≡ o = cc in ap (λ (y : Option ℕ). y ∷ slots) same)
drop-at (x ∷ slots) (suc i) o e = drop-at slots i o e

-- the slot of one span more was looked at
pub open-more : (slots : List (Option ℕ)) (n : ℕ) (o : Option ℕ) (old new all : List (ℕ × ℕ)) → slice_get slots n ≡ Some o → new ≡ old ++ open_from n (o ∷ []) →
    old ++ open_from n (drop n slots) ≡ all → new ++ open_from (n + 1) (drop (n + 1) slots) ≡ all
open-more slots n o old new all at e h =
    let split : open_from n (drop n slots) ≡ open_from n (o ∷ []) ++ open_from (suc n) (drop (suc n) slots) =
    ap (open_from n) (drop-at slots n o at) ∙ open_from-more n o (drop (suc n) slots) in
    rw (add-one, e, append_assoc) (ap (λ (l : List (ℕ × ℕ)). old ++ l) (sym split) ∙ h)

zeros : (n k : ℕ) → (let z : ℕ = 0 in get_or (replicate n z) k z ≡ z)
zeros zero k = refl
zeros (suc n) zero = refl
zeros (suc n) (suc k) = zeros n k

-- nothing was called yet
pub CountsCalls-none : (items : List Item) → items ≡ [] → CountsCalls (replicate 64 0) items
CountsCalls-none items e = record {
  long = refl;
  counts = λ host h. (let none : count_by (is_call_of host) items ≡ 0 = rw e refl in zeros 64 host ∙ sym none);
}
