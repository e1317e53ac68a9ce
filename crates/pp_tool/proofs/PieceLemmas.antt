-- Writes to a sink, one after the other, and what a sink that tells its bytes holds then.
use Rattle.std.proofs.Common.{◌≡◌, ℕ, ◌+◌, ◌≤◌, inl, inr, List, [], ◌∷◌, ◌++◌, length, take, Option, sym, ◌∙◌, ap, subst, arith, append_assoc}
use Rattle.std.specs.Prelude.{codes, decimal}
use Rattle.std.proofs.lemmas.List.{append-nil, length-append, take-append-le}
use Rattle.std.proofs.Math.Seq.{take-append-add}
use Rattle.pp_outside.specs.Faults.{Rose}
use Rattle.pp_outside.specs.Sink.{Adds, AddsSome}
use Rattle.pp_outside.proofs.AddsLemmas.{Adds-then}
use Rattle.pp_tool.specs.declared.refusal.GraphReason.TheVariants.{WrongLine}
use Rattle.hex.specs.Hex.{encode_lower}
use Rattle.pp_tool.specs.Answers.{graph_line, loop_line, span_line}
use Rattle.pp_tool.specs.steps.Stops.{line_with}

-- some front of what comes behind is some front of the whole
pub front-behind : (a b c : Option (List ℕ)) (done piece after : List ℕ) → Adds a b done → AddsSome b c piece → AddsSome a c (done ++ (piece ++ after))
front-behind a b c done piece after first some =
    let front : take (length done + some.0) (done ++ (piece ++ after)) ≡ done ++ take some.0 piece =
    take-append-add done (piece ++ after) some.0 ∙ ap (λ x. done ++ x) (take-append-le some.0 piece after some.1) in (
      length done + some.0,
      omega (arith, some.1, length-append done (piece ++ after), length-append piece after),
      subst (λ x. Adds a c x) (sym front) (Adds-then a b c done (take some.0 piece) first some.2),
    )

-- a count that rose later rose in all
pub rose-behind : (a b c : ℕ) → a ≤ b → Rose b c → Rose a c
rose-behind a b c h (inl r) = inl (omega arith)
rose-behind a b c h (inr r) = inr r

-- five pieces, joined
five : (a b c d e : List ℕ) → a ++ (b ++ (c ++ (d ++ (e ++ [])))) ≡ a ++ b ++ c ++ d ++ e
five a b c d e =
    ap (λ x. a ++ (b ++ (c ++ (d ++ x)))) (append-nil e) ∙ sym (append_assoc a b (c ++ (d ++ e))) ∙ sym (append_assoc (a ++ b) c (d ++ e)) ∙ sym (append_assoc (a ++ b ++ c) d e)

pub line_of_pieces : (a b c d e : List ℕ) (line : ℕ) → a ≡ codes "graph: line " → b ≡ decimal line → c ≡ codes ": " → e ≡ codes "\n" → a ++ (b ++ (c ++ (d ++ (e ++ [])))) ≡ line_with line d
line_of_pieces a b c d e line ea eb ec ee =
    five a b c d e ∙ ap (λ x. x ++ b ++ c ++ d ++ e) ea ∙ ap (λ x. codes "graph: line " ++ x ++ c ++ d ++ e) eb
    ∙ ap (λ x. codes "graph: line " ++ decimal line ++ x ++ d ++ e) ec ∙ ap (λ x. codes "graph: line " ++ decimal line ++ codes ": " ++ d ++ x) ee

-- the line of a wrong line
pub line_with-syntax : (line : ℕ) → line_with line (codes "syntax") ≡ graph_line (WrongLine line)
line_with-syntax line =
    append_assoc (codes "graph: line " ++ decimal line ++ codes ": ") (codes "syntax") (codes "\n") ∙ append_assoc (codes "graph: line " ++ decimal line) (codes ": ") (codes "syntax" ++ codes "\n")

-- the line of a loop
pub loop_pieces : (a node c digits e : List ℕ) (byte : ℕ) → a ≡ codes "check: loop at " → c ≡ codes " on byte " → digits ≡ encode_lower (byte ∷ []) → e ≡ codes "\n" →
    a ++ (node ++ (c ++ (digits ++ (e ++ [])))) ≡ loop_line node byte
loop_pieces a node c digits e byte ea ec ed ee =
    five a node c digits e ∙ ap (λ x. x ++ node ++ c ++ digits ++ e) ea ∙ ap (λ x. codes "check: loop at " ++ node ++ x ++ digits ++ e) ec
    ∙ ap (λ x. codes "check: loop at " ++ node ++ codes " on byte " ++ x ++ e) ed ∙ ap (λ x. codes "check: loop at " ++ node ++ codes " on byte " ++ encode_lower (byte ∷ []) ++ x) ee

-- and of a fault of spans
pub span_pieces : (a span what node e : List ℕ) → a ≡ codes "check: span " → e ≡ codes "\n" → a ++ (span ++ (what ++ (node ++ (e ++ [])))) ≡ span_line span what node
span_pieces a span what node e ea ee =
    five a span what node e ∙ ap (λ x. x ++ span ++ what ++ node ++ e) ea ∙ ap (λ x. codes "check: span " ++ span ++ what ++ node ++ x) ee
