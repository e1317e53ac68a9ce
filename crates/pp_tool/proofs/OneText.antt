-- The stages that read a graph text give at most one outcome.
use Rattle.std.proofs.Common.{◌≡◌, ℕ, suc, inl, inr, List, [], refl, sym, ap, ap₂, ◌∙◌}
use Rattle.pp_graph.specs.Built.{built}
use Rattle.pp_graph.specs.Plan.{Plan}
use Rattle.pp_text.specs.Text.{Told}
use Rattle.pp_text.proofs.OneReadingLemmas.{text_same, wrong_line_same, text_not_wrong, text_not_long, wrong_not_long, fault_same, fault_not_graph}
use Rattle.pp_tool.specs.declared.refusal.GraphReason.{GraphReason}
use Rattle.pp_tool.specs.declared.refusal.GraphReason.TheVariants as graph
use Rattle.pp_tool.specs.declared.refusal.Refusal.TheVariants as refusal
use Rattle.pp_tool.specs.Verdict.{Gives, Refuses, AtMostOne}
use Rattle.pp_tool.specs.GraphText.{BeginsWithGraph, HasNoGraph, IsNoGraph, ReadsText, ReadsTextAlone}

-- the reason that no graph begins the bytes is one
reason_same : (bytes : List ℕ) (r s : GraphReason) → HasNoGraph bytes r → HasNoGraph bytes s → r ≡ s
reason_same bytes graph.LongLine graph.LongLine p q = refl
reason_same bytes graph.LongLine (graph.WrongLine line) p q = absurd (wrong_not_long bytes line q p)
reason_same bytes graph.LongLine (graph.BrokenRule line broken) p q = absurd (text_not_long bytes q.told q.last q.rest q.text p)
reason_same bytes (graph.WrongLine line) graph.LongLine p q = absurd (wrong_not_long bytes line p q)
reason_same bytes (graph.WrongLine line) (graph.WrongLine other) p q = ap graph.WrongLine (wrong_line_same bytes line other p q)
reason_same bytes (graph.WrongLine line) (graph.BrokenRule other broken) p q = absurd (text_not_wrong bytes q.told q.last q.rest line q.text p)
reason_same bytes (graph.BrokenRule line broken) graph.LongLine p q = absurd (text_not_long bytes p.told p.last p.rest p.text q)
reason_same bytes (graph.BrokenRule line broken) (graph.WrongLine other) p q = absurd (text_not_wrong bytes p.told p.last p.rest other p.text q)
reason_same bytes (graph.BrokenRule line broken) (graph.BrokenRule other rule) p q =
    let same = fault_same bytes line other broken rule p q in
    ap₂ graph.BrokenRule same.0 same.1

-- where there is one, no graph begins them
graph_or_reason : (bytes : List ℕ) (g : Plan) (last : ℕ) (rest : List ℕ) (r : GraphReason) → BeginsWithGraph bytes g last rest → ¬ (HasNoGraph bytes r)
graph_or_reason bytes g last rest graph.LongLine b q = text_not_long bytes b.told last rest b.text q
graph_or_reason bytes g last rest (graph.WrongLine line) b q = text_not_wrong bytes b.told last rest line b.text q
graph_or_reason bytes g last rest (graph.BrokenRule line broken) b q = fault_not_graph bytes line broken b.told last rest q b.text b.rules

-- and the graph is one, with what follows it
graph_same : (bytes : List ℕ) (g h : Plan) (last end : ℕ) (rest more : List ℕ) → BeginsWithGraph bytes g last rest → BeginsWithGraph bytes h end more → (g ≡ h) × (last ≡ end) × (rest ≡ more)
graph_same bytes g h last end rest more p q =
    let same = text_same bytes p.told q.told last end rest more p.text q.text in
    (p.is ∙ ap (λ (t : Told). built t.calls) same.0 ∙ sym q.is, same.1, same.2)

-- so each stage gives one outcome
pub text_one : (bytes : List ℕ) → AtMostOne (ReadsText bytes)
text_one bytes (Gives begun) (Gives other) h k =
    let same = graph_same bytes begun.0 other.0 h.0 k.0 begun.1 other.1 h.1 k.1 in
    ap₂ (λ (g : Plan) (rest : List ℕ). Gives (g, rest)) same.0 same.2
text_one bytes (Gives begun) (Refuses why before) h k = absurd (graph_or_reason bytes begun.0 h.0 begun.1 k.0 h.1 k.1)
text_one bytes (Refuses why before) (Gives begun) h k = absurd (graph_or_reason bytes begun.0 k.0 begun.1 h.0 k.1 h.1)
text_one bytes (Refuses why before) (Refuses other after) h k = ap₂ Refuses (h.2 ∙ ap refusal.Graph (reason_same bytes h.0 k.0 h.1 k.1) ∙ sym k.2) (h.3 ∙ sym k.3)

-- the reason that the bytes are not the text of a graph alone is one
alone_reason_same : (bytes : List ℕ) (r s : GraphReason) → IsNoGraph bytes r → IsNoGraph bytes s → r ≡ s
alone_reason_same bytes r s (inl p) (inl q) = reason_same bytes r s p q
alone_reason_same bytes r s (inl p) (inr q) = absurd (graph_or_reason bytes q.0 q.1 q.2 r q.3 p)
alone_reason_same bytes r s (inr p) (inl q) = absurd (graph_or_reason bytes p.0 p.1 p.2 s p.3 q)
alone_reason_same bytes r s (inr p) (inr q) =
    let same = graph_same bytes p.0 q.0 p.1 q.1 p.2 q.2 p.3 q.3 in
    p.5 ∙ ap (λ (n : ℕ). graph.WrongLine (suc n)) same.1 ∙ sym q.5

alone_not_refused : (bytes : List ℕ) (g : Plan) (last : ℕ) (r : GraphReason) → BeginsWithGraph bytes g last [] → ¬ (IsNoGraph bytes r)
alone_not_refused bytes g last r b (inl p) = graph_or_reason bytes g last [] r b p
alone_not_refused bytes g last r b (inr p) =
    let same = graph_same bytes g p.0 last p.1 [] p.2 b p.3 in
    p.4 (sym same.2)

pub alone_one : (bytes : List ℕ) → AtMostOne (ReadsTextAlone bytes)
alone_one bytes (Gives g) (Gives other) h k = ap Gives (graph_same bytes g other h.0 k.0 [] [] h.1 k.1).0
alone_one bytes (Gives g) (Refuses why before) h k = absurd (alone_not_refused bytes g h.0 k.0 h.1 k.1)
alone_one bytes (Refuses why before) (Gives g) h k = absurd (alone_not_refused bytes g k.0 h.0 k.1 h.1)
alone_one bytes (Refuses why before) (Refuses other after) h k = ap₂ Refuses (h.2 ∙ ap refusal.Graph (alone_reason_same bytes h.0 k.0 h.1 k.1) ∙ sym k.2) (h.3 ∙ sym k.3)
