-- The stages that read a graph text give at least one outcome.
use Rattle.std.proofs.Common.{ℕ, suc, inl, inr, List, [], ◌∷◌, refl}
use Rattle.pp_graph.specs.Built.{built}
use Rattle.pp_graph.specs.Plan.{Plan}
use Rattle.pp_text.specs.Outcome.{HasReading}
use Rattle.pp_text.proofs.SomeReadingLemmas.{reading_some}
use Rattle.pp_tool.specs.declared.refusal.GraphReason.TheVariants as graph
use Rattle.pp_tool.specs.declared.refusal.Refusal.TheVariants as refusal
use Rattle.pp_tool.specs.Verdict.{Outcome, Gives, Refuses, AtLeastOne}
use Rattle.pp_tool.specs.GraphText.{Begun, BeginsWithGraph, ReadsText, ReadsTextAlone}

-- each reading of the bytes is an outcome
text_by : (bytes : List ℕ) → HasReading bytes → AtLeastOne (ReadsText bytes)
text_by bytes (inl read) none =
    let begins : BeginsWithGraph bytes (built read.0.calls) read.1 read.2 = record { told = read.0; text = read.3; rules = read.4; is = refl } in
    none (Gives (built read.0.calls, read.2), (read.1, begins))
text_by bytes (inr (inl broken)) none = none (Refuses (refusal.Graph (graph.BrokenRule broken.0 broken.1)) [], (graph.BrokenRule broken.0 broken.1, broken.2, refl, refl))
text_by bytes (inr (inr (inl wrong))) none = none (Refuses (refusal.Graph (graph.WrongLine wrong.0)) [], (graph.WrongLine wrong.0, wrong.1, refl, refl))
text_by bytes (inr (inr (inr long))) none = none (Refuses (refusal.Graph graph.LongLine) [], (graph.LongLine, long, refl, refl))

pub text_some : (bytes : List ℕ) → AtLeastOne (ReadsText bytes)
text_some bytes none = reading_some bytes (λ reading. text_by bytes reading none)

-- and so is each where nothing may follow
followed_by : (bytes : List ℕ) (g : Plan) (last : ℕ) (rest : List ℕ) → BeginsWithGraph bytes g last rest → AtLeastOne (ReadsTextAlone bytes)
followed_by bytes g last [] begins none = none (Gives g, (last, begins))
followed_by bytes g last (b ∷ rest) begins none =
    none (Refuses (refusal.Graph (graph.WrongLine (suc last))) [], (graph.WrongLine (suc last), inr (g, last, b ∷ rest, begins, (λ e. absurd cc), refl), refl, refl))

alone_by : (bytes : List ℕ) (o : Outcome Begun) → ReadsText bytes o → AtLeastOne (ReadsTextAlone bytes)
alone_by bytes (Gives begun) read none = followed_by bytes begun.0 read.0 begun.1 read.1 none
alone_by bytes (Refuses why before) read none = none (Refuses why before, (read.0, inl read.1, read.2, read.3))

pub alone_some : (bytes : List ℕ) → AtLeastOne (ReadsTextAlone bytes)
alone_some bytes none = text_some bytes (λ read. alone_by bytes read.0 read.1 none)
