-- Commands that read the text of a graph alone and write lines of it.
use Rattle.std.proofs.Common.{◌≡◌, List, ℕ, sym, subst}
use Rattle.std.specs.Prelude.{Result, Vec}
use Rattle.std.specs.declared.alloc.Global.{Global}
use Rattle.std.specs.Result.{IsErrAnd}
use Rattle.pp_graph.specs.Plan.{Plan}
use Rattle.pp_tool.specs.declared.stop.Stop.{Stop}
use Rattle.pp_tool.specs.Verdict.{Gives, IsOnly, Then, Writes, Stops, Answers}
use Rattle.pp_tool.specs.GraphText.{ReadsTextAlone}
use Rattle.pp_tool.specs.steps.Reading.{IsTakenStop}
use Rattle.pp_tool.proofs.VerdictLemmas.{answers_err, stops_then, then_gives, writes}
use Rattle.pp_tool.proofs.ReadLemmas.{stops_alone}

-- the text is refused
pub alone_stop : (bytes : List ℕ) (result : Result Plan Stop) (s : Stop) → IsErrAnd result (λ x. x ≡ s) → IsTakenStop bytes s → Answers (ReadsTextAlone bytes) (λ g. g) result
alone_stop bytes result s i h = answers_err (ReadsTextAlone bytes) (λ g. g) result s i (stops_alone bytes s h)

-- and so the command ends
pub lines_stop : (lines : Plan → List ℕ) (bytes : List ℕ) (result : Result (Vec ℕ Global) Stop) (s : Stop) → IsErrAnd result (λ x. x ≡ s) → Stops (ReadsTextAlone bytes) s →
    Answers (Then ReadsTextAlone (Writes lines) bytes) (λ v. v.items) result
lines_stop lines bytes result s i h =
    answers_err (Then ReadsTextAlone (Writes lines) bytes) (λ v. v.items) result s i (stops_then ReadsTextAlone (Writes lines) bytes s h)

-- or its lines are written
pub lines_given : (lines : Plan → List ℕ) (bytes : List ℕ) (g : Plan) (written : List ℕ) → IsOnly (ReadsTextAlone bytes) (Gives g) → written ≡ lines g →
    IsOnly (Then ReadsTextAlone (Writes lines) bytes) (Gives written)
lines_given lines bytes g written only is =
    then_gives ReadsTextAlone (Writes lines) bytes g (Gives written) only (subst (λ l. IsOnly (Writes lines g) (Gives l)) (sym is) (writes lines g))
