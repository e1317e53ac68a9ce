-- The tokens are those in front of the rest, which gets shorter.
use Rattle.std.proofs.Common.{length}
use Rattle.pp_text.specs.steps.View.{tokens_of}
use Rattle.pp_text.proofs.SpacedLemmas.{IsReading}
use Rattle.pp_text.proofs.row.read_tokens.Given as goal

abbrev pub invariant-loop-token : goal.invariant-loop-token
invariant-loop-token l = IsReading l.row (tokens_of l.tokens.items) l.rest

abbrev pub decreases-loop-token : goal.decreases-loop-token
decreases-loop-token l = length l.rest
