use Rattle.std.proofs.Common.{◌+◌, ◌*◌, ◌≤◌, length, drop}
use Rattle.pp_text.specs.steps.Rows.{SameEnds, AddsTokens}
use Rattle.pp_text.specs.steps.View.{tokens_of}
use Rattle.pp_text.proofs.calls.Calls.add_keys.Given as goal

abbrev pub invariant-loop-token : goal.invariant-loop-token
invariant-loop-token l =
    (length l.self.calls ≤ length l.initial.self.calls + 256 * l.token-index) × SameEnds (AddsTokens l.line l.key_use l.target (tokens_of (drop l.token-index l.tokens)) l.self) (AddsTokens l.line l.key_use l.target (tokens_of l.tokens) l.initial.self)
