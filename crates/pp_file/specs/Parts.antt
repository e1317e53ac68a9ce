-- The parts of a program file: their fields, in order, and what is right in each.
use Rattle.std.specs.Prelude.{ℕ, ◌+◌, Bool, true, false, ◌||◌, ◌==◌, nat_le, Option, Some, None, Result, Ok, Err, if◌then◌else◌}
use Rattle.std.specs.Int.{w8, w16, w32, w64}
use Rattle.pp_bytes.specs.declared.fold.Fold.{Fold}
use Rattle.pp_bytes.specs.declared.fold.Fold.TheVariants.{Same, Lower}
use Rattle.pp_rules.specs.Rules.Limits.{most_props, most_hosts, most_spans}
use Rattle.pp_rules.specs.declared.declaration.Width.{Width}
use Rattle.pp_rules.specs.declared.declaration.Width.TheVariants.{W8, W16, W32, W64}
use Rattle.pp_rules.specs.declared.declaration.PropDecl.{PropDecl}
use Rattle.pp_rules.specs.declared.declaration.HostDecl.{HostDecl}
use Rattle.pp_rules.specs.declared.declaration.SpanDecl.{SpanDecl}
use Rattle.pp_graph.specs.declared.node.Answer.{Answer}
use Rattle.pp_graph.specs.declared.node.Code.{Code}
use Rattle.pp_graph.specs.declared.node.Code.TheVariants as code
use Rattle.pp_program.specs.declared.program.Edge.{Edge}
use Rattle.pp_program.specs.declared.program.Rest.{Rest}
use Rattle.pp_program.specs.declared.program.Instr.{Instr}
use Rattle.pp_program.specs.declared.program.Instr.TheVariants.{Branch, Invoke, Consume, SpanOpen, SpanClose, Pause, Fail}
use Rattle.pp_program.specs.declared.program.State.{State}
use Rattle.pp_program.specs.declared.program.Program.{Program}
use Rattle.pp_program.specs.Targets.{may_follow, most_edges, most_names, most_states}
use Rattle.pp_file.specs.declared.declarations.Counts.{Counts}
use Rattle.pp_file.specs.Fields.{Left, Next, ◌>>=◌, bytes_at, field_at, number_at, within, text_at, items_at, any_at}

-- how many bits a property has
abbrev pub is_width_byte : ℕ → Bool
is_width_byte n = n == 8 || n == 16 || n == 32 || n == 64

abbrev pub width_of : ℕ → Width
width_of n = if n == 8 then W8 else (if n == 16 then W16 else (if n == 32 then W32 else W64))

unfoldable pub width_at : Left → Next Width
width_at left = do
  bits ← number_at w8 is_width_byte left
  Ok (width_of bits.0, bits.1)

unfoldable pub prop_at : Left → Next PropDecl
prop_at left = do
  name ← text_at left
  width ← width_at name.1
  Ok (record { name = name.0; width = width.0 }, width.1)

-- the signature is 0 for match and 1 for value
unfoldable pub host_at : Left → Next HostDecl
host_at left = do
  name ← text_at left
  signature ← number_at w8 (within 0 1) name.1
  Ok (record { name = name.0; value = signature.0 == 1 }, signature.1)

unfoldable pub span_at : Left → Next SpanDecl
span_at left = do
  name ← text_at left
  Ok (record { name = name.0 }, name.1)

-- the finish rule: 0 where there is none, else 1, its property and its host code
unfoldable pub rule_at : Left → Next (Option (ℕ × ℕ))
rule_at left = do
  prop ← field_at w8 left
  host ← field_at w8 prop.1
  Ok (Some (prop.0, host.0), host.1)

unfoldable pub finish_at : Left → Next (Option (ℕ × ℕ))
finish_at left = do
  there ← number_at w8 (within 0 1) left
  if there.0 == 0 then Ok (None, there.1) else rule_at there.1

-- a range of a stay begins above the byte that follows the range before it
abbrev pub least_stay : Option (ℕ × ℕ) → ℕ
least_stay None = 0
least_stay (Some before) = before.1 + 2

unfoldable pub range_at : Option (ℕ × ℕ) → Left → Next (ℕ × ℕ)
range_at before left = do
  lo ← number_at w8 (within (least_stay before) 255) left
  hi ← number_at w8 (within lo.0 255) lo.1
  Ok ((lo.0, hi.0), hi.1)

-- an edge begins above the edge before it
abbrev pub least_edge : Option Edge → ℕ
least_edge None = 0
least_edge (Some before) = before.hi + 1

-- it isn't the edge before it, gone on with
abbrev pub may_stand : Option Edge → Edge → Bool
may_stand None e = true
may_stand (Some before) e = may_follow before e

abbrev pub plain_edge : ℕ → ℕ → Bool → ℕ → Edge
plain_edge lo hi take target = record { lo = lo; hi = hi; take = take; number = None; target = target }

-- an edge that carries a number takes its byte
abbrev pub numbered_edge : ℕ → ℕ → ℕ → ℕ → Edge
numbered_edge lo hi target number = record { lo = lo; hi = hi; take = true; number = Some number; target = target }

-- Behind the flag comes the target. It is wrong where the edge is the one before it, gone on with.
unfoldable pub plain_edge_at : Option Edge → ℕ → ℕ → Bool → Left → Next Edge
plain_edge_at before lo hi take left = do
  target ← number_at w16 (λ target. may_stand before (plain_edge lo hi take target)) left
  Ok (plain_edge lo hi take target.0, target.1)

-- Behind the flag come the target and the number. The number is wrong where the edge is the one before it, gone on with.
unfoldable pub numbered_edge_at : Option Edge → ℕ → ℕ → Left → Next Edge
numbered_edge_at before lo hi left = do
  target ← field_at w16 left
  number ← number_at w32 (λ number. may_stand before (numbered_edge lo hi target.0 number)) target.1
  Ok (numbered_edge lo hi target.0 number.0, number.1)

-- the flag is 0 where the byte isn't taken, 1 where it is, and 2 where it is and a number is carried
unfoldable pub edge_at : Option Edge → Left → Next Edge
edge_at before left = do
  lo ← number_at w8 (within (least_edge before) 255) left
  hi ← number_at w8 (within lo.0 255) lo.1
  flag ← number_at w8 (within 0 2) hi.1
  if flag.0 == 2 then numbered_edge_at before lo.0 hi.0 flag.1 else plain_edge_at before lo.0 hi.0 (flag.0 == 1) flag.1

unfoldable pub numbered_rest_at : Left → Next Rest
numbered_rest_at left = do
  target ← field_at w16 left
  number ← field_at w32 target.1
  Ok (record { skip = false; number = Some number.0; target = target.0 }, number.1)

unfoldable pub plain_rest_at : Bool → Left → Next Rest
plain_rest_at skip left = do
  target ← field_at w16 left
  Ok (record { skip = skip; number = None; target = target.0 }, target.1)

-- the flag is 0 where the byte isn't taken, 1 where it is, and 2 where it isn't and a number is carried
unfoldable pub rest_at : Left → Next Rest
rest_at left = do
  flag ← number_at w8 (within 0 2) left
  if flag.0 == 2 then numbered_rest_at flag.1 else plain_rest_at (flag.0 == 1) flag.1

-- the number of an answer is above that of the answer before it
abbrev pub least_answer : Option Answer → ℕ
least_answer None = 0
least_answer (Some before) = before.number + 1

unfoldable pub answer_at : Option Answer → Left → Next Answer
answer_at before left = do
  number ← number_at w32 (nat_le (least_answer before)) left
  target ← field_at w16 number.1
  Ok (record { number = number.0; target = target.0 }, target.1)

-- a base of 32 bits, and the most
unfoldable pub muladd_at : ℕ → Left → Next Code
muladd_at prop left = do
  base ← field_at w32 left
  most ← field_at w64 base.1
  Ok (code.MulAdd prop base.0 most.0, most.1)

-- the codes with a value, whose kinds are 4 to 8
abbrev pub valued : ℕ → ℕ → ℕ → Code
valued kind prop value =
    if kind == 4 then code.Update prop value
    else (if kind == 5 then code.Equal prop value
    else (if kind == 6 then code.And prop value
    else (if kind == 7 then code.Or prop value
    else code.Test prop value)))

unfoldable pub value_at : ℕ → ℕ → Left → Next Code
value_at kind prop left = do
  value ← field_at w64 left
  Ok (valued kind prop value.0, value.1)

-- the constants of the code of a kind from 1 to 9, which runs on a property or a host code
unfoldable pub constants_at : ℕ → ℕ → Left → Next Code
constants_at kind at left =
    if kind == 1 then Ok (code.Call at, left)
    else (if kind == 2 then Ok (code.Store at, left)
    else (if kind == 3 then Ok (code.Load at, left)
    else (if kind == 9 then muladd_at at left
    else value_at kind at left)))

-- a property or a host code, and the constants
unfoldable pub code_at : ℕ → Left → Next Code
code_at kind left = do
  at ← field_at w8 left
  constants_at kind at.0 at.1

-- how many answers there are, the answers, and where every other answer leads
unfoldable pub answers_at : Code → Left → Next Instr
answers_at what left = do
  count ← field_at w16 left
  answers ← items_at answer_at count.0 None count.1
  other ← field_at w16 answers.1
  Ok (Invoke what answers.0 other.0, other.1)

unfoldable pub invoke_at : ℕ → Left → Next Instr
invoke_at kind left = do
  what ← code_at kind left
  answers_at what.0 what.1

-- a property or a span, and the next state
unfoldable pub next_at : (ℕ → ℕ → Instr) → Left → Next Instr
next_at instr_of left = do
  at ← field_at w8 left
  next ← field_at w16 at.1
  Ok (instr_of at.0 next.0, next.1)

-- 0 compares bytes as they are, 1 in lower case
abbrev pub fold_of : ℕ → Fold
fold_of n = if n == 0 then Same else Lower

unfoldable pub branch_at : Left → Next Instr
branch_at left = do
  fold ← number_at w8 (within 0 1) left
  ranges ← number_at w8 (within 0 8) fold.1
  stay ← items_at range_at ranges.0 None ranges.1
  count ← number_at w16 (within 0 most_edges) stay.1
  edges ← items_at edge_at count.0 None count.1
  rest ← rest_at edges.1
  Ok (Branch (fold_of fold.0) stay.0 edges.0 rest.0, rest.1)

unfoldable pub pause_at : Left → Next Instr
pause_at left = do
  number ← field_at w32 left
  reason ← text_at number.1
  next ← field_at w16 reason.1
  Ok (Pause number.0 reason.0 next.0, next.1)

unfoldable pub fail_at : Left → Next Instr
fail_at left = do
  number ← field_at w32 left
  reason ← text_at number.1
  Ok (Fail number.0 reason.0, reason.1)

-- what comes behind a kind, of which 14 is the last: those from 1 to 9 run a code
unfoldable pub body_at : ℕ → Left → Next Instr
body_at kind left =
    if kind == 0 then branch_at left
    else (if kind == 10 then next_at Consume left
    else (if kind == 11 then next_at SpanOpen left
    else (if kind == 12 then next_at SpanClose left
    else (if kind == 13 then pause_at left
    else (if kind == 14 then fail_at left
    else invoke_at kind left)))))

unfoldable pub state_at : Left → Next State
state_at left = do
  origin ← field_at w16 left
  kind ← number_at w8 (within 0 14) origin.1
  instr ← body_at kind.0 kind.1
  Ok (record { origin = origin.0; instr = instr.0 }, instr.1)

-- how many properties, host codes, spans, names and states there are, and the entry
unfoldable pub counts_at : Left → Next Counts
counts_at left = do
  props ← number_at w8 (within 0 most_props) left
  hosts ← number_at w8 (within 0 most_hosts) props.1
  spans ← number_at w8 (within 0 most_spans) hosts.1
  names ← number_at w16 (within 1 most_names) spans.1
  states ← number_at w16 (within 1 most_states) names.1
  entry ← field_at w16 states.1
  Ok (record { props = props.0; hosts = hosts.0; spans = spans.0; names = names.0; states = states.0; entry = entry.0 }, entry.1)

-- what stands behind the length
unfoldable pub parts_at : Left → Next Program
parts_at left = do
  counts ← counts_at left
  finish ← finish_at counts.1
  props ← any_at prop_at counts.0.props finish.1
  hosts ← any_at host_at counts.0.hosts props.1
  spans ← any_at span_at counts.0.spans hosts.1
  names ← any_at text_at counts.0.names spans.1
  states ← any_at state_at counts.0.states names.1
  Ok (record { props = props.0; hosts = hosts.0; spans = spans.0; names = names.0; states = states.0; entry = counts.0.entry; finish = finish.0 }, states.1)
