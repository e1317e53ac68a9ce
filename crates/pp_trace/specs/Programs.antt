-- What a report shows of a program.
use Rattle.std.specs.Prelude.{ℕ, List, [], Option, Some, None, map, slice_get, unwrap_or}
use Rattle.pp_rules.specs.Widths.{greatest}
use Rattle.pp_rules.specs.declared.declaration.PropDecl.{PropDecl}
use Rattle.pp_rules.specs.declared.declaration.HostDecl.{HostDecl}
use Rattle.pp_rules.specs.declared.declaration.SpanDecl.{SpanDecl}
use Rattle.pp_program.specs.declared.program.Instr.{Instr}
use Rattle.pp_program.specs.declared.program.Instr.TheVariants.{Branch, Invoke, Consume, SpanOpen, SpanClose, Pause, Fail}
use Rattle.pp_program.specs.declared.program.State.{State}
use Rattle.pp_program.specs.declared.program.Program.{Program}
use Rattle.pp_program.specs.States.{program_turn, program_entry}
use Rattle.pp_trace.specs.Subject.{Meaning, SeenRuns, Subject}

-- the name of the node that a state comes from, or nothing where there is no state
abbrev pub state_name : Program → Option State → List ℕ
state_name p None = []
state_name p (Some s) = unwrap_or (slice_get p.names s.origin) []

-- the reason of a pause or an error, and nothing of any other instruction
abbrev pub instr_reason : Instr → List ℕ
instr_reason (Branch fold stay edges rest) = []
instr_reason (Invoke what answers other) = []
instr_reason (Consume prop next) = []
instr_reason (SpanOpen span next) = []
instr_reason (SpanClose span next) = []
instr_reason (Pause code reason next) = reason
instr_reason (Fail code reason) = reason

-- the reason of a state, or nothing where there is none
abbrev pub state_reason : Option State → List ℕ
state_reason None = []
state_reason (Some s) = instr_reason s.instr

-- a program as a machine with names
abbrev pub program_meaning : Program → Meaning
program_meaning p = record {
  turn = program_turn p;
  start = program_entry p;
  name = λ node. state_name p (slice_get p.states node);
  reason = λ node. state_reason (slice_get p.states node);
}

-- the names and the finish rule of a program, with these runs
abbrev pub program_subject : Program → SeenRuns → Subject
program_subject p run = record {
  props = map (λ (d : PropDecl). d.name) p.props;
  most = map (λ (d : PropDecl). greatest d.width) p.props;
  hosts = map (λ (d : HostDecl). d.name) p.hosts;
  spans = map (λ (d : SpanDecl). d.name) p.spans;
  finish_rule = p.finish;
  run = run;
}
