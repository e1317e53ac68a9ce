use Rattle.pp_program.specs.declared.program.Program.{Program}
use Rattle.pp_program.specs.declared.fault.VerifyRule.TheVariants.{Target, Width, Loop, Spans, Names}
use Rattle.pp_program.specs.Valid.{Holds, IsValid}
use Rattle.pp_program.proofs.SoundLemmas.{sound-of, counts-of}
use Rattle.pp_program.proofs.verification.verify.Goals as goal

all-hold : (p : Program) → Holds p Target → Holds p Width → Holds p Loop → Holds p Spans → Holds p Names → IsValid p
all-hold p a b c d e Target = a
all-hold p a b c d e Width = b
all-hold p a b c d e Loop = c
all-hold p a b c d e Spans = d
all-hold p a b c d e Names = e

pub flow_of-requires : goal.flow_of-requires
flow_of-requires c = sound-of c.args.program c.in_ok-try_targets.ensures.ok

pub try_names-requires-clause-counts : goal.try_names-requires-clause-counts
try_names-requires-clause-counts c = counts-of c.args.program c.in_ok-try_targets.ensures.ok

pub of-requires : goal.of-requires
of-requires c = record {
  valid = all-hold c.args.program c.in_ok-try_targets.ensures.ok c.in_ok-try_widths.ensures.ok c.in_ok-gap.ensures.ok.0 c.in_ok-opened.ensures.ok.0 c.in_ok-try_names.ensures.ok;
  exact_gap = c.in_ok-gap.ensures.ok.1;
  ranks = c.in_ok-gap.ensures.ok.2;
  exact_spans = c.in_ok-opened.ensures.ok.1;
}
