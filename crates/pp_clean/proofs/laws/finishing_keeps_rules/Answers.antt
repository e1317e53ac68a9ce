use Rattle.pp_clean.proofs.StillValidLaws.{finished_valid}
use Rattle.pp_clean.proofs.TargetLaws.{finished_targets}
use Rattle.pp_clean.proofs.WidthLaws.{finished_widths}
use Rattle.pp_clean.proofs.TextLaws.{finished_names}
use Rattle.pp_clean.proofs.laws.finishing_keeps_rules.Goals as goal

pub returns-clause-valid : goal.returns-clause-valid
returns-clause-valid c = finished_valid

pub returns-clause-targets : goal.returns-clause-targets
returns-clause-targets c p h holds = finished_targets p h holds

pub returns-clause-widths : goal.returns-clause-widths
returns-clause-widths c p h holds = finished_widths p h holds

pub returns-clause-names : goal.returns-clause-names
returns-clause-names c p holds = finished_names p holds
