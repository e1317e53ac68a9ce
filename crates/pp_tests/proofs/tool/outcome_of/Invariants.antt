-- The ledger is the one that the blank opens.
use Rattle.pp_tests.proofs.tool.outcome_of.Given as goal

abbrev pub ghosts-run : goal.ghosts-run
ghosts-run a = record { name = a.blank.name; parts = a.blank.parts }
