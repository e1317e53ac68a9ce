-- The ledger is the one that the blank opens.
use Rattle.pp_push_tests.proofs.engine.a_refusal_is_the_end.Given as goal

abbrev pub ghosts-refusals_of : goal.ghosts-refusals_of
ghosts-refusals_of g a = record { name = a.blank.name; parts = a.blank.parts }
