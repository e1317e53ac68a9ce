-- The ledger is the one that the blank opens.
use Rattle.pp_push_tests.proofs.clean.edges_are_merged_and_states_numbered_anew.Given as goal

abbrev pub ghosts-assert_branch : goal.ghosts-assert_branch
ghosts-assert_branch g a = record { name = a.blank.name; parts = a.blank.parts }
