-- The ledger is the one that the blank opens.
use Rattle.pp_push_tests.proofs.clean.an_empty_entry_is_left_out.Given as goal

abbrev pub ghosts-assert_branch : goal.ghosts-assert_branch
ghosts-assert_branch g a = record { name = a.blank.name; parts = a.blank.parts }
