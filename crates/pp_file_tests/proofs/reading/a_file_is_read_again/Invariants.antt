-- The ledger is the one that the blank opens.
use Rattle.pp_file_tests.proofs.reading.a_file_is_read_again.Given as goal

abbrev pub ghosts-assert_again : goal.ghosts-assert_again
ghosts-assert_again g a = record { name = a.blank.name; parts = a.blank.parts }
