-- The ledger is the one that the blank opens.
use Rattle.pp_file_tests.proofs.writing.the_first_example_has_its_file.Given as goal

abbrev pub ghosts-assert_file : goal.ghosts-assert_file
ghosts-assert_file g a = record { name = a.blank.name; parts = a.blank.parts }
