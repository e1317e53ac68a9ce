-- The ledger is the one that the blank opens.
use Rattle.pp_push_tests.proofs.engine.cuts.each_cut_tells_the_same.Given as goal

abbrev pub ghosts-assert_cuts : goal.ghosts-assert_cuts
ghosts-assert_cuts g a = record { name = a.blank.name; parts = a.blank.parts }
