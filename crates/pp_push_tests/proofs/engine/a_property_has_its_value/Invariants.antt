-- The ledger is the one that the blank opens.
use Rattle.pp_push_tests.proofs.engine.a_property_has_its_value.Given as goal

abbrev pub ghosts-assert_value : goal.ghosts-assert_value
ghosts-assert_value g a = record { name = a.blank.name; parts = a.blank.parts }
