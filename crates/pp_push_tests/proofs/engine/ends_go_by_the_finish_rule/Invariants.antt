-- The ledger is the one that the blank opens.
use Rattle.pp_push_tests.proofs.engine.ends_go_by_the_finish_rule.Given as goal

abbrev pub ghosts-assert_session : goal.ghosts-assert_session
ghosts-assert_session g a = record { name = a.blank.name; parts = a.blank.parts }
