-- The ledger is the one that the blank opens.
use Rattle.pp_push_tests.proofs.engine.spans_and_numbers_come_in_pieces.Given as goal

abbrev pub ghosts-assert_session : goal.ghosts-assert_session
ghosts-assert_session g a = record { name = a.blank.name; parts = a.blank.parts }
