-- The ledger is the one that the blank opens.
use Rattle.pp_push_tests.proofs.engine.stops_and_pauses_hold_a_parser.Given as goal

abbrev pub ghosts-assert_session : goal.ghosts-assert_session
ghosts-assert_session g a = record { name = a.blank.name; parts = a.blank.parts }
