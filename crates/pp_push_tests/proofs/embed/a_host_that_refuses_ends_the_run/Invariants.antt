-- The ledger is the one that the blank opens.
use Rattle.pp_push_tests.proofs.embed.a_host_that_refuses_ends_the_run.Given as goal

abbrev pub ghosts-ask_a_full_host : goal.ghosts-ask_a_full_host
ghosts-ask_a_full_host g a = record { name = a.blank.name; parts = a.blank.parts }
