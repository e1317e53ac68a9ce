-- The ledger is the one that the blank opens.
use Rattle.pp_push_tests.proofs.embed.a_host_of_its_own_counts_the_bytes_of_a_span.Given as goal

abbrev pub ghosts-count_a_word : goal.ghosts-count_a_word
ghosts-count_a_word g a = record { name = a.blank.name; parts = a.blank.parts }
