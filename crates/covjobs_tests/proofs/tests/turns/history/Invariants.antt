use Rattle.covjobs_tests.proofs.tests.turns.history.Given as goal

-- the name of the book that is about to be opened, and its number of jobs
abbrev pub ghosts-in_turn-L-Ledger : goal.ghosts-in_turn-L-Ledger
ghosts-in_turn-L-Ledger g a = record { name = a.start.name; parts = a.start.jobs }

-- this book itself
abbrev pub ghosts-in_turn-L-Name : goal.ghosts-in_turn-L-Name
ghosts-in_turn-L-Name g a = record { book = a.start.book }
