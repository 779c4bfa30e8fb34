use Rattle.covjobs_tests.proofs.tests.closing.seats_kept_back.Given as goal

-- the name of the book that is about to be opened, and its number of jobs
abbrev pub ghosts-kept_back-L-Ledger : goal.ghosts-kept_back-L-Ledger
ghosts-kept_back-L-Ledger g a = record { name = a.start.name; parts = a.start.jobs }

-- this book itself
abbrev pub ghosts-kept_back-L-Name : goal.ghosts-kept_back-L-Name
ghosts-kept_back-L-Name g a = record { book = a.start.book }
