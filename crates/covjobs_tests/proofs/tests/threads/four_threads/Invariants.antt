use Rattle.covjobs_tests.proofs.tests.threads.four_threads.Given as goal

-- the name of the book that is about to be opened, and its number of jobs
abbrev pub ghosts-at_once-L-Ledger : goal.ghosts-at_once-L-Ledger
ghosts-at_once-L-Ledger g a = record { name = a.start.name; parts = a.start.jobs }

-- this book itself
abbrev pub ghosts-at_once-L-Name : goal.ghosts-at_once-L-Name
ghosts-at_once-L-Name g a = record { book = a.start.book }
