use Rattle.alloc_failure_tests.proofs.tests.shared.opens_anew.Given as goal

-- the name of the book that is about to be opened, and its number of jobs
abbrev pub ghosts-opens-L-Ledger : goal.ghosts-opens-L-Ledger
ghosts-opens-L-Ledger g a = record { name = a.start.name; parts = a.start.jobs }

-- this book itself
abbrev pub ghosts-opens-L-Name : goal.ghosts-opens-L-Name
ghosts-opens-L-Name g a = record { book = a.start.book }
