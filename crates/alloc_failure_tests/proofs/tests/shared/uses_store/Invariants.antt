use Rattle.alloc_failure_tests.proofs.tests.shared.uses_store.Given as goal

-- the name of the book that is about to be opened, and its number of jobs
abbrev pub ghosts-uses-L-Ledger : goal.ghosts-uses-L-Ledger
ghosts-uses-L-Ledger g a = record { name = a.start.name; parts = a.start.jobs }

-- this book itself
abbrev pub ghosts-uses-L-Name : goal.ghosts-uses-L-Name
ghosts-uses-L-Name g a = record { book = a.start.book }
