use Rattle.covjobs_tests.proofs.tests.refusals.a_full_book.Given as goal

-- the name of the book that is about to be opened, and its number of jobs
abbrev pub ghosts-full-L-Ledger : goal.ghosts-full-L-Ledger
ghosts-full-L-Ledger g a = record { name = a.start.name; parts = a.start.jobs }

-- this book itself
abbrev pub ghosts-full-L-Name : goal.ghosts-full-L-Name
ghosts-full-L-Name g a = record { book = a.start.book }
