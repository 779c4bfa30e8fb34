use Rattle.covjobs_tests.proofs.tests.readers.readers_of_a_closed_book.Given as goal

-- the name of the book that is about to be opened, and its number of jobs
abbrev pub ghosts-kept_over_close-L-Ledger : goal.ghosts-kept_over_close-L-Ledger
ghosts-kept_over_close-L-Ledger g a = record { name = a.start.name; parts = a.start.jobs }

-- this book itself
abbrev pub ghosts-kept_over_close-L-Name : goal.ghosts-kept_over_close-L-Name
ghosts-kept_over_close-L-Name g a = record { book = a.start.book }
