use Rattle.covjobs_tests.proofs.tests.readers.read_at_once.Given as goal

-- the name of the book that is about to be opened, and its number of jobs
abbrev pub ghosts-read_while_written-L-Ledger : goal.ghosts-read_while_written-L-Ledger
ghosts-read_while_written-L-Ledger g a = record { name = a.start.name; parts = a.start.jobs }

-- this book itself
abbrev pub ghosts-read_while_written-L-Name : goal.ghosts-read_while_written-L-Name
ghosts-read_while_written-L-Name g a = record { book = a.start.book }
