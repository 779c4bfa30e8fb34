use Rattle.covjobs_tests.proofs.tests.readers.places_for_readers.Given as goal

-- the name of the book that is about to be opened, and its number of jobs
abbrev pub ghosts-all_places-L-Ledger : goal.ghosts-all_places-L-Ledger
ghosts-all_places-L-Ledger g a = record { name = a.start.name; parts = a.start.jobs }

-- this book itself
abbrev pub ghosts-all_places-L-Name : goal.ghosts-all_places-L-Name
ghosts-all_places-L-Name g a = record { book = a.start.book }
