use Rattle.covjobs_tests.proofs.tests.refusals.no_room_anew.Given as goal

-- the name of the book that is about to be opened, and its number of jobs
abbrev pub ghosts-no_room-L-Ledger : goal.ghosts-no_room-L-Ledger
ghosts-no_room-L-Ledger g a = record { name = a.start.name; parts = a.start.jobs }

-- this book itself
abbrev pub ghosts-no_room-L-Name : goal.ghosts-no_room-L-Name
ghosts-no_room-L-Name g a = record { book = a.start.book }
