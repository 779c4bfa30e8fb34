use Rattle.covworkers.proofs.into_book.collect_into_book.Given as goal

-- the book that is about to be opened
abbrev pub ghosts-collect_named-L-Ledger : goal.ghosts-collect_named-L-Ledger
ghosts-collect_named-L-Ledger g a = record { name = a.start.name; parts = a.start.jobs }

abbrev pub ghosts-collect_named-L-Name : goal.ghosts-collect_named-L-Name
ghosts-collect_named-L-Name g a = record { book = a.start.book }
