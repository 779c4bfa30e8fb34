use Rattle.covjobs.proofs.collected.collect.Given as goal

-- the count that the start names, with a part for each job
abbrev pub ghosts-collect_named-L-Ledger : goal.ghosts-collect_named-L-Ledger
ghosts-collect_named-L-Ledger g a = record { name = a.start.name; parts = a.start.jobs }

-- the noted history that the start names
abbrev pub ghosts-collect_named-L-Name : goal.ghosts-collect_named-L-Name
ghosts-collect_named-L-Name g a = record { book = a.start.book }
