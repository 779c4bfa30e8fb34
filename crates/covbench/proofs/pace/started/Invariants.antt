use Rattle.covbench.proofs.pace.started.Given as goal

-- the count that the start names, with a part for each job
abbrev pub ghosts-measured-L-Ledger : goal.ghosts-measured-L-Ledger
ghosts-measured-L-Ledger g a = record { name = a.start.name; parts = a.start.jobs }

-- the noted history that the start names
abbrev pub ghosts-measured-L-Name : goal.ghosts-measured-L-Name
ghosts-measured-L-Name g a = record { book = a.start.book }
