use Rattle.covbench.proofs.soak.one_round.Given as goal

-- the count that the start names, with a part for each job
abbrev pub ghosts-soaked-L-Ledger : goal.ghosts-soaked-L-Ledger
ghosts-soaked-L-Ledger g a = record { name = a.start.name; parts = a.start.jobs }

-- the noted history that the start names
abbrev pub ghosts-soaked-L-Name : goal.ghosts-soaked-L-Name
ghosts-soaked-L-Name g a = record { book = a.start.book }
