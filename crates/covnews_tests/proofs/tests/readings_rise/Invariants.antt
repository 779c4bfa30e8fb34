use Rattle.covnews_tests.proofs.tests.readings_rise.Given as goal

-- the name is that of the history that the seed begins
abbrev pub ghosts-read_meanwhile-L-Name : goal.ghosts-read_meanwhile-L-Name
ghosts-read_meanwhile-L-Name g a = record { book = a.seed.book }
