use Rattle.covnews_tests.proofs.tests.readers_follow.Given as goal

-- the name is that of the history that the seed begins
abbrev pub ghosts-follow-L-Name : goal.ghosts-follow-L-Name
ghosts-follow-L-Name g a = record { book = a.seed.book }
