use Rattle.covnews_tests.proofs.tests.publishing_takes_no_memory.Given as goal

-- the name is that of the history that the seed begins
abbrev pub ghosts-publish_without_room-L-Name : goal.ghosts-publish_without_room-L-Name
ghosts-publish_without_room-L-Name g a = record { book = a.seed.book }
