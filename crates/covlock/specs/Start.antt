-- What a shared book is made of.
use Rattle.std.specs.Prelude.{◌≡◌, ℕ, ◌≤◌}
use Rattle.logbook.specs.Pages.{Book}

-- the name of the count of the book's calls, how many jobs share the book, and the book's name
pub record StartData : Type 0 where
  pub name : ℕ
  pub jobs : ℕ
  pub book : Book

-- this number of jobs may share a book
pub record AreJobs (jobs : ℕ) : Type 0 where
  pub some : 1 ≤ jobs
  pub few : jobs ≤ 64

-- this number of jobs may share a book, and the count of the calls has a part for each of them
pub record IsStart (jobs parts : ℕ) : Type 0 where
  pub bounds : AreJobs jobs
  pub parts_are : parts ≡ jobs
