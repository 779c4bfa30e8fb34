-- Which jobs' seats are handed in.
use Rattle.std.specs.Prelude.{◌≡◌, ◌==◌, ℕ, ◌<◌, Bool, true, false, List}
use Rattle.std.specs.List.{list_any}
use Rattle.covlock.specs.Seat.{SeatData}

-- one of the seats is of this job
abbrev pub is_seated : List SeatData → ℕ → Bool
is_seated seats job = list_any (λ s. job == s.job) seats

-- each job from 0 to `jobs - 1` has one of the seats
abbrev pub AllAreSeated : ℕ → List SeatData → Type 0
AllAreSeated jobs seats = (job : ℕ) → job < jobs → is_seated seats job ≡ true

-- this is the least job that has none of the seats
pub record IsLeastMissing (jobs : ℕ) (seats : List SeatData) (job : ℕ) : Type 0 where
  pub is_job : job < jobs
  pub missing : is_seated seats job ≡ false
  pub least : (lower : ℕ) → lower < job → is_seated seats lower ≡ true
