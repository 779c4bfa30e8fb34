-- Counts that are added up.
use Rattle.std.specs.Prelude.{ℕ, ◌+◌, ◌-◌, ◌^◌, min, List, Option, unwrap_or}
use Rattle.std.specs.Ordering.{nat_cmp}
use Rattle.covmap.specs.Run.{summed}

-- the sum of a count and the value before it (0 if there is none), at most 2^64 - 1
abbrev pub more : ℕ → Option ℕ → ℕ
more count before = min (unwrap_or before 0 + count) (2 ^ 64 - 1)

-- the lines with their counts, after these counts are added to them one after another
abbrev pub added : List (ℕ × ℕ) → List (ℕ × ℕ) → List (ℕ × ℕ)
added counts lines = summed nat_cmp (λ line. line) more counts lines
