-- What a call adds to the share of its seat, by the place of its entry.
use Rattle.std.specs.Prelude.{ℕ, zero, suc, ◌+◌, List, [], ◌∷◌}

-- a call whose entry is at this place adds 2^41 and the place. A history has at most 2^20 entries, so all their places together
-- are below 2^41: the sum of some calls' weights tells how many calls there are, and the sum of their places
abbrev pub weight_at : ℕ → ℕ
weight_at place = 2199023255552 + place

-- what calls with entries at these places add
abbrev pub weight : List ℕ → ℕ
weight [] = 0
weight (place ∷ places) = weight_at place + weight places

-- what the calls of a history with this many entries add: one call at each place
abbrev pub weight_below : ℕ → ℕ
weight_below zero = 0
weight_below (suc n) = weight_below n + weight_at n
