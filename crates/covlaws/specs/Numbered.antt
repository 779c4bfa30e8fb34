-- The numbers that branches of LCOV 2 get.
use Rattle.std.specs.Prelude.{◌≡◌, ◌⊎◌, ℕ, ◌-◌, ◌<◌, ◌^◌, ◌==◌, ◌&&◌, if◌then◌else◌, List, [], ◌∷◌}
use Rattle.covlcov2.specs.Reads.{branch_number}
use Rattle.covlcov2.specs.Spells.{Lcov2Data, Edge}

-- the numbers of the branches of this block, the nearest first
abbrev pub numbers_in : (line block : ℕ) → List Lcov2Data → List ℕ
numbers_in line block [] = []
numbers_in line block (Edge is_excluded other that given taken ∷ above) =
    if other == line && that == block then branch_number above line block given ∷ numbers_in line block above else numbers_in line block above
numbers_in line block (says ∷ above) = numbers_in line block above

-- the number is above the earlier one, unless it is the largest that a branch can have
abbrev pub IsNewAfter : (number earlier : ℕ) → Type 0
IsNewAfter number earlier = (earlier < number) ⊎ (number ≡ 2 ^ 64 - 1)
