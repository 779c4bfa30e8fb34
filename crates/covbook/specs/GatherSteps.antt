-- What the private functions that `gather` calls return.
use Rattle.std.specs.Prelude.{ℕ, ◌+◌, ◌<◌, ◌≤◌, cond, List, [], ◌∷◌, Option, Result, MatchOption, MatchResult, eqb, ltb}
use Rattle.std.specs.List.{AllByRecursion, Contains}
use Rattle.covbook.specs.declared.gather_fault.GatherFault.{GatherFault}
use Rattle.covbook.specs.Gather.{LogData, Rise, places_of, places_in, Claim, AllHold, FirstFails}

-- the result is `Ok` and all claims hold, or the result is the fault of the first claim that doesn't hold
abbrev pub Returns : {T : Type 0} → Result T GatherFault → List {1} Claim → Type 0
Returns {T} result claims = MatchResult result (λ (x : T). AllHold claims) (λ (fault : GatherFault). FirstFails claims fault)

-- how many of the places are this one
abbrev pub times : ℕ → List ℕ → ℕ
times place [] = 0
times place (p ∷ places) = cond (eqb place p) 1 0 + times place places

-- how many of the places are below this one
abbrev pub below : ℕ → List ℕ → ℕ
below place [] = 0
below place (p ∷ places) = cond (ltb p place) 1 0 + below place places

-- in each log the places rise, and no place comes twice in all logs together
pub record AreApart (logs : List LogData) : Type 0 where
  pub rise : AllByRecursion (λ (log : LogData). Rise (places_of log)) logs
  pub once : (place : ℕ) → times place (places_in logs) ≤ 1

-- the result is `None` if all places below `count` are in the list. Otherwise it is the least place that isn't in the list
abbrev pub ReturnsLeast : Option ℕ → ℕ → List ℕ → Type 0
ReturnsLeast result count places =
    MatchOption result ((p : ℕ) → p < count → Contains places p) (λ (place : ℕ). (place < count) × (Contains places place → ⊥) × ((p : ℕ) → p < place → Contains places p))
