-- Which files a printed text includes, by patterns (lcov(1): --extract and --remove, in LCOV 2.x also --include and --exclude).
use Rattle.std.specs.Prelude.{ℕ, Bool, true, not, ◌&&◌, List, [], ◌∷◌}
use Rattle.std.specs.List.{list_any}
use Rattle.covreport.specs.Pattern.{matches}

pub data ChoiceData : Type 0 where
  AllFiles : ChoiceData
  Extracted : (patterns : List (List ℕ)) → ChoiceData
  Removed : (patterns : List (List ℕ)) → ChoiceData
  Filtered : (includes excludes : List (List ℕ)) → ChoiceData

-- at least one of the patterns matches the path
abbrev pub any_matches : List (List ℕ) → List ℕ → Bool
any_matches patterns path = list_any (λ pattern. matches pattern path) patterns

-- at least one of the includes matches the path, or there are no includes
abbrev pub is_included : (includes : List (List ℕ)) → List ℕ → Bool
is_included [] path = true
is_included (pattern ∷ patterns) path = any_matches (pattern ∷ patterns) path

-- the file is chosen. `AllFiles` chooses every file; `Extracted`, those that a pattern matches; `Removed`, those that no
-- pattern matches; and `Filtered`, included files that no exclude matches
abbrev pub is_chosen : ChoiceData → List ℕ → Bool
is_chosen AllFiles file = true
is_chosen (Extracted patterns) file = any_matches patterns file
is_chosen (Removed patterns) file = not (any_matches patterns file)
is_chosen (Filtered includes excludes) file = is_included includes file && not (any_matches excludes file)

-- the most patterns in one list
abbrev pub max_patterns : ℕ
max_patterns = 64

-- the most bytes in one pattern
abbrev pub max_pattern_bytes : ℕ
max_pattern_bytes = 1024
