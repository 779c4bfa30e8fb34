-- Which path a source file gets, as a relation. A law says that `mapped_path` is this relation.
use Rattle.std.specs.Prelude.{◌≡◌, ◌⊎◌, ◌<◌, ℕ, List, [], ◌∷◌, ◌++◌, length}
use Rattle.covpaths.specs.Paths.{RuleData}

-- `old` is the path, or ends at a slash (47) in it, and the path with `new` in its place is `mapped`, which isn't empty
pub record Applies (rule : RuleData) (path mapped : List ℕ) : Type 0 where
  pub rest : List ℕ
  pub front : path ≡ rule.old ++ rest
  pub at_slash : (rest ≡ []) ⊎ (((more : List ℕ) × (rest ≡ 47 ∷ more)) ⊎ ((more : List ℕ) × (rule.old ≡ more ++ 47 ∷ [])))
  pub is : mapped ≡ rule.new ++ rest
  pub some : 0 < length mapped

-- the first rule that applies decides. If none applies, the path stays
abbrev pub IsMapped : List RuleData → (path mapped : List ℕ) → Type 0
IsMapped [] path mapped = mapped ≡ path
IsMapped (rule ∷ rules) path mapped = Applies rule path mapped ⊎ (((other : List ℕ) → Applies rule path other → ⊥) × IsMapped rules path mapped)
