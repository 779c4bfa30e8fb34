-- Which lines LCOV 2 reads as version 1 does.
use Rattle.std.specs.Prelude.{ℕ, List, codes}
use Rattle.covdata.specs.Records.{FuncStart}
use Rattle.covdata.specs.declared.trace_line.LineFault.TheVariants.{BadLine}
use Rattle.covline.specs.Spells.{Begins, HasForm, HasFault}
use Rattle.covlcov2.specs.Spells.{IsEndAndName}

-- the line has neither key that LCOV 2 added, and it names no function that LCOV 2 reads as an end line and a name
pub record IsReadAlike (line : List ℕ) : Type 0 where
  pub no_leader : ¬ Begins line (codes "FNL:")
  pub no_alias : ¬ Begins line (codes "FNA:")
  pub no_end : (number : ℕ) (name other : List ℕ) → HasForm line (FuncStart number name) → ¬ IsEndAndName name other

-- the same, and a branch in the line has the form of version 1: LCOV 2 may read another
pub record IsOfVersion1 (line : List ℕ) : Type 0 where
  pub alike : IsReadAlike line
  pub branch : Begins line (codes "BRDA:") → ¬ HasFault line BadLine
