-- What is known of single lines: the laws of `each_lcov2_line_has_one_meaning`.
use Rattle.std.specs.Prelude.{◌≡◌, ◌⊎◌, ℕ, List}
use Rattle.covdata.specs.declared.trace_line.LineFault.{LineFault}
use Rattle.covlcov2.specs.Spells.{Lcov2Data, Lcov2Spells, HasLcov2Fault}

-- each line says exactly one thing, or has exactly one fault
pub record Lcov2LineLaw : Type 0 where
  pub meaning : (line : List ℕ) (a b : Lcov2Data) → Lcov2Spells line a → Lcov2Spells line b → a ≡ b
  pub fault : (line : List ℕ) (f g : LineFault) → HasLcov2Fault line f → HasLcov2Fault line g → f ≡ g
  pub never_both : (line : List ℕ) (says : Lcov2Data) (f : LineFault) → Lcov2Spells line says → HasLcov2Fault line f → ⊥
  pub one_of : (line : List ℕ) → ((says : Lcov2Data) × Lcov2Spells line says) ⊎ ((f : LineFault) × HasLcov2Fault line f)
