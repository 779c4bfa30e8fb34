-- First lines of texts that are read without being cut: `BRDA:` lines with one mark `e` or `f`, which end in a line feed.
use Rattle.std.specs.Prelude.{◌≡◌, ℕ, ◌==◌, ◌||◌, if◌then◌else◌, List, [], ◌∷◌, Option, Some, None, codes}
use Rattle.std.specs.Option.{option_and_then}
use Rattle.covline.specs.Lines.{lines_of}
use Rattle.covdata.specs.Points.{BranchPoint}
use Rattle.covline.specs.Reading.{after_key, field_at}
use Rattle.covline.specs.Fronts.{small_front, branch_after_line}
use Rattle.covlcov2.specs.Spells.{Lcov2Data, Lcov2Spells}

-- the text's first line says this, and `rest` is the text after that line
pub record BeginsWithLcov2Line (text : List ℕ) (says : Lcov2Data) (rest : List ℕ) : Type 0 where
  pub line : List ℕ
  pub cut : lines_of text ≡ line ∷ lines_of rest
  pub spells : Lcov2Spells line says

-- what follows a mark `e` or `f`, if the text begins with one
abbrev pub after_mark : List ℕ → Option (List ℕ)
after_mark [] = None
after_mark (b ∷ bs) = if b == 101 || b == 102 then Some bs else None

-- what follows a branch's source line, read as a mark and the rest of the line; `line` is the source line, and the text after it
abbrev pub marked_after_line : ℕ × List ℕ → Option ((BranchPoint × Option ℕ) × List ℕ)
marked_after_line line = option_and_then (λ (rest : List ℕ). branch_after_line (line.0, rest)) (after_mark line.1)

abbrev pub marked_after_key : List ℕ → Option ((BranchPoint × Option ℕ) × List ℕ)
marked_after_key fields = option_and_then marked_after_line (small_front (field_at fields))

-- the marked branch at the front: its point, how often it was taken, and what follows the line feed
abbrev pub marked_front : List ℕ → Option ((BranchPoint × Option ℕ) × List ℕ)
marked_front text = option_and_then marked_after_key (after_key (codes "BRDA:") text)
