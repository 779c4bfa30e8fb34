-- The sections that an iterator over a store has left.
use Rattle.std.specs.Prelude.{ℕ, ◌<◌, ◌^◌, Option, Some, None, List, [], ◌++◌, length}
use Rattle.std.specs.List.{flat_map}
use Rattle.covstore.specs.declared.test.Test.{Test}
use Rattle.covtable.specs.Content.{SectionData}
use Rattle.covstore.specs.declared.file.File.{File}
use Rattle.covstore.specs.StoreView.{files_committed}
use Rattle.covstore.specs.State.{section_seen, sections_of}
use Rattle.covstore.specs.TestView.{test_committed}

-- there are fewer than 2^64 points of each kind
pub record IsFewOf (section : SectionData) : Type 0 where
  pub functions : length section.functions < 2 ^ 64
  pub branches : length section.branches < 2 ^ 64
  pub lines : length section.lines < 2 ^ 64

-- the sections of a file's tests
abbrev pub tests_seen : {K A : Type 0} → (K → List ℕ) → List ℕ → List (ℕ × List ℕ) → List (K × Test A) → List SectionData
tests_seen name file texts pairs = flat_map (λ pair. section_seen file texts (name pair.0) (test_committed pair.1)) pairs

-- the sections that are left of the current file, or no sections if there is no current file
abbrev pub or_none : Option (List SectionData) → List SectionData
or_none None = []
or_none (Some sections) = sections

-- the sections that are left: those of the current file, and then those of the later files
abbrev pub sections_left : {K A : Type 0} → (K → List ℕ) → Option (List SectionData) → List (K × File A) → List SectionData
sections_left name current files = or_none current ++ sections_of (files_committed name files)
