-- Private steps: sections get their new names one by one.
use Rattle.std.specs.Prelude.{ℕ, zero, suc, List, [], ◌∷◌, Option, None, Some}
use Rattle.covdata.specs.Row.{SectData}
use Rattle.covpacked.specs.NewNames.{file_set}
use Rattle.covpaths.specs.Paths.{MappedData, RuleData, mapped_path}
use Rattle.covpaths.specs.declared.names.Mapped.{Mapped}

-- the `Mapped` of the Rattle code, as plain data
abbrev pub mapped_data : Mapped → MappedData
mapped_data m = record { rule = m.rule; path = m.path }

-- the source file of the section at this index; nothing if there is none
abbrev pub file_in : (index : ℕ) → List SectData → List ℕ
file_in index [] = []
file_in zero (s ∷ sects) = s.file
file_in (suc index) (s ∷ sects) = file_in index sects

-- these sections, of which the one at this index got the path of a rule that applies
abbrev pub mapped_set : (index : ℕ) → Option MappedData → List SectData → List SectData
mapped_set index None sects = sects
mapped_set index (Some mapped) sects = file_set index mapped.path sects

-- a section with the path that the rules give its source file, and with this test
abbrev pub mapped_sect : List RuleData → SectData → SectData
mapped_sect rules s = record { test = s.test; file = mapped_path rules s.file; items = s.items }

abbrev pub tested_sect : (test : List ℕ) → SectData → SectData
tested_sect test s = record { test = test; file = s.file; items = s.items }
