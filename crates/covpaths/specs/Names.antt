-- New names for the sections of submissions: paths of source files by rules, and one test for all counts.
use Rattle.std.specs.Prelude.{ℕ, Bool, true, false, Option, None, Some, List, [], ◌∷◌, map, length, replicate, slice_set, unwrap_or}
use Rattle.std.specs.List.{AllByRecursion}
use Rattle.covdata.specs.Lawful.{IsGoodTest}
use Rattle.covdata.specs.Row.{Row, SectData, SubmissionData}
use Rattle.covpaths.specs.Paths.{IsGoodRule, MappedData, RuleData, first_mapped, mapped_path}

-- `test`: the test that all counts get; `None` if each keeps its own
pub record NamesData : Type 0 where
  pub rules : List RuleData
  pub test : Option (List ℕ)

abbrev pub IsGoodTestIfAny : Option (List ℕ) → Type 0
IsGoodTestIfAny None = Unit {0}
IsGoodTestIfAny (Some test) = IsGoodTest test

-- the names under which these counts stay lawful
pub record AreGoodNames (names : NamesData) : Type 0 where
  pub rules : AllByRecursion IsGoodRule names.rules
  pub test : IsGoodTestIfAny names.test

-- ---- what gets new names

abbrev pub named_row : NamesData → Row → Row
named_row names row = record { test = unwrap_or names.test row.test; file = mapped_path names.rules row.file; item = row.item }

abbrev pub named_sect : NamesData → SectData → SectData
named_sect names s = record { test = unwrap_or names.test s.test; file = mapped_path names.rules s.file; items = s.items }

-- a submission with its new names. Its items, and the number of its odd lines, stay
abbrev pub named : NamesData → SubmissionData → SubmissionData
named names s = record { sects = map (named_sect names) s.sects; odd = s.odd }

-- ---- which rules were applied

-- no rule was applied
abbrev pub none_used : List RuleData → List Bool
none_used rules = replicate (length rules) false

abbrev pub marked : (used : List Bool) → Option MappedData → List Bool
marked used None = used
marked used (Some mapped) = slice_set used mapped.rule true

-- by the rules' places: whether a rule was applied before (`used`), or to the path of one of these sections
abbrev pub used_after : List RuleData → (used : List Bool) → List SectData → List Bool
used_after rules used [] = used
used_after rules used (s ∷ sects) = used_after rules (marked used (first_mapped rules s.file)) sects
