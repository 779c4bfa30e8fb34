-- The files of sections, each with its totals.
use Rattle.std.specs.Prelude.{ℕ, List, map}
use Rattle.covtable.specs.declared.totals.Totals.{Totals}
use Rattle.covtable.specs.Content.{SectionData}
use Rattle.covtable.specs.Totals.{files_in, own_sections, totals_of}

-- a file, and its totals over all tests
pub record FileTotalsData : Type 0 where
  pub path : List ℕ
  pub totals : Totals

-- a file with the totals of its own sections
abbrev pub file_with_totals : List SectionData → List ℕ → FileTotalsData
file_with_totals sections file = record { path = file; totals = totals_of (own_sections file sections) }

-- each file of the sections, ascending by path, with its totals
abbrev pub files_with_totals : List SectionData → List FileTotalsData
files_with_totals sections = map (file_with_totals sections) (files_in sections)
