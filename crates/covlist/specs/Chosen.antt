-- The files that a list shows, and their totals.
use Rattle.std.specs.List.{list_any}
use Rattle.std.specs.Prelude.{ℕ, Bool, List, filter}
use Rattle.covtable.specs.declared.totals.Totals.{Totals}
use Rattle.covtable.specs.Content.{SectionData}
use Rattle.covtable.specs.Files.{FileTotalsData, files_with_totals}
use Rattle.covtable.specs.Totals.{totals_of}
use Rattle.covreport.specs.Choice.{ChoiceData, is_chosen}
use Rattle.covreport.specs.Pattern.{matches}

-- the chosen ones of these files
abbrev pub chosen_among : ChoiceData → List FileTotalsData → List FileTotalsData
chosen_among choice files = filter (λ f. is_chosen choice f.path) files

-- the chosen files of the sections, ascending by path, each with its totals
abbrev pub chosen_files : ChoiceData → List SectionData → List FileTotalsData
chosen_files choice sections = chosen_among choice (files_with_totals sections)

-- the totals of the chosen files
abbrev pub totals_of_chosen : ChoiceData → List SectionData → Totals
totals_of_chosen choice sections = totals_of (filter (λ s. is_chosen choice s.key.file) sections)

-- the pattern matches the path of one of these files
abbrev pub is_matched : List FileTotalsData → (pattern : List ℕ) → Bool
is_matched files pattern = list_any (λ f. matches pattern f.path) files

-- at least one of these files is chosen
abbrev pub chooses_any : ChoiceData → List FileTotalsData → Bool
chooses_any choice files = list_any (λ f. is_chosen choice f.path) files
