-- What a text is read as: the submission that its lines say, or its first fault.
use Rattle.std.specs.Prelude.{◌⊎◌, ◌≡◌, ℕ, ◌+◌, ◌<◌, ◌≤◌, List, [], ◌∷◌, ◌++◌, length, Result, Ok, Err}
use Rattle.covdata.specs.Row.{SubmissionData}
use Rattle.covline.specs.Lines.{lines_of}
use Rattle.covdata.specs.Records.{LineData, Test, Path, Skip}
use Rattle.covline.specs.Spells.{Spells, HasFault}
use Rattle.covdata.specs.declared.fault.ReadFault.{ReadFault}
use Rattle.covdata.specs.declared.fault.ReadFault.TheVariants as faults
use Rattle.covread.specs.Reads.{Reads}

-- the most bytes that a text can have: 64 MiB
abbrev pub max_bytes : ℕ
max_bytes = 67108864

abbrev pub IsLawfulText : List (List ℕ) → Type 0
IsLawfulText lines = (submission : SubmissionData) × Reads lines submission

-- the lines begin some lawful text
abbrev pub MayGoOn : List (List ℕ) → Type 0
MayGoOn lines = (more : List (List ℕ)) × IsLawfulText (lines ++ more)

-- the lines before this one begin some lawful text; with this line, they begin none. `at` is the line's number, counted from 1
pub record IsFirstFaulty (lines : List (List ℕ)) (at : ℕ) (line : List ℕ) : Type 0 where
  pub before : List (List ℕ)
  pub after : List (List ℕ)
  pub place : lines ≡ before ++ line ∷ after
  pub number : at ≡ length before + 1
  pub goes_on : MayGoOn before
  pub ends_here : ¬ MayGoOn (before ++ line ∷ [])

-- the record may only be in a section: start lines, counts, totals and ends
abbrev pub NeedsSection : LineData → Type 0
NeedsSection (Test name) = ⊥
NeedsSection (Path path) = ⊥
NeedsSection Skip = ⊥
NeedsSection says = Unit {0}

-- the record may only be outside of sections: test names and paths
abbrev pub NeedsOutside : LineData → Type 0
NeedsOutside (Test name) = Unit {0}
NeedsOutside (Path path) = Unit {0}
NeedsOutside says = ⊥

-- the lines have this first fault. If a line is faulty by itself, its place doesn't matter
abbrev pub IsFirstFault : List (List ℕ) → ReadFault → Type 0
IsFirstFault lines (faults.Line at fault) = (line : List ℕ) × IsFirstFaulty lines at line × HasFault line fault
IsFirstFault lines (faults.Outside at) = (line : List ℕ) × (says : LineData) × IsFirstFaulty lines at line × Spells line says × NeedsSection says
IsFirstFault lines (faults.Inside at) = (line : List ℕ) × (says : LineData) × IsFirstFaulty lines at line × Spells line says × NeedsOutside says
IsFirstFault lines faults.OpenEnd = MayGoOn lines × ¬ IsLawfulText lines
IsFirstFault lines other = ⊥

-- what the text is read as; its length is tested first
abbrev pub IsOutcome : List ℕ → Result SubmissionData ReadFault → Type 0
IsOutcome text (Ok submission) = (length text ≤ max_bytes) × Reads (lines_of text) submission
IsOutcome text (Err fault) =
    ((max_bytes < length text) × (fault ≡ faults.TooLong)) ⊎ ((length text ≤ max_bytes) × IsFirstFault (lines_of text) fault)

-- the answer of a reader is what the text is read as, or memory ran out. Memory can run out only after the length was tested
abbrev pub Answers : List ℕ → Result SubmissionData ReadFault → Type 0
Answers text answer = ((length text ≤ max_bytes) × (answer ≡ Err faults.Memory)) ⊎ IsOutcome text answer

-- the answer is the outcome, or memory ran out
abbrev pub IsOrMemory : Result SubmissionData ReadFault → Result SubmissionData ReadFault → Type 0
IsOrMemory answer outcome = (answer ≡ Err faults.Memory) ⊎ (outcome ≡ answer)

-- a section began: some first lines, which begin a lawful text, end in a path
abbrev pub HasBegun : List (List ℕ) → Type 0
HasBegun lines =
    (before : List (List ℕ)) × (line : List ℕ) × (after : List (List ℕ)) × (path : List ℕ)
    × (lines ≡ before ++ line ∷ after) × Spells line (Path path) × MayGoOn (before ++ line ∷ [])

-- memory ran out only after a section began: before the first path nothing is kept
abbrev pub GrowsLate : List ℕ → Result SubmissionData ReadFault → Type 0
GrowsLate text answer = answer ≡ Err faults.Memory → HasBegun (lines_of text)
