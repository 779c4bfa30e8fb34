-- What a text is read as: the submission that its lines say, or its first fault. As for version 1, with one fault more.
use Rattle.std.specs.Prelude.{◌⊎◌, ◌≡◌, ℕ, ◌+◌, ◌<◌, ◌≤◌, List, [], ◌∷◌, ◌++◌, length, Result, Ok, Err}
use Rattle.covdata.specs.Row.{SubmissionData}
use Rattle.covline.specs.Lines.{lines_of}
use Rattle.covdata.specs.Records.{Path}
use Rattle.covdata.specs.declared.fault.ReadFault.{ReadFault}
use Rattle.covdata.specs.declared.fault.ReadFault.TheVariants as faults
use Rattle.covread.specs.Outcome as version1
use Rattle.covlcov2.specs.Spells.{Lcov2Data, Plain, Leader, Alias, Edge, Lcov2Spells, HasLcov2Fault}
use Rattle.covlcov2.specs.Reads.{Reads}

abbrev pub IsLawfulText : List (List ℕ) → Type 0
IsLawfulText lines = (submission : SubmissionData) × Reads lines submission

-- the lines begin some lawful text
abbrev pub MayGoOn : List (List ℕ) → Type 0
MayGoOn lines = (more : List (List ℕ)) × IsLawfulText (lines ++ more)

-- the lines before this one begin some lawful text; with this line, they begin none. `at` is the line's number, counted from 1
pub record IsFirstFaulty (lines : List (List ℕ)) (at : ℕ) (line : List ℕ) : Type 0 where
  pub before : List (List ℕ)
  pub after : List (List ℕ)
  pub place : lines ≡ before ++ line ∷ after
  pub number : at ≡ length before + 1
  pub goes_on : MayGoOn before
  pub ends_here : ¬ MayGoOn (before ++ line ∷ [])

-- the line may only be in a section: a start line, a count, a branch, a total or an end. An `FNA:` line has a fault of its own
abbrev pub NeedsSection : Lcov2Data → Type 0
NeedsSection (Plain says) = version1.NeedsSection says
NeedsSection (Leader index line) = ⊥
NeedsSection (Alias index count name) = ⊥
NeedsSection (Edge is_excluded line block number taken) = Unit {0}

-- the line may only be outside of sections: a test name or a path
abbrev pub NeedsOutside : Lcov2Data → Type 0
NeedsOutside (Plain says) = version1.NeedsOutside says
NeedsOutside (Leader index line) = ⊥
NeedsOutside (Alias index count name) = ⊥
NeedsOutside (Edge is_excluded line block number taken) = ⊥

-- an `FNA:` line: it has to be in a section, and below an `FNL:` line of its index there
abbrev pub NeedsLeader : Lcov2Data → Type 0
NeedsLeader (Plain says) = ⊥
NeedsLeader (Leader index line) = ⊥
NeedsLeader (Alias index count name) = Unit {0}
NeedsLeader (Edge is_excluded line block number taken) = ⊥

-- the lines have this first fault. If a line is faulty by itself, its place doesn't matter
abbrev pub IsFirstFault : List (List ℕ) → ReadFault → Type 0
IsFirstFault lines (faults.Line at fault) = (line : List ℕ) × IsFirstFaulty lines at line × HasLcov2Fault line fault
IsFirstFault lines (faults.Outside at) = (line : List ℕ) × (says : Lcov2Data) × IsFirstFaulty lines at line × Lcov2Spells line says × NeedsSection says
IsFirstFault lines (faults.Inside at) = (line : List ℕ) × (says : Lcov2Data) × IsFirstFaulty lines at line × Lcov2Spells line says × NeedsOutside says
IsFirstFault lines (faults.Misplaced at) = (line : List ℕ) × (says : Lcov2Data) × IsFirstFaulty lines at line × Lcov2Spells line says × NeedsLeader says
IsFirstFault lines faults.OpenEnd = MayGoOn lines × ¬ IsLawfulText lines
IsFirstFault lines other = ⊥

-- what the text is read as; its length is tested first
abbrev pub IsOutcome : List ℕ → Result SubmissionData ReadFault → Type 0
IsOutcome text (Ok submission) = (length text ≤ version1.max_bytes) × Reads (lines_of text) submission
IsOutcome text (Err fault) =
    ((version1.max_bytes < length text) × (fault ≡ faults.TooLong)) ⊎ ((length text ≤ version1.max_bytes) × IsFirstFault (lines_of text) fault)

-- the answer of a reader is what the text is read as, or memory ran out. Memory can run out only after the length was tested
abbrev pub Answers : List ℕ → Result SubmissionData ReadFault → Type 0
Answers text answer = ((length text ≤ version1.max_bytes) × (answer ≡ Err faults.Memory)) ⊎ IsOutcome text answer

-- a section began: some first lines, which begin a lawful text, end in a path
abbrev pub HasBegun : List (List ℕ) → Type 0
HasBegun lines =
    (before : List (List ℕ)) × (line : List ℕ) × (after : List (List ℕ)) × (path : List ℕ)
    × (lines ≡ before ++ line ∷ after) × Lcov2Spells line (Plain (Path path)) × MayGoOn (before ++ line ∷ [])

-- memory ran out only after a section began: before the first path nothing is kept
abbrev pub GrowsLate : List ℕ → Result SubmissionData ReadFault → Type 0
GrowsLate text answer = answer ≡ Err faults.Memory → HasBegun (lines_of text)
