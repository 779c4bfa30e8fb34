-- What the reader of a tracefile holds between two lines, and what a line makes of it: for the contracts of its private
-- steps. Reads and Outcome say what a text is read as.
use Rattle.std.specs.Prelude.{◌≡◌, ℕ, ◌+◌, ◌<◌, ◌^◌, List, [], ◌∷◌, ◌++◌, length, Option, Some, None, Result, Ok, Err, count_by, option_map}
use Rattle.covdata.specs.Row.{ItemData, SectData, SubmissionData}
use Rattle.covdata.specs.Records.{LineData, Test, Path, End, Skip}
use Rattle.covline.specs.Spells.{Spells, HasFault}
use Rattle.covdata.specs.Lawful.{IsLawful}
use Rattle.covread.specs.declared.trace.reader.OpenSection.{OpenSection}
use Rattle.covread.specs.declared.trace.reader.Reader.{Reader}
use Rattle.covread.specs.declared.trace.placement_fault.PlacementFault.{PlacementFault}
use Rattle.covread.specs.declared.trace.placement_fault.PlacementFault.TheVariants as placement
use Rattle.covdata.specs.declared.fault.ReadFault.{ReadFault}
use Rattle.covdata.specs.declared.fault.ReadFault.TheVariants as faults
use Rattle.covread.specs.Outcome.{Answers, GrowsLate}
use Rattle.covread.specs.Reads.{items_of, is_odd}
use Rattle.covread.specs.TraceSection.{IsBuiltOf}

-- an open section: its path, and the records of its lines so far, without the skipped lines
pub record SectionData : Type 0 where
  pub file : List ℕ
  pub lines : List LineData

pub record HeldData : Type 0 where
  pub test : List ℕ
  pub section : Option SectionData
  pub sects : List SectData
  pub odd : ℕ

-- a reader's open section as plain data: its path, and the records that it has so far, which are given
abbrev pub section_data : {A : Type 0} → List LineData → OpenSection A → SectionData
section_data inside s = record { file = s.file.now; lines = inside }

-- what a reader holds, as plain data, if its open section has these records so far
abbrev pub held_data : {A : Type 0} → Reader A → List LineData → HeldData
held_data r inside = record { test = r.test.now; section = option_map (section_data inside) r.section; sects = r.sects.sects; odd = r.odd }

-- an open section, with these items, has these records so far; if no section is open, there are none
abbrev pub IsOpenAt : {A : Type 0} → Option (OpenSection A) → List ItemData → List LineData → Type 0
IsOpenAt None items inside = inside ≡ []
IsOpenAt (Some s) items inside = IsBuiltOf s.builder items inside

abbrev pub IsOpen : {A : Type 0} → Reader A → List LineData → Type 0
IsOpen r inside = IsOpenAt r.section r.sects.items inside

-- the reader has room for one more line
pub record HasRoom {A : Type 0} (r : Reader A) (inside : List LineData) : Type 0 where
  pub is_open : IsOpen r inside
  pub few : r.odd + length inside + 1 < 2 ^ 64

-- before the first line
abbrev pub empty : HeldData
empty = record { test = []; section = None; sects = []; odd = 0 }

-- what is held after one more record of the open section
abbrev pub kept : SectionData → HeldData → LineData → HeldData
kept s held says = record { test = held.test; section = Some (record { file = s.file; lines = s.lines ++ says ∷ [] }); sects = held.sects; odd = held.odd }

-- what is held after the open section ended
abbrev pub closed : SectionData → HeldData → HeldData
closed s held = record {
  test = held.test;
  section = None;
  sects = held.sects ++ record { test = held.test; file = s.file; items = items_of s.lines } ∷ [];
  odd = held.odd + count_by (is_odd s.lines) s.lines;
}

-- the step of one line, if no section is open
abbrev pub step_between : HeldData → LineData → Result HeldData PlacementFault
step_between held (Test name) = Ok (record { test = name; section = None; sects = held.sects; odd = held.odd })
step_between held (Path path) = Ok (record { test = held.test; section = Some (record { file = path; lines = [] }); sects = held.sects; odd = held.odd })
step_between held Skip = Ok held
step_between held says = Err placement.Outside

-- the step of one line in this open section
abbrev pub step_within : SectionData → HeldData → LineData → Result HeldData PlacementFault
step_within s held (Test name) = Err placement.Inside
step_within s held (Path path) = Err placement.Inside
step_within s held End = Ok (closed s held)
step_within s held Skip = Ok held
step_within s held says = Ok (kept s held says)

abbrev pub step_at : Option SectionData → HeldData → LineData → Result HeldData PlacementFault
step_at None held says = step_between held says
step_at (Some s) held says = step_within s held says

abbrev pub step : HeldData → LineData → Result HeldData PlacementFault
step held says = step_at held.section held says

-- the line may take memory: it is a path that begins a section, or a section is open
abbrev pub GrowsAt : Option SectionData → LineData → Type 0
GrowsAt None (Path path) = Unit {0}
GrowsAt None says = ⊥
GrowsAt (Some s) says = Unit {0}

-- a step of the code makes what the step on plain data makes, unless memory ran out
abbrev pub Steps : {A T : Type 0} → Result T PlacementFault → HeldData → Reader A → LineData → Type 0
Steps (Ok done) before after says = (inside : List LineData) × (step before says ≡ Ok (held_data after inside)) × IsOpen after inside
Steps (Err placement.Outside) before after says = step before says ≡ Err placement.Outside
Steps (Err placement.Inside) before after says = step before says ≡ Err placement.Inside
Steps (Err placement.Memory) before after says = GrowsAt before.section says

-- the records that are kept of the open section, if there is one
abbrev pub kept_in : Option SectionData → List LineData
kept_in None = []
kept_in (Some s) = s.lines

-- why a reader doesn't take a line; lines are counted from 1
abbrev pub StopsAt : ReadFault → HeldData → List ℕ → ℕ → Type 0
StopsAt (faults.Line n fault) before line at = (n ≡ at) × HasFault line fault
StopsAt (faults.Outside n) before line at = (n ≡ at) × (says : LineData) × Spells line says × (step before says ≡ Err placement.Outside)
StopsAt (faults.Inside n) before line at = (n ≡ at) × (says : LineData) × Spells line says × (step before says ≡ Err placement.Inside)
StopsAt faults.Memory before line at = (says : LineData) × Spells line says × GrowsAt before.section says
StopsAt other before line at = ⊥

-- the fault of a line that isn't taken
abbrev pub fault_at : PlacementFault → ℕ → ReadFault
fault_at placement.Outside at = faults.Outside at
fault_at placement.Inside at = faults.Inside at
fault_at placement.Memory at = faults.Memory

-- what a reader makes of a line, or why it doesn't take it
abbrev pub TakesLine : {A T : Type 0} → Result T ReadFault → HeldData → Reader A → List ℕ → ℕ → Type 0
TakesLine (Ok done) before after line at = (says : LineData) × Spells line says × (inside : List LineData) × (step before says ≡ Ok (held_data after inside)) × IsOpen after inside
TakesLine (Err fault) before after line at = StopsAt fault before line at

-- the submission of what is held after the last line
abbrev pub submission_held : HeldData → SubmissionData
submission_held held = record { sects = held.sects; odd = held.odd }

-- the outcome after the last line: this submission, or the fault that a section is still open
abbrev pub ends_at : Option SectionData → HeldData → Result SubmissionData ReadFault
ends_at None held = Ok (submission_held held)
ends_at (Some s) held = Err faults.OpenEnd

abbrev pub ends : HeldData → Result SubmissionData ReadFault
ends held = ends_at held.section held

abbrev pub IsLawfulAt : Option SectionData → HeldData → Type 0
IsLawfulAt None held = IsLawful (submission_held held)
IsLawfulAt (Some s) held = Unit {0}

abbrev pub EndsLawfully : HeldData → Type 0
EndsLawfully held = IsLawfulAt held.section held

-- what the code returns after all lines of the text. If a section is still open, the outcome doesn't depend on its records, so
-- here it has none
abbrev pub ReadsTo : {A : Type 0} → List ℕ → Result (Reader A) ReadFault → Type 0
ReadsTo text (Ok reader) = Answers text (ends (held_data reader [])) × EndsLawfully (held_data reader [])
ReadsTo text (Err fault) = Answers text (Err fault) × GrowsLate text (Err fault)
