-- What the reader of a tracefile of LCOV 2 holds between two lines, and what a line makes of it: for the contracts of its private
-- steps. Reads and Outcome say what a text is read as.
use Rattle.std.specs.Prelude.{◌≡◌, ℕ, ◌+◌, ◌<◌, ◌^◌, Bool, true, false, List, [], ◌∷◌, length, Option, Some, None, Result, Ok, Err}
use Rattle.std.specs.BTreeMap.{BTreeMap, get}
use Rattle.std.specs.List.{list_any}
use Rattle.std.specs.Ordering.{nat_cmp}
use Rattle.covdata.specs.declared.trace_line.TotalKind.{TotalKind}
use Rattle.covdata.specs.declared.trace_line.TotalKind.TheVariants.{FuncFound, FuncHit, BranchFound, BranchHit, LineFound, LineHit}
use Rattle.covdata.specs.Records.{LineData, Path}
use Rattle.covdata.specs.declared.fault.ReadFault.{ReadFault}
use Rattle.covdata.specs.declared.fault.ReadFault.TheVariants as faults
use Rattle.covread.specs.declared.trace.placement_fault.PlacementFault.{PlacementFault}
use Rattle.covread.specs.declared.trace.placement_fault.PlacementFault.TheVariants as version1
use Rattle.covread.specs.declared.trace.reader.OpenSection.{OpenSection}
use Rattle.covread.specs.declared.trace.reader.Reader.{Reader}
use Rattle.covread.specs.Outcome as version1_outcome
use Rattle.covread.specs.TraceSteps.{HeldData, held_data, GrowsAt, IsOpen, step, ends, EndsLawfully}
use Rattle.covlcov2.specs.declared.take_fault.TakeFault.{TakeFault}
use Rattle.covlcov2.specs.declared.take_fault.TakeFault.TheVariants as why
use Rattle.covlcov2.specs.declared.indexes.Indexes.{Indexes}
use Rattle.covlcov2.specs.declared.reader.Lcov2Reader.{Lcov2Reader}
use Rattle.covlcov2.specs.Spells.{Lcov2Data}
use Rattle.covlcov2.specs.Reads.{leader, is_leader, has_expression, next_number, said, above_after}
use Rattle.covlcov2.specs.Outcome.{Answers, GrowsLate, NeedsSection, NeedsOutside}
use Rattle.covlcov2.specs.Numbers.{HasNumbers}
use Rattle.covlcov2.specs.Run.{StepsTo, Taken, IsWithin, IsOutside, IsInside, IsMisplaced, Grows, Stopped}

-- the map has the start lines that these lines give the indexes
abbrev pub HasLeaders : BTreeMap ℕ ℕ → List Lcov2Data → Type 0
HasLeaders leaders above = (index : ℕ) → get nat_cmp leaders index ≡ leader index above

-- what the reader keeps of these lines
pub record AreIndexes {A : Type 0} (indexes : Indexes A) (above : List Lcov2Data) : Type 0 where
  pub leaders : HasLeaders indexes.leaders above
  pub numbers : HasNumbers indexes.numbers above

-- the same if a section is open. Outside of sections the reader keeps nothing, so that memory can run out only below a path
abbrev pub AreOpenIndexes : {A : Type 0} → Option (OpenSection A) → Indexes A → List Lcov2Data → Type 0
AreOpenIndexes None indexes above = Unit {0}
AreOpenIndexes (Some s) indexes above = AreIndexes indexes above

-- the reader has these records in its open section, and these lines are above the next line
pub record IsHeld {A : Type 0} (r : Lcov2Reader A) (above : List Lcov2Data) (inside : List LineData) : Type 0 where
  pub is_open : IsOpen r.plain inside
  pub grouped : r.is_grouped ≡ list_any is_leader above
  pub indexes : AreOpenIndexes r.plain.section r.indexes above

-- the reader has room for one more line, which may stand for two records
pub record HasLineRoom {A : Type 0} (r : Lcov2Reader A) (above : List Lcov2Data) (inside : List LineData) : Type 0 where
  pub held : IsHeld r above inside
  pub few : r.plain.odd + length inside + 2 < 2 ^ 64

-- the record doesn't begin a section
abbrev pub IsNoPath : LineData → Type 0
IsNoPath (Path path) = ⊥
IsNoPath says = Unit {0}

-- what one line makes of what is held, or why it isn't taken
abbrev pub Lcov2Steps : {A T : Type 0} → Result T TakeFault → List Lcov2Data → HeldData → Lcov2Reader A → Lcov2Data → Type 0
Lcov2Steps (Ok done) above before after says =
    (now : List LineData) × (inside : List LineData) × (said above says ≡ Some now) × StepsTo now before (held_data after.plain inside) × IsHeld after (above_after above says) inside
Lcov2Steps (Err why.Outside) above before after says = IsOutside above before.section says
Lcov2Steps (Err why.Inside) above before after says = IsInside above before.section says
Lcov2Steps (Err why.Misplaced) above before after says = IsMisplaced above before.section says
Lcov2Steps (Err why.Memory) above before after says = Grows before.section says

-- the total counts functions
abbrev pub counts_functions : TotalKind → Bool
counts_functions FuncFound = true
counts_functions FuncHit = true
counts_functions BranchFound = false
counts_functions BranchHit = false
counts_functions LineFound = false
counts_functions LineHit = false

-- what the reader of version 1 makes of one record, or why it doesn't take it
abbrev pub Given : {A T : Type 0} → Result T TakeFault → HeldData → Reader A → LineData → Type 0
Given (Ok done) before after says = (inside : List LineData) × (step before says ≡ Ok (held_data after inside)) × IsOpen after inside
Given (Err why.Outside) before after says = (before.section ≡ None) × version1_outcome.NeedsSection says
Given (Err why.Inside) before after says = IsWithin before.section × version1_outcome.NeedsOutside says
Given (Err why.Misplaced) before after says = ⊥
Given (Err why.Memory) before after says = GrowsAt before.section says

-- later lines need nothing of this line
pub record IsQuiet (above : List Lcov2Data) (line : Lcov2Data) : Type 0 where
  pub no_leader : is_leader line ≡ false
  pub expressions : (number block : ℕ) → has_expression number block (line ∷ above) ≡ has_expression number block above
  pub next : (number block : ℕ) → next_number number block (line ∷ above) ≡ next_number number block above
  pub leads : (index : ℕ) → leader index (line ∷ above) ≡ leader index above

-- the line stands for this record alone, which isn't a path
pub record StandsFor (above : List Lcov2Data) (line : Lcov2Data) (says : LineData) : Type 0 where
  pub alone : said above line ≡ Some (says ∷ [])
  pub after : above_after above line ≡ line ∷ above
  pub no_path : IsNoPath says
  pub needs_section : version1_outcome.NeedsSection says → NeedsSection line
  pub needs_outside : version1_outcome.NeedsOutside says → NeedsOutside line

-- the same reason as the reader of version 1 has
abbrev pub placed : PlacementFault → TakeFault
placed version1.Outside = why.Outside
placed version1.Inside = why.Inside
placed version1.Memory = why.Memory

-- the fault of a line that isn't taken
abbrev pub lcov2_fault_at : TakeFault → ℕ → ReadFault
lcov2_fault_at why.Outside at = faults.Outside at
lcov2_fault_at why.Inside at = faults.Inside at
lcov2_fault_at why.Misplaced at = faults.Misplaced at
lcov2_fault_at why.Memory at = faults.Memory

-- what a reader makes of a line, or why it doesn't take it
abbrev pub TakesLcov2Line : {A T : Type 0} → Result T ReadFault → List Lcov2Data → HeldData → Lcov2Reader A → List ℕ → ℕ → Type 0
TakesLcov2Line (Ok done) above before after line at = (next : List Lcov2Data) × (inside : List LineData) × Taken line above next before (held_data after.plain inside) × IsHeld after next inside
TakesLcov2Line (Err fault) above before after line at = Stopped fault above before line at

-- what the code returns after all lines of the text. If a section is still open, the outcome doesn't depend on its records, so
-- here it has none
abbrev pub ReadsTo : {A : Type 0} → List ℕ → Result (Lcov2Reader A) ReadFault → Type 0
ReadsTo text (Ok reader) = Answers text (ends (held_data reader.plain [])) × EndsLawfully (held_data reader.plain [])
ReadsTo text (Err fault) = Answers text (Err fault) × GrowsLate text (Err fault)
