-- What the steps of a reader are to be: on what the reader of version 1 holds, and the lines above.
use Rattle.std.specs.Prelude.{◌≡◌, ◌⊎◌, ℕ, List, [], ◌∷◌, Option, Some, None, Ok}
use Rattle.covdata.specs.Records.{LineData}
use Rattle.covdata.specs.declared.fault.ReadFault.{ReadFault}
use Rattle.covdata.specs.declared.fault.ReadFault.TheVariants as faults
use Rattle.covread.specs.Outcome as version1
use Rattle.covread.specs.TraceSteps.{SectionData, HeldData, GrowsAt, step}
use Rattle.covlcov2.specs.Spells.{Lcov2Data, Plain, Leader, Alias, Edge, Lcov2Spells, HasLcov2Fault}
use Rattle.covlcov2.specs.Reads.{said, above_after}
use Rattle.covlcov2.specs.Outcome.{NeedsSection, NeedsOutside, NeedsLeader}

-- the reader of version 1 takes these records, one after another
abbrev pub StepsTo : List LineData → HeldData → HeldData → Type 0
StepsTo [] held after = after ≡ held
StepsTo (says ∷ more) held after = (next : HeldData) × (step held says ≡ Ok next) × StepsTo more next after

-- a line is taken: the reader takes the records that it stands for
pub record Taken (line : List ℕ) (above next : List Lcov2Data) (held after : HeldData) : Type 0 where
  pub says : Lcov2Data
  pub now : List LineData
  pub spells : Lcov2Spells line says
  pub stands_for : said above says ≡ Some now
  pub steps : StepsTo now held after
  pub leads : next ≡ above_after above says

-- a section is open
abbrev pub IsWithin : Option SectionData → Type 0
IsWithin None = ⊥
IsWithin (Some s) = Unit {0}

-- no section is open, and the line stands for one record, which has to be in one
pub record IsOutside (above : List Lcov2Data) (section : Option SectionData) (says : Lcov2Data) : Type 0 where
  pub needs : NeedsSection says
  pub only : LineData
  pub stands_for : said above says ≡ Some (only ∷ [])
  pub only_needs : version1.NeedsSection only
  pub closed : section ≡ None

-- a section is open, and the line stands for one record, which can't be in one
pub record IsInside (above : List Lcov2Data) (section : Option SectionData) (says : Lcov2Data) : Type 0 where
  pub needs : NeedsOutside says
  pub only : LineData
  pub stands_for : said above says ≡ Some (only ∷ [])
  pub only_needs : version1.NeedsOutside only
  pub open_is : IsWithin section

-- the line is an `FNA:` line without an `FNL:` line above it, or outside of sections
pub record IsMisplaced (above : List Lcov2Data) (section : Option SectionData) (says : Lcov2Data) : Type 0 where
  pub needs : NeedsLeader says
  pub lacks : (said above says ≡ None) ⊎ (section ≡ None)

-- the line may take memory: it is a path that begins a section, or a section is open
abbrev pub Grows : Option SectionData → Lcov2Data → Type 0
Grows (Some s) says = Unit {0}
Grows None (Plain says) = GrowsAt None says
Grows None (Leader index line) = ⊥
Grows None (Alias index count name) = ⊥
Grows None (Edge is_excluded line block number taken) = ⊥

-- the reason why a line isn't taken
abbrev pub Stopped : ReadFault → List Lcov2Data → HeldData → List ℕ → ℕ → Type 0
Stopped (faults.Line n fault) above held line at = (n ≡ at) × HasLcov2Fault line fault
Stopped (faults.Outside n) above held line at = (n ≡ at) × (says : Lcov2Data) × Lcov2Spells line says × IsOutside above held.section says
Stopped (faults.Inside n) above held line at = (n ≡ at) × (says : Lcov2Data) × Lcov2Spells line says × IsInside above held.section says
Stopped (faults.Misplaced n) above held line at = (n ≡ at) × (says : Lcov2Data) × Lcov2Spells line says × IsMisplaced above held.section says
Stopped faults.Memory above held line at = (says : Lcov2Data) × Lcov2Spells line says × Grows held.section says
Stopped other above held line at = ⊥
