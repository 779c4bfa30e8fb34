-- Inputs in memory: what each is read as, and what is collected from them.
use Rattle.std.specs.Prelude.{◌≡◌, ◌⊎◌, ℕ, ◌≤◌, List, length, Result, Err}
use Rattle.covdata.specs.Lawful.{IsGoodTest}
use Rattle.covdata.specs.Row.{SubmissionData}
use Rattle.covdata.specs.declared.fault.ReadFault.{ReadFault}
use Rattle.covdata.specs.declared.fault.ReadFault.TheVariants as faults
use Rattle.covread.specs.Outcome as trace
use Rattle.covread.specs.GcovOutcome as gcov
use Rattle.covlcov2.specs.Outcome as lcov2
use Rattle.covbook.specs.Op.{OpData, EntryData}
use Rattle.covbook.specs.Gather.{LogData}
use Rattle.covworkers.specs.declared.refused.RefusedInput.{RefusedInput}
use Rattle.covworkers.specs.Collect.{IsCollectedWhole}

-- an input: a tracefile, a tracefile of LCOV 2, or gcov's output with the name of the test whose counts it has
pub data InputData : Type 0 where
  TraceInput : (text : List ℕ) → InputData
  Lcov2Input : (text : List ℕ) → InputData
  GcovInput : (test text : List ℕ) → InputData

-- what an input is read as: a submission, or the first fault in it
abbrev pub IsReadAs : InputData → Result SubmissionData ReadFault → Type 0
IsReadAs (TraceInput text) outcome = trace.IsOutcome text outcome
IsReadAs (Lcov2Input text) outcome = lcov2.IsOutcome text outcome
IsReadAs (GcovInput test text) outcome = gcov.IsOutcome test text outcome

-- memory may run out while the input is read. This needs a text that isn't too long and a good test name, since both are checked
-- before any memory is taken
abbrev pub MayRunOut : InputData → Type 0
MayRunOut (TraceInput text) = length text ≤ trace.max_bytes
MayRunOut (Lcov2Input text) = length text ≤ trace.max_bytes
MayRunOut (GcovInput test text) = (length text ≤ trace.max_bytes) × IsGoodTest test

-- the outcome of an input: what it is read as, or the fault `Memory` if memory ran out
abbrev pub IsOutcomeOf : InputData → Result SubmissionData ReadFault → Type 0
IsOutcomeOf input outcome = IsReadAs input outcome ⊎ (MayRunOut input × (outcome ≡ Err faults.Memory))

-- memory ran out only after something was kept of the input
abbrev pub GrowsLate : InputData → Result SubmissionData ReadFault → Type 0
GrowsLate (TraceInput text) answer = trace.GrowsLate text answer
GrowsLate (Lcov2Input text) answer = lcov2.GrowsLate text answer
GrowsLate (GcovInput test text) answer = gcov.GrowsLate text answer

-- what this number of jobs collects from these inputs: each input has an outcome that it may have, and this is collected with these
-- outcomes
abbrev pub IsCollected : (inputs : List InputData) → (jobs : ℕ) → (last : OpData) → List EntryData → List LogData → List (RefusedInput ReadFault) → Type 0
IsCollected inputs jobs last entries logs refused = IsCollectedWhole IsOutcomeOf inputs jobs last entries logs refused
