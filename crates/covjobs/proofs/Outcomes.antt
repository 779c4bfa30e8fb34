-- What covread's readers return for a text is the outcome of the input.
use Rattle.std.proofs.Common.{◌≡◌, inl, inr, ℕ, List, Result, Ok, Err, refl, sym, subst}
use Rattle.covdata.specs.Row.{SubmissionData}
use Rattle.covdata.specs.declared.fault.ReadFault.{ReadFault}
use Rattle.covdata.specs.declared.fault.ReadFault.TheVariants as faults
use Rattle.covread.specs.Outcome as trace
use Rattle.covread.specs.GcovOutcome as gcov
use Rattle.covlcov2.specs.Outcome as lcov2
use Rattle.covjobs.specs.Inputs.{GrowsLate, InputData, TraceInput, Lcov2Input, GcovInput, IsOutcomeOf}

pub trace_outcome : (text : List ℕ) (answer : Result SubmissionData ReadFault) → trace.Answers text answer → IsOutcomeOf (TraceInput text) answer
trace_outcome text answer (inl (few, refused)) = inr (few, refused)
trace_outcome text answer (inr is) = inl is

pub lcov2_outcome : (text : List ℕ) (answer : Result SubmissionData ReadFault) → lcov2.Answers text answer → IsOutcomeOf (Lcov2Input text) answer
lcov2_outcome text answer (inl (few, refused)) = inr (few, refused)
lcov2_outcome text answer (inr is) = inl is

pub gcov_outcome : (test text : List ℕ) (answer : Result SubmissionData ReadFault) → gcov.Answers test text answer → IsOutcomeOf (GcovInput test text) answer
gcov_outcome test text answer (inl (few, good, refused)) = inr ((few, good), refused)
gcov_outcome test text answer (inr is) = inl is

-- memory runs out as late for the input as for its text
pub trace_late : (kept text : List ℕ) (input : InputData) (answer : Result SubmissionData ReadFault) → kept ≡ text → input ≡ TraceInput text → trace.GrowsLate kept answer → GrowsLate input answer
trace_late kept text input answer same is late = subst (λ (i : InputData). GrowsLate i answer) (sym is) (subst (λ (t : List ℕ). trace.GrowsLate t answer) same late)

pub lcov2_late : (kept text : List ℕ) (input : InputData) (answer : Result SubmissionData ReadFault) → kept ≡ text → input ≡ Lcov2Input text → lcov2.GrowsLate kept answer → GrowsLate input answer
lcov2_late kept text input answer same is late = subst (λ (i : InputData). GrowsLate i answer) (sym is) (subst (λ (t : List ℕ). lcov2.GrowsLate t answer) same late)

pub gcov_late : (test kept text : List ℕ) (input : InputData) (answer : Result SubmissionData ReadFault) → kept ≡ text → input ≡ GcovInput test text → gcov.GrowsLate kept answer → GrowsLate input answer
gcov_late test kept text input answer same is late = subst (λ (i : InputData). GrowsLate i answer) (sym is) (subst (λ (t : List ℕ). gcov.GrowsLate t answer) same late)

-- the result that is a submission; by `no_fault` it isn't `Memory`
abbrev answered : SubmissionData → Result SubmissionData ReadFault
answered submission = Ok submission

no_fault : (submission : SubmissionData) → answered submission ≡ Err faults.Memory → ⊥
no_fault submission is = cc

-- if an input is read, memory may still run out for it later
pub late_outcome : (input : InputData) (submission : SubmissionData) → IsOutcomeOf input (Ok submission) → IsOutcomeOf input (Err faults.Memory)
late_outcome (TraceInput text) submission (inl (few, reads)) = inr (few, refl)
late_outcome (Lcov2Input text) submission (inl (few, reads)) = inr (few, refl)
late_outcome (GcovInput test text) submission (inl (few, good, reads)) = inr ((few, good), refl)
late_outcome input submission (inr (may, none)) = absurd (no_fault submission none)
