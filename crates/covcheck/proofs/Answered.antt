-- The result of a check fits what its reader returned.
use Rattle.std.proofs.Common.{◌≡◌, ◌⊎◌, inl, inr, ℕ, List, Result, Ok, Err, refl, sym, ap, subst, ◌∙◌}
use Rattle.covdata.specs.Row.{SubmissionData}
use Rattle.covread.specs.Outcome.{IsOrMemory}
use Rattle.covdata.specs.declared.fault.ReadFault.{ReadFault}
use Rattle.covdata.specs.declared.fault.ReadFault.TheVariants.{Memory}
use Rattle.covcheck.specs.TextSummary.{Holds, Tells}
use Rattle.covcheck.specs.declared.text_summary.TextSummary.{TextSummary}

-- two faults of one reading are equal, so a result with the first fault has the second fault
same_fault : {X Y : Type 0} (x y : ReadFault) (read : Result X ReadFault) (told : Result Y ReadFault) → read ≡ Err x → read ≡ Err y → told ≡ Err x → told ≡ Err y
same_fault x y read told was is tells = let same : x ≡ y = cc in tells ∙ ap (λ (f : ReadFault). Err f) same

-- what the reader returned: a fault, or a submission
abbrev refused : ReadFault → Result SubmissionData ReadFault
refused fault = Err fault

abbrev read : SubmissionData → Result SubmissionData ReadFault
read submission = Ok submission

-- what the check returned: a fault, or a summary
abbrev told : ReadFault → Result TextSummary ReadFault
told fault = Err fault

abbrev tells : TextSummary → Result TextSummary ReadFault
tells summary = Ok summary

-- the reader's fault fits what the text is read as, unless memory ran out
pub fault_told : (is_skipped : List ℕ → Type 0) (text : List ℕ) (fault : ReadFault) (outcome : Result SubmissionData ReadFault)
    → IsOrMemory (refused fault) outcome → (told fault ≡ Err Memory) ⊎ Tells is_skipped text outcome (told fault)
fault_told is_skipped text fault outcome (inl e) = inl (same_fault fault Memory (refused fault) (told fault) refl e refl)
fault_told is_skipped text fault outcome (inr e) = inr (subst (λ (o : Result SubmissionData ReadFault). Tells is_skipped text o (told fault)) (sym e) refl)

no_memory : (submission : SubmissionData) → read submission ≡ Err Memory → ⊥
no_memory submission e = cc

-- the summary fits what the text is read as
pub summary_told : (is_skipped : List ℕ → Type 0) (text : List ℕ) (submission : SubmissionData) (summary : TextSummary) (outcome : Result SubmissionData ReadFault)
    → IsOrMemory (read submission) outcome → Holds is_skipped text submission summary → (tells summary ≡ Err Memory) ⊎ Tells is_skipped text outcome (tells summary)
summary_told is_skipped text submission summary outcome (inl e) holds = absurd (no_memory submission e)
summary_told is_skipped text submission summary outcome (inr e) holds = inr (subst (λ (o : Result SubmissionData ReadFault). Tells is_skipped text o (tells summary)) (sym e) holds)
