-- Each text has an outcome: walked line by line, it is a lawful text or has a first fault.
use Rattle.std.proofs.Common.{◌≡◌, ℕ, ◌+◌, ◌≤◌, Bool, true, false, List, [], ◌∷◌, ◌++◌, length, Option, Some, None, Result, Ok, Err, refl, sym, subst, ◌∙◌, append_assoc, inl, inr}
use Rattle.std.specs.Prelude.{◌⊎◌}
use Rattle.std.specs.List.{list_any}
use Rattle.std.proofs.lemmas.Bool.{cases_lt}
use Rattle.std.proofs.lemmas.List.{append-nil}
use Rattle.covdata.specs.declared.trace_line.TotalKind.{TotalKind}
use Rattle.covdata.specs.declared.trace_line.TotalKind.TheVariants.{FuncFound, FuncHit, BranchFound, BranchHit, LineFound, LineHit}
use Rattle.covdata.specs.Lawful.{IsLawful}
use Rattle.covline.specs.Lines.{lines_of}
use Rattle.covdata.specs.Row.{SubmissionData}
use Rattle.covdata.specs.Records.{LineData, Test, Path, FuncStart, FuncCount, Branch, Total, End, Skip}
use Rattle.covdata.specs.declared.fault.ReadFault.{ReadFault}
use Rattle.covdata.specs.declared.fault.ReadFault.TheVariants as faults
use Rattle.covread.specs.Outcome as version1
use Rattle.covread.specs.TraceSteps.{SectionData, HeldData, empty, kept, step, step_at, ends, ends_at, IsLawfulAt}
use Rattle.covlcov2.specs.Spells.{Lcov2Data, Plain, Leader, Alias, Edge}
use Rattle.covlcov2.specs.Reads.{leader, is_leader, branch_number, total_said, alias_said, said, above_after}
use Rattle.covlcov2.specs.Outcome.{NeedsSection, NeedsOutside, IsOutcome, Answers}
use Rattle.covlcov2.specs.Run.{StepsTo, IsWithin, IsOutside, IsInside, IsMisplaced, Stopped}
use Rattle.covlcov2.proofs.Holds.{Laws, Lcov2Holds, holds_nothing}
use Rattle.covlcov2.proofs.Runs.{holds_end, stop_first}
use Rattle.covlcov2.proofs.Loop.{holds_next}
use Rattle.covlcov2.proofs.OneOutcome.{one_outcome}

-- ---- one line

-- what the reader of version 1 makes of a record: it takes it, or the record is misplaced
data Step (section : Option SectionData) (held : HeldData) (says : LineData) : Type 0 where
  Takes : (next : HeldData) → step_at section held says ≡ Ok next → Step section held says
  Out : section ≡ None → version1.NeedsSection says → Step section held says
  In : IsWithin section → version1.NeedsOutside says → Step section held says

step_is : (section : Option SectionData) (held : HeldData) (says : LineData) → Step section held says
step_is None held (Test name) = Takes _ refl
step_is None held (Path path) = Takes _ refl
step_is None held Skip = Takes _ refl
step_is None held says = Out refl tt
step_is (Some s) held (Test name) = In tt tt
step_is (Some s) held (Path path) = In tt tt
step_is (Some s) held End = Takes _ refl
step_is (Some s) held Skip = Takes _ refl
step_is (Some s) held says = Takes _ refl

-- what becomes of a line that says this
data Verdict (above : List Lcov2Data) (held : HeldData) (says : Lcov2Data) : Type 0 where
  On : (now : List LineData) (after : HeldData) → said above says ≡ Some now → StepsTo now held after → Verdict above held says
  OffOutside : IsOutside above held.section says → Verdict above held says
  OffInside : IsInside above held.section says → Verdict above held says
  OffMisplaced : IsMisplaced above held.section says → Verdict above held says

-- a line that stands for one record
alone : (above : List Lcov2Data) (held : HeldData) (says : Lcov2Data) (only : LineData) → said above says ≡ Some (only ∷ []) → (version1.NeedsSection only → NeedsSection says) → (version1.NeedsOutside only → NeedsOutside says)
    → Step held.section held only → Verdict above held says
alone above held says only e section outside (Takes next f) = On (only ∷ []) next e (next, f, refl)
alone above held says only e section outside (Out closed needs) = OffOutside (record { needs = section needs; only = only; stands_for = e; only_needs = needs; closed = closed })
alone above held says only e section outside (In within needs) = OffInside (record { needs = outside needs; only = only; stands_for = e; only_needs = needs; open_is = within })

total_verdict : (above : List Lcov2Data) (held : HeldData) (is_grouped : Bool) (kind : TotalKind) (value : ℕ) → said above (Plain (Total kind value)) ≡ Some (total_said is_grouped kind value) → Verdict above held (Plain (Total kind value))
total_verdict above held false kind value e = alone above held (Plain (Total kind value)) (Total kind value) e (λ n. n) (λ n. n) (step_is held.section held (Total kind value))
total_verdict above held true FuncFound value e = On [] held e refl
total_verdict above held true FuncHit value e = On [] held e refl
total_verdict above held true BranchFound value e = alone above held (Plain (Total BranchFound value)) (Total BranchFound value) e (λ n. n) (λ n. n) (step_is held.section held (Total BranchFound value))
total_verdict above held true BranchHit value e = alone above held (Plain (Total BranchHit value)) (Total BranchHit value) e (λ n. n) (λ n. n) (step_is held.section held (Total BranchHit value))
total_verdict above held true LineFound value e = alone above held (Plain (Total LineFound value)) (Total LineFound value) e (λ n. n) (λ n. n) (step_is held.section held (Total LineFound value))
total_verdict above held true LineHit value e = alone above held (Plain (Total LineHit value)) (Total LineHit value) e (λ n. n) (λ n. n) (step_is held.section held (Total LineHit value))

two_steps : (section : Option SectionData) (held : HeldData) (line count : ℕ) (name : List ℕ) → section ≡ None ⊎ ((after : HeldData) × (next : HeldData) × (step_at section held (FuncStart line name) ≡ Ok next) × (step next (FuncCount count name) ≡ Ok after))
two_steps None held line count name = inl refl
two_steps (Some s) held line count name = inr (_, kept s held (FuncStart line name), refl, refl)

alias_verdict : (above : List Lcov2Data) (held : HeldData) (index count : ℕ) (name : List ℕ) (start : Option ℕ) → said above (Alias index count name) ≡ alias_said start count name → Verdict above held (Alias index count name)
alias_verdict above held index count name None e = OffMisplaced (record { needs = tt; lacks = inl e })
alias_verdict above held index count name (Some line) e =
    elim (two_steps held.section held line count name) [
      | inl closed ↦ OffMisplaced (record { needs = tt; lacks = inr closed })
      | inr steps ↦ On (FuncStart line name ∷ FuncCount count name ∷ []) steps.0 e (steps.1, steps.2, (steps.0, steps.3, refl))
    ]

verdict : (above : List Lcov2Data) (held : HeldData) (says : Lcov2Data) → Verdict above held says
verdict above held (Plain Skip) = On [] held refl refl
verdict above held (Plain (Total kind value)) = total_verdict above held (list_any is_leader above) kind value refl
verdict above held (Plain says) = alone above held (Plain says) says refl (λ n. n) (λ n. n) (step_is held.section held says)
verdict above held (Leader index line) = On [] held refl refl
verdict above held (Alias index count name) = alias_verdict above held index count name (leader index above) refl
verdict above held (Edge true line block given taken) = On [] held refl refl
verdict above held (Edge false line block given taken) =
    let says = Branch line block (branch_number above line block given) taken in
    alone above held (Edge false line block given taken) says refl (λ n. tt) (λ n. n) (step_is held.section held says)

-- ---- all lines

-- if this is a submission, it is lawful
abbrev IsLawfulIfOk : Result SubmissionData ReadFault → Type 0
IsLawfulIfOk (Ok submission) = IsLawful submission
IsLawfulIfOk (Err fault) = Unit {0}

abbrev HasOutcome : List ℕ → Type 0
HasOutcome text = (r : Result SubmissionData ReadFault) × IsOutcome text r × IsLawfulIfOk r

ends_lawfully : (section : Option SectionData) (held : HeldData) → IsLawfulAt section held → IsLawfulIfOk (ends_at section held)
ends_lawfully None held h = h
ends_lawfully (Some s) held h = tt

outcome_from : (text : List ℕ) (r : Result SubmissionData ReadFault) → Answers text r → ¬ (r ≡ Err faults.Memory) → IsLawfulIfOk r → HasOutcome text
outcome_from text r (inl none) other lawful = absurd (other none.1)
outcome_from text r (inr is) other lawful = (r, is, lawful)

ends_otherwise : (section : Option SectionData) (held : HeldData) → ¬ (ends_at section held ≡ Err faults.Memory)
ends_otherwise None held e = absurd cc
ends_otherwise (Some s) held e = absurd cc

module _ (laws : Laws) (text : List ℕ) (short : length text ≤ version1.max_bytes) where
  off : (before : List (List ℕ)) (line : List ℕ) (after : List (List ℕ)) (above : List Lcov2Data) (held : HeldData) (fault : ReadFault) → ¬ (◌≡◌ {A = Result SubmissionData ReadFault} (Err fault) (Err faults.Memory))
      → lines_of text ≡ before ++ line ∷ after → Lcov2Holds before above held → Stopped fault above held line (length before + 1) → HasOutcome text
  off before line after above held fault other e h stop = outcome_from text (Err fault) (stop_first laws text before line after above held h e fault short stop) other tt

  walk : (rest before : List (List ℕ)) (above : List Lcov2Data) (held : HeldData) → lines_of text ≡ before ++ rest → Lcov2Holds before above held → HasOutcome text
  walk [] before above held e h =
      let all : before ≡ lines_of text = sym (e ∙ append-nil before) in
      let last = holds_end laws text above held short (subst (λ (x : List (List ℕ)). Lcov2Holds x above held) all h) in
      outcome_from text (ends held) last.0 (ends_otherwise held.section held) (ends_lawfully held.section held last.1)
  walk (line ∷ rest) before above held e h =
      elim (laws.lcov2.one_of line) [
        | inr f ↦ off before line rest above held (faults.Line (length before + 1) f.0) (λ e. absurd cc) e h (refl, f.1)
        | inl m ↦ elim (verdict above held m.0) [
          | On now after stands steps ↦ walk rest (before ++ line ∷ []) (above_after above m.0) after (e ∙ sym (append_assoc before (line ∷ []) rest))
              (holds_next laws text short before line rest above (above_after above m.0) held after e h (record { says = m.0; now = now; spells = m.1; stands_for = stands; steps = steps; leads = refl }))
          | OffOutside is ↦ off before line rest above held (faults.Outside (length before + 1)) (λ e. absurd cc) e h (refl, m.0, m.1, is)
          | OffInside is ↦ off before line rest above held (faults.Inside (length before + 1)) (λ e. absurd cc) e h (refl, m.0, m.1, is)
          | OffMisplaced is ↦ off before line rest above held (faults.Misplaced (length before + 1)) (λ e. absurd cc) e h (refl, m.0, m.1, is)
        ]
      ]

outcome_of : Laws → (text : List ℕ) → HasOutcome text
outcome_of laws text =
    elim (cases_lt version1.max_bytes (length text)) [
      | inl long ↦ (Err faults.TooLong, inl (long, refl), tt)
      | inr short ↦ walk laws text short (lines_of text) [] [] empty refl holds_nothing
    ]

pub some_outcome : Laws → (text : List ℕ) → (r : Result SubmissionData ReadFault) × IsOutcome text r
some_outcome laws text = let found = outcome_of laws text in (found.0, found.1)

-- what a text is read as is lawful
pub lawful_outcome : Laws → (text : List ℕ) (submission : SubmissionData) → IsOutcome text (Ok submission) → IsLawful submission
lawful_outcome laws text submission is =
    let found = outcome_of laws text in
    subst (λ (r : Result SubmissionData ReadFault). IsLawfulIfOk r) (one_outcome laws.lcov2 text found.0 (Ok submission) found.1 is) found.2
