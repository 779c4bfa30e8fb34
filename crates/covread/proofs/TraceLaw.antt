-- What is known of single lines, and the one outcome that each text has.
use Rattle.std.proofs.Common.{◌≡◌, ℕ, ◌+◌, ◌≤◌, List, [], ◌∷◌, ◌++◌, length, Result, Ok, Err, refl, sym, subst, ◌∙◌, append_assoc, inl, inr}
use Rattle.std.proofs.lemmas.Bool.{cases_lt}
use Rattle.std.proofs.lemmas.List.{append-nil}
use Rattle.covdata.specs.Row.{SubmissionData}
use Rattle.covline.specs.Lines.{lines_of}
use Rattle.covdata.specs.Records.{LineData, Test, Path, End, Skip}
use Rattle.covline.specs.Spells.{Spells}
use Rattle.covdata.specs.declared.fault.ReadFault.{ReadFault}
use Rattle.covdata.specs.declared.fault.ReadFault.TheVariants as faults
use Rattle.covread.specs.Reads.{Part}
use Rattle.covread.specs.Outcome.{max_bytes, IsFirstFault, IsOutcome, Answers, IsOrMemory}
use Rattle.covread.proofs.TraceGrammar.{LineLaw, Place, Between, Within}
use Rattle.covread.proofs.TraceStands.{Stands, stands_at_first, stands_outside, stands_path, stands_inside, stands_end, stands_reads, stop_by_fault, stop_outside, stop_inside, stop_open}
use Rattle.covread.proofs.TraceOutcome.{one_outcome}

-- ---- at least one

-- a line leads on, or it is the first faulty one
data Verdict (lines all : List (List ℕ)) : Type 0 where
  On : (parts : List Part) (place : Place) → Stands lines parts place → Verdict lines all
  Off : (fault : ReadFault) → IsFirstFault all fault → Verdict lines all

-- how reading all lines ends: they are a lawful text, or they have this first fault
data Ends (all : List (List ℕ)) : Type 0 where
  Lawful : (parts : List Part) → Stands all parts Between → Ends all
  Faulty : (fault : ReadFault) → IsFirstFault all fault → Ends all

module _ (line_law : LineLaw) where
  verdict : (lines : List (List ℕ)) (parts : List Part) (place : Place) (line : List ℕ) (after all : List (List ℕ)) (says : LineData)
      → Stands lines parts place → all ≡ lines ++ line ∷ after → Spells line says → Verdict (lines ++ line ∷ []) all
  verdict lines parts Between line after all (Test name) s e spells = On _ Between (stands_outside lines parts line (Test name) s tt spells)
  verdict lines parts Between line after all Skip s e spells = On _ Between (stands_outside lines parts line Skip s tt spells)
  verdict lines parts Between line after all (Path path) s e spells = On _ _ (stands_path lines parts line path s spells)
  verdict lines parts Between line after all says s e spells = Off (faults.Outside (length lines + 1)) (stop_outside line_law lines parts line after all says s e spells tt)
  verdict lines parts (Within path inside) line after all (Test name) s e spells = Off (faults.Inside (length lines + 1)) (stop_inside line_law lines parts path inside line after all (Test name) s e spells tt)
  verdict lines parts (Within path inside) line after all (Path other) s e spells = Off (faults.Inside (length lines + 1)) (stop_inside line_law lines parts path inside line after all (Path other) s e spells tt)
  verdict lines parts (Within path inside) line after all End s e spells = On _ _ (stands_end lines parts line path inside s spells)
  verdict lines parts (Within path inside) line after all says s e spells = On _ _ (stands_inside lines parts line path inside says s tt spells)

  line_verdict : (lines : List (List ℕ)) (parts : List Part) (place : Place) (line : List ℕ) (after all : List (List ℕ))
      → Stands lines parts place → all ≡ lines ++ line ∷ after → Verdict (lines ++ line ∷ []) all
  line_verdict lines parts place line after all s e =
      elim (line_law.one_of line) [
        | inl m ↦ verdict lines parts place line after all m.0 s e m.1
        | inr f ↦ Off (faults.Line (length lines + 1) f.0) (stop_by_fault line_law place line lines parts after all s e f.0 f.1)
      ]

  walk : (lines : List (List ℕ)) (parts : List Part) (place : Place) (rest all : List (List ℕ)) → Stands lines parts place → all ≡ lines ++ rest → Ends all
  walk lines parts Between [] all s e = Lawful parts (subst (λ (x : List (List ℕ)). Stands x parts Between) (sym (e ∙ append-nil lines)) s)
  walk lines parts (Within path inside) [] all s e =
      Faulty faults.OpenEnd (subst (λ (x : List (List ℕ)). IsFirstFault x faults.OpenEnd) (sym (e ∙ append-nil lines)) (stop_open line_law lines parts path inside s))
  walk lines parts place (line ∷ rest) all s e =
      elim (line_verdict lines parts place line rest all s e) [
        | On more next t ↦ walk (lines ++ line ∷ []) more next rest all t (e ∙ sym (append_assoc lines (line ∷ []) rest))
        | Off fault first ↦ Faulty fault first
      ]

  abbrev HasOutcome : List ℕ → Type 0
  HasOutcome text = (r : Result SubmissionData ReadFault) × IsOutcome text r

  short_outcome : (text : List ℕ) → length text ≤ max_bytes → Ends (lines_of text) → HasOutcome text
  short_outcome text short (Lawful parts s) = (Ok _, (short, stands_reads (lines_of text) parts s))
  short_outcome text short (Faulty fault first) = (Err fault, inr (short, first))

  pub some_outcome : (text : List ℕ) → (r : Result SubmissionData ReadFault) × IsOutcome text r
  some_outcome text =
      elim (cases_lt max_bytes (length text)) [
        | inl long ↦ (Err faults.TooLong, inl (long, refl))
        | inr short ↦ short_outcome text short (walk [] [] Between (lines_of text) (lines_of text) stands_at_first refl)
      ]

  pub no_other_outcome : (text : List ℕ) (r s : Result SubmissionData ReadFault) → IsOutcome text r → IsOutcome text s → r ≡ s
  no_other_outcome text r s h k = one_outcome line_law text r s h k

  -- if a text has an outcome, a right answer is this outcome, unless memory ran out
  pub answer_is : (text : List ℕ) (answer outcome : Result SubmissionData ReadFault) → Answers text answer → IsOutcome text outcome → IsOrMemory answer outcome
  answer_is text answer outcome (inl none) k = inl none.1
  answer_is text answer outcome (inr h) k = inr (no_other_outcome text outcome answer k h)
