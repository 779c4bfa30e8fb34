-- What a text holds that is read without a fault: its sections, their items, its odd lines, and the lines that aren't read.
use Rattle.std.specs.Prelude.{◌≡◌, ℕ, List, [], ◌∷◌, length, Option, Some, None, Result, Ok, Err}
use Rattle.std.specs.List.{enumerate_from}
use Rattle.covline.specs.Lines.{lines_of}
use Rattle.covdata.specs.Row.{SubmissionData, items_in}
use Rattle.covdata.specs.declared.fault.ReadFault.{ReadFault}
use Rattle.covcheck.specs.declared.text_summary.TextSummary.{TextSummary}
use Rattle.covcheck.specs.declared.text_summary.SkippedLine.{SkippedLine}
use Rattle.covcheck.specs.Skipped.{AreAllThat, start_of}

-- `lines` are the lines of the text for which `is_so` is true, each with its number. Lines are counted from 1, empty ones too
abbrev pub AreLinesThat : (List ℕ → Type 0) → List ℕ → List (ℕ × List ℕ) → Type 0
AreLinesThat is_so text lines = AreAllThat (λ (l : ℕ × List ℕ). is_so l.1) (enumerate_from 1 (lines_of text)) lines

-- the number and the beginning of the first of these lines, or `None` if there are no lines
abbrev pub IsFirstOf : List (ℕ × List ℕ) → Option SkippedLine → Type 0
IsFirstOf [] None = Unit {0}
IsFirstOf [] (Some first) = ⊥
IsFirstOf (line ∷ lines) None = ⊥
IsFirstOf (line ∷ lines) (Some first) = (first.at ≡ line.0) × (first.start.now ≡ start_of line.1)

-- the summary says what the text holds, if the text is read as this submission. The lines that aren't read are those for
-- which `is_skipped` is true
pub record Holds (is_skipped : List ℕ → Type 0) (text : List ℕ) (submission : SubmissionData) (summary : TextSummary) : Type 0 where
  pub sections : summary.sections ≡ length submission.sects
  pub items : summary.items ≡ items_in submission.sects
  pub odd : summary.odd ≡ submission.odd
  pub lines : List (ℕ × List ℕ)
  pub those : AreLinesThat is_skipped text lines
  pub skipped : summary.skipped ≡ length lines
  pub first : IsFirstOf lines summary.first

-- what a check returns if the reader's result is this: the summary of the text, or the reader's fault
abbrev pub Tells : (List ℕ → Type 0) → List ℕ → Result SubmissionData ReadFault → Result TextSummary ReadFault → Type 0
Tells is_skipped text (Ok submission) (Ok summary) = Holds is_skipped text submission summary
Tells is_skipped text (Ok submission) (Err told) = ⊥
Tells is_skipped text (Err fault) (Ok summary) = ⊥
Tells is_skipped text (Err fault) (Err told) = told ≡ fault
