-- What a strict call refuses beside texts with a fault: texts that hold nothing or that have lines which say nothing, and patterns that
-- match no file.
use Rattle.std.specs.List.{flat_map}
use Rattle.std.specs.Prelude.{◌≡◌, ℕ, Bool, false, IsTrue, ◌&&◌, ◌==◌, nat_lt, if◌then◌else◌, List, [], ◌++◌, codes, map, Result, Ok, Err}
use Rattle.covcheck.specs.Skipped.{IsSkippedIn}
use Rattle.covcheck.specs.SummaryLine.{summary_text}
use Rattle.covcheck.specs.TextSummary.{Holds}
use Rattle.covcheck.specs.declared.format.Format.{Format}
use Rattle.covcheck.specs.declared.format.Format.TheVariants as formats
use Rattle.covcheck.specs.declared.text_summary.TextSummary.{TextSummary}
use Rattle.covbook.specs.Gather.{LogData}
use Rattle.covbook.specs.Op.{OpData, EntryData, SubmitOp, DropTestOp, RenameOp, ReportOp, ExtractOp, RemoveOp, SummaryOp}
use Rattle.covcommand.specs.declared.asked.Strictness.{Strictness}
use Rattle.covcommand.specs.declared.asked.Strictness.TheVariants.{Lenient, Strict}
use Rattle.covworkers.specs.Collect.{IsCollectedWhole}
use Rattle.covjobs.specs.Inputs.{InputData, TraceInput, Lcov2Input, GcovInput, IsCollected, IsOutcomeOf}
use Rattle.covworkers.specs.declared.refused.RefusedInput.{RefusedInput}
use Rattle.covdata.specs.Row.{SubmissionData}
use Rattle.covlist.specs.Chosen.{is_matched}
use Rattle.covlist.specs.Shown.{shown_name}
use Rattle.covdata.specs.declared.fault.ReadFault.{ReadFault}
use Rattle.covreport.specs.Choice.{ChoiceData, AllFiles, Extracted, Removed, Filtered}
use Rattle.covsession.specs.Session.{said}
use Rattle.covtable.specs.Content.{SectionData}
use Rattle.covtable.specs.Files.{FileTotalsData, files_with_totals}
use Rattle.covrun.specs.Work.{QuestionData, Answer, ChosenReport, ChosenTotals, ChosenList}
use Rattle.covrun.specs.declared.text_fault.TextFault.{TextFault}
use Rattle.covrun.specs.declared.text_fault.TextFault.TheVariants.{Faulty, Unclean}

-- the text has an item, and neither an odd line nor a line that isn't read
abbrev pub is_clean : TextSummary → Bool
is_clean summary = nat_lt 0 summary.items && summary.odd == 0 && summary.skipped == 0

abbrev pub text_of : InputData → List ℕ
text_of (TraceInput text) = text
text_of (Lcov2Input text) = text
text_of (GcovInput test text) = text

abbrev pub format_of : InputData → Format
format_of (TraceInput text) = formats.Trace
format_of (Lcov2Input text) = formats.Lcov2
format_of (GcovInput test text) = formats.Gcov

-- the summary says what the input's text holds, if the text is read as this submission
abbrev pub HoldsIn : InputData → SubmissionData → TextSummary → Type 0
HoldsIn input submission summary = Holds (IsSkippedIn (format_of input)) (text_of input) submission summary

-- the outcome of an input for a call that isn't strict: what it is read as, or its fault
abbrev pub IsLenientOutcome : InputData → Result SubmissionData TextFault → Type 0
IsLenientOutcome input (Ok submission) = IsOutcomeOf input (Ok submission)
IsLenientOutcome input (Err (Faulty fault)) = IsOutcomeOf input (Err fault)
IsLenientOutcome input (Err (Unclean line)) = ⊥

-- the outcome of an input for a strict call: what it is read as, if its text is clean; or its fault; or the line that says what its
-- text holds, if the text isn't clean
abbrev pub IsStrictOutcome : InputData → Result SubmissionData TextFault → Type 0
IsStrictOutcome input (Ok submission) =
    IsOutcomeOf input (Ok submission) × (summary : TextSummary) × HoldsIn input submission summary × IsTrue (is_clean summary)
IsStrictOutcome input (Err (Faulty fault)) = IsOutcomeOf input (Err fault)
IsStrictOutcome input (Err (Unclean line)) =
    (submission : SubmissionData) × IsOutcomeOf input (Ok submission)
    × (summary : TextSummary) × HoldsIn input submission summary × (is_clean summary ≡ false) × (line.items ≡ summary_text summary)

abbrev pub IsOutcomeFor : Strictness → InputData → Result SubmissionData TextFault → Type 0
IsOutcomeFor Lenient = IsLenientOutcome
IsOutcomeFor Strict = IsStrictOutcome

-- an input that was refused for a fault of its text
abbrev pub for_fault : RefusedInput ReadFault → RefusedInput TextFault
for_fault r = record { index = r.index; fault = Faulty r.fault }

-- what this number of jobs collects from these inputs. Unless the call is strict, an input is refused only for a fault of its text
abbrev pub AreCollected : Strictness → (inputs : List InputData) → (jobs : ℕ) → (last : OpData) → List EntryData → List LogData → List (RefusedInput TextFault) → Type 0
AreCollected Lenient inputs jobs last entries logs refused =
    (faulty : List (RefusedInput ReadFault)) × (refused ≡ map for_fault faulty) × IsCollected inputs jobs last entries logs faulty
AreCollected Strict inputs jobs last entries logs refused = IsCollectedWhole IsStrictOutcome inputs jobs last entries logs refused

-- ---- patterns that match no file

abbrev pub patterns_of_op : OpData → List (List ℕ)
patterns_of_op (SubmitOp submission) = []
patterns_of_op (DropTestOp test) = []
patterns_of_op (RenameOp old new) = []
patterns_of_op ReportOp = []
patterns_of_op (ExtractOp patterns) = patterns
patterns_of_op (RemoveOp patterns) = patterns
patterns_of_op SummaryOp = []

abbrev pub patterns_of_choice : ChoiceData → List (List ℕ)
patterns_of_choice AllFiles = []
patterns_of_choice (Extracted patterns) = patterns
patterns_of_choice (Removed patterns) = patterns
patterns_of_choice (Filtered includes excludes) = includes ++ excludes

-- the patterns of what is asked, in their order: includes before excludes
abbrev pub asked_patterns : QuestionData → List (List ℕ)
asked_patterns (Answer op) = patterns_of_op op
asked_patterns (ChosenReport choice) = patterns_of_choice choice
asked_patterns (ChosenTotals form choice limits) = patterns_of_choice choice
asked_patterns (ChosenList form choice) = patterns_of_choice choice

-- the line about a pattern, with its control bytes in hexadecimal digits: none if it matches a file
abbrev pub unmatched_line : List FileTotalsData → (pattern : List ℕ) → List ℕ
unmatched_line files pattern = if is_matched files pattern then [] else shown_name pattern ++ said (codes ": matches no file")

-- the lines about patterns that match none of the files that the sections have counts of, for a strict call
abbrev pub unmatched_lines : Strictness → QuestionData → List SectionData → List ℕ
unmatched_lines Lenient asks sections = []
unmatched_lines Strict asks sections = flat_map (unmatched_line (files_with_totals sections)) (asked_patterns asks)
