-- Private steps: what a check of files has reported so far.
use Rattle.std.specs.Io.KnownBytes.{Appends}
use Rattle.std.specs.List.{list_any}
use Rattle.std.specs.Prelude.{◌≡◌, ◌⊎◌, ◌<◌, ◌≤◌, ◌+◌, ℕ, suc, List, length, get_or, if◌then◌else◌, Result, Ok, Err}
use Rattle.covcheck.specs.declared.text_summary.TextSummary.{TextSummary}
use Rattle.covcommand.specs.declared.asked.Strictness.{Strictness}
use Rattle.covcommand.specs.declared.asked.TextFormat.{TextFormat}
use Rattle.covlist.specs.Shown.{shown_name}
use Rattle.covdata.specs.declared.fault.ReadFault.{ReadFault}
use Rattle.covdata.specs.declared.fault.ReadFault.TheVariants as reads
use Rattle.covsession.specs.Fault.{HasBegun}
use Rattle.covsession.specs.declared.session.fault.SessionFault.{SessionFault}
use Rattle.covsession.specs.declared.session.fault.SessionFault.TheVariants as faults
use Rattle.covrun.specs.Check.{OutcomeData, Unread, Refused, Held, IsTextOutcome, IsOutcome, AreOutcomes, EndsWithin, outcome_line, outcome_complaint, check_lines, check_complaints, is_unread, is_refused, is_accepted, is_unaccepted}
use Rattle.covworld.specs.Folder.{FolderData}
use Rattle.covworld.specs.Streams.{SinksData, Complains}
use Rattle.covrun.specs.declared.work.CheckedFormat.{CheckedFormat}
use Rattle.covrun.specs.declared.check_verdict.CheckVerdict.{CheckVerdict}
use Rattle.covrun.specs.declared.check_verdict.CheckVerdict.TheVariants as verdicts
use Rattle.covrun.specs.declared.file_report.FileReport.{FileReport}

-- what checking a text may return: its outcome, or `Memory`
abbrev pub AnswersText : TextFormat → List ℕ → Result TextSummary ReadFault → Type 0
AnswersText format text answer = (answer ≡ Err reads.Memory) ⊎ IsTextOutcome format text answer

abbrev pub verdict_of_summary : Strictness → TextSummary → CheckVerdict
verdict_of_summary strictness summary = if is_accepted strictness summary then verdicts.Fine else verdicts.Unaccepted

abbrev pub verdict_of : Strictness → OutcomeData → CheckVerdict
verdict_of strictness Unread = verdicts.Unreadable
verdict_of strictness (Refused fault) = verdicts.Refused
verdict_of strictness (Held summary) = verdict_of_summary strictness summary

-- the verdict on the worst outcome
abbrev pub worst_of : Strictness → List OutcomeData → CheckVerdict
worst_of strictness outcomes =
    if list_any is_unread outcomes then verdicts.Unreadable
    else if list_any is_refused outcomes then verdicts.Refused
    else if list_any (is_unaccepted strictness) outcomes then verdicts.Unaccepted else verdicts.Fine

abbrev pub verdict_status : CheckVerdict → ℕ
verdict_status verdicts.Fine = 0
verdict_status verdicts.Unreadable = 1
verdict_status verdicts.Refused = 4
verdict_status verdicts.Unaccepted = 5

-- the one of two verdicts that decides the exit status
abbrev pub worse : CheckVerdict → CheckVerdict → CheckVerdict
worse verdicts.Unreadable other = verdicts.Unreadable
worse verdicts.Refused verdicts.Unreadable = verdicts.Unreadable
worse verdicts.Refused verdicts.Refused = verdicts.Refused
worse verdicts.Refused verdicts.Unaccepted = verdicts.Refused
worse verdicts.Refused verdicts.Fine = verdicts.Refused
worse verdicts.Unaccepted verdicts.Unreadable = verdicts.Unreadable
worse verdicts.Unaccepted verdicts.Refused = verdicts.Refused
worse verdicts.Unaccepted verdicts.Unaccepted = verdicts.Unaccepted
worse verdicts.Unaccepted verdicts.Fine = verdicts.Unaccepted
worse verdicts.Fine other = other

-- these words went to the stream for faults, unless a write to it failed. At most `most` writes to it failed
abbrev pub Says : (most : ℕ) → List ℕ → SinksData → SinksData → Type 0
Says most words old new =
    Complains words old new × (old.failed_faults ≤ new.failed_faults) × (new.failed_faults ≤ old.failed_faults + most)

-- how a file is reported: by this line, by these words of complaint, and by its verdict. If memory ran out, nothing was written
abbrev pub Reports : (line words : List ℕ) → CheckVerdict → Result CheckVerdict SessionFault → SinksData → SinksData → Type 0
Reports line words verdict (Ok told) old new =
    (told ≡ verdict) × Appends old.output new.output line
    × (new.failed_output ≡ old.failed_output) × (old.held ≡ 0 → new.held ≡ 0) × Says 1 words old new
Reports line words verdict (Err faults.Write) old new =
    HasBegun old.output new.output line × (new.failed_output ≡ suc old.failed_output) × Says 1 words old new
Reports line words verdict (Err faults.Memory) old new = new ≡ old
Reports line words verdict (Err faults.Read) old new = ⊥
Reports line words verdict (Err faults.Full) old new = ⊥

-- how the outcome of a file with this shown name is reported
abbrev pub ReportsFile : Strictness → (shown : List ℕ) → OutcomeData → Result CheckVerdict SessionFault → SinksData → SinksData → Type 0
ReportsFile strictness shown outcome answer old new =
    Reports (outcome_line shown outcome) (outcome_complaint strictness shown outcome) (verdict_of strictness outcome) answer old new

-- the report on a file with this shown name and this outcome
abbrev pub IsReportOf : Strictness → (shown : List ℕ) → OutcomeData → FileReport → Type 0
IsReportOf strictness shown outcome report =
    (report.complaint.items ≡ outcome_complaint strictness shown outcome) × (report.line.items ≡ outcome_line shown outcome)
    × (report.verdict ≡ verdict_of strictness outcome)

-- the outcome of a file that has this text
abbrev pub IsOutcomeOfText : TextFormat → (text : List ℕ) → OutcomeData → Type 0
IsOutcomeOfText format text Unread = ⊥
IsOutcomeOfText format text (Refused fault) = IsTextOutcome format text (Err fault)
IsOutcomeOfText format text (Held summary) = IsTextOutcome format text (Ok summary)

-- what comes of examining a file with this shown name and this text: a report on its outcome, unless memory ran out
abbrev pub IsTextExamined : TextFormat → Strictness → (shown text : List ℕ) → Result FileReport SessionFault → Type 0
IsTextExamined format strictness shown text (Ok report) =
    (outcome : OutcomeData) × IsOutcomeOfText format text outcome × IsReportOf strictness shown outcome report
IsTextExamined format strictness shown text (Err fault) = fault ≡ faults.Memory

-- what comes of examining a file: a report on an outcome that is possible for the file, unless memory ran out
abbrev pub IsExamined : FolderData → CheckedFormat → Strictness → (file : List ℕ) → Result FileReport SessionFault → Type 0
IsExamined folder format strictness file (Ok report) =
    (outcome : OutcomeData) × IsOutcome folder format file outcome × IsReportOf strictness (shown_name file) outcome report
IsExamined folder format strictness file (Err fault) = fault ≡ faults.Memory

-- what comes of examining files: of each file at its index
abbrev pub AreExamined : FolderData → CheckedFormat → Strictness → (files : List (List ℕ)) → List (Result FileReport SessionFault) → Type 0
AreExamined folder format strictness files results =
    (length results ≡ length files) × ((index : ℕ) → index < length files → (file : List ℕ) (result : Result FileReport SessionFault)
    → IsExamined folder format strictness (get_or files index file) (get_or results index result))

-- how the report of a file that was examined is written. If memory ran out, nothing is written
abbrev pub TellsExamined : Result FileReport SessionFault → Result CheckVerdict SessionFault → SinksData → SinksData → Type 0
TellsExamined (Ok report) answer old new =
    Reports report.line.items report.complaint.items report.verdict answer old new
TellsExamined (Err fault) answer old new = (answer ≡ Err fault) × (new ≡ old)

-- how one file is reported. If memory ran out, nothing was written
abbrev pub TellsOne : FolderData → CheckedFormat → Strictness → (file : List ℕ) → Result CheckVerdict SessionFault → SinksData → SinksData → Type 0
TellsOne folder format strictness file answer old new =
    ((answer ≡ Err faults.Memory) × (new ≡ old))
    ⊎ ((outcome : OutcomeData) × IsOutcome folder format file outcome × ReportsFile strictness (shown_name file) outcome answer old new)

-- how files with these outcomes are reported. If memory ran out, the last files weren't checked and have no outcome
abbrev pub TellsAll : CheckedFormat → Strictness → (files : List (List ℕ)) → List OutcomeData → Result CheckVerdict SessionFault → SinksData → SinksData → Type 0
TellsAll format strictness files outcomes (Ok verdict) old new =
    (length outcomes ≡ length files) × (verdict ≡ worst_of strictness outcomes)
    × Appends old.output new.output (check_lines files outcomes) × (new.failed_output ≡ old.failed_output)
    × (old.held ≡ 0 → new.held ≡ 0) × Says (length outcomes) (check_complaints strictness files outcomes) old new
TellsAll format strictness files outcomes (Err faults.Write) old new =
    EndsWithin files outcomes old new
    × (new.failed_output ≡ suc old.failed_output) × Says (length outcomes) (check_complaints strictness files outcomes) old new
TellsAll format strictness files outcomes (Err faults.Memory) old new =
    (length outcomes < length files) × Appends old.output new.output (check_lines files outcomes)
    × (new.failed_output ≡ old.failed_output) × Says (length outcomes) (check_complaints strictness files outcomes) old new
TellsAll format strictness files outcomes (Err faults.Read) old new = ⊥
TellsAll format strictness files outcomes (Err faults.Full) old new = ⊥

-- how files are reported: there are outcomes that are possible for the files, and these outcomes are reported
abbrev pub TellsEach : FolderData → CheckedFormat → Strictness → (files : List (List ℕ)) → Result CheckVerdict SessionFault → SinksData → SinksData → Type 0
TellsEach folder format strictness files answer old new =
    (outcomes : List OutcomeData) × AreOutcomes folder format files outcomes × TellsAll format strictness files outcomes answer old new
