-- Files that are checked one after another: what was reported for the first ones, and for one more.
use Rattle.std.proofs.Common.{◌≡◌, inl, inr, ℕ, suc, ◌+◌, ◌<◌, ◌≤◌, Bool, true, false, ◌||◌, if◌then◌else◌, List, [], ◌∷◌, ◌++◌, length, get_or, take, drop, map, Option, Result, Ok, Err, IfOk, IfErr, refl, sym, ap, ◌∙◌, ◌^◌, subst, arith, append-nil, append_assoc, length-append}
use Rattle.std.proofs.KnownBytes.{Appends-nil, Appends-trans}
use Rattle.std.proofs.lemmas.List.{drop_more, flat_map_more, length-map, length-take, map-append, take-append-drop, take_all, take_more}
use Rattle.std.proofs.lemmas.List.Concat.{flat_map-append}
use Rattle.std.proofs.lemmas.List.Folds.{list_any-append}
use Rattle.std.specs.Io.KnownBytes.{Appends}
use Rattle.std.specs.List.{flat_map, list_any, zip}
use Rattle.covcheck.specs.TextSummary.{Tells}
use Rattle.covcheck.specs.Skipped.{IsSkippedGcov, IsSkippedLcov2, IsSkippedRecord}
use Rattle.covcheck.specs.declared.text_summary.TextSummary.{TextSummary}
use Rattle.covdata.specs.declared.version.LcovVersion.TheVariants as versions
use Rattle.covcommand.specs.declared.asked.Strictness.{Strictness}
use Rattle.covcommand.specs.declared.asked.TextFormat.{TextFormat}
use Rattle.covcommand.specs.declared.asked.TextFormat.TheVariants.{Tracefile, Gcov}
use Rattle.covrun.specs.declared.work.CheckedFormat.{CheckedFormat}
use Rattle.covrun.specs.declared.work.CheckedFormat.TheVariants.{Text}
use Rattle.covdata.specs.Row.{SubmissionData}
use Rattle.covlist.specs.Shown.{shown_name}
use Rattle.covlcov2.specs.Outcome as lcov2
use Rattle.covread.specs.GcovOutcome as gcov
use Rattle.covread.specs.Outcome as trace
use Rattle.covread.specs.Outcome.{max_bytes}
use Rattle.covdata.specs.declared.fault.ReadFault.{ReadFault}
use Rattle.covdata.specs.declared.fault.ReadFault.TheVariants as reads
use Rattle.covsession.specs.Fault.{HasBegun}
use Rattle.covsession.specs.Program.{fault_status, words_of_fault}
use Rattle.covsession.specs.Session.{said}
use Rattle.covsession.specs.declared.session.fault.SessionFault.{SessionFault}
use Rattle.covsession.specs.declared.session.fault.SessionFault.TheVariants as faults
use Rattle.covrun.specs.Check.{OutcomeData, Unread, Refused, Held, IsOutcome, IsCheck, EndsWithin, outcome_line, outcome_complaint, check_lines, check_complaints, is_unread, is_refused, is_accepted, is_unaccepted}
use Rattle.covrun.specs.Checked.{AnswersText, AreExamined, IsExamined, IsReportOf, IsTextExamined, Reports, ReportsFile, Says, TellsEach, TellsExamined, TellsOne, verdict_of, worse, worst_of}
use Rattle.covworld.specs.Files.{IsUnread}
use Rattle.covworld.specs.Folder.{FolderData, IsTextOf}
use Rattle.covstream.specs.declared.fault.BlockFault.{BlockFault}
use Rattle.covstream.specs.declared.fault.BlockFault.TheVariants as files
use Rattle.covworld.specs.Streams.{SinksData, Complains, IsSilent, Withholds}
use Rattle.covrun.specs.declared.check_verdict.CheckVerdict.{CheckVerdict}
use Rattle.covrun.specs.declared.check_verdict.CheckVerdict.TheVariants as verdicts
use Rattle.covrun.specs.declared.file_report.FileReport.{FileReport}
use Rattle.covrun.proofs.Places.{pairs_both, pairs_front, pairs_more, zip_both, zip_front, zip_next}

-- ---- the result of checking a text

abbrev fault_of : Result SubmissionData ReadFault → ReadFault
fault_of (Ok submission) = reads.Memory
fault_of (Err fault) = fault

-- if the reader ran out of memory, so did the check
memory_told : (is_skipped : List ℕ → Type 0) (text : List ℕ) (read : Result SubmissionData ReadFault) (answer : Result TextSummary ReadFault)
    → read ≡ Err reads.Memory → Tells is_skipped text read answer → answer ≡ Err reads.Memory
memory_told is_skipped text (Ok submission) answer is tells = absurd cc
memory_told is_skipped text (Err fault) (Ok summary) is tells = absurd tells
memory_told is_skipped text (Err fault) (Err told) is tells = ap Err (tells ∙ ap fault_of is)

pub trace_answered : (text : List ℕ) (answer : Result TextSummary ReadFault)
    → (read : Result SubmissionData ReadFault) × trace.Answers text read × trace.GrowsLate text read × Tells IsSkippedRecord text read answer
    → AnswersText (Tracefile versions.One) text answer
trace_answered text answer (read, inl (short, is), late, tells) = inl (memory_told IsSkippedRecord text read answer is tells)
trace_answered text answer (read, inr outcome, late, tells) = inr (read, outcome, tells)

pub lcov2_answered : (text : List ℕ) (answer : Result TextSummary ReadFault)
    → (read : Result SubmissionData ReadFault) × lcov2.Answers text read × lcov2.GrowsLate text read × Tells IsSkippedLcov2 text read answer
    → AnswersText (Tracefile versions.Two) text answer
lcov2_answered text answer (read, inl (short, is), late, tells) = inl (memory_told IsSkippedLcov2 text read answer is tells)
lcov2_answered text answer (read, inr outcome, late, tells) = inr (read, outcome, tells)

pub gcov_answered : (text : List ℕ) (answer : Result TextSummary ReadFault)
    → (read : Result SubmissionData ReadFault) × gcov.Answers [] text read × gcov.GrowsLate text read × Tells IsSkippedGcov text read answer
    → AnswersText Gcov text answer
gcov_answered text answer (read, inl (short, good, is), late, tells) = inl (memory_told IsSkippedGcov text read answer is tells)
gcov_answered text answer (read, inr outcome, late, tells) = inr (read, outcome, tells)

-- ---- files and their outcomes

-- what is reported for some files, followed by what is reported for the next file, is what is reported for all of them
each_next : (told : List ℕ → OutcomeData → List ℕ) (files rest : List (List ℕ)) (outcomes : List OutcomeData) (file : List ℕ) (outcome : OutcomeData)
    → length outcomes ≡ length files
    → flat_map (λ (f : List ℕ × OutcomeData). told f.0 f.1) (zip files outcomes) ++ told file outcome
    ≡ flat_map (λ (f : List ℕ × OutcomeData). told f.0 f.1) (zip (files ++ file ∷ rest) (outcomes ++ outcome ∷ []))
each_next told files rest outcomes file outcome same =
    flat_map_more (λ (f : List ℕ × OutcomeData). told f.0 f.1) [] (zip files outcomes) (file, outcome)
    ∙ ap (flat_map (λ (f : List ℕ × OutcomeData). told f.0 f.1)) (sym (zip_next files rest outcomes file outcome same))

-- what is reported for some files, followed by what is reported for more files, is what is reported for all of them
each_both : (told : List ℕ → OutcomeData → List ℕ) (files more : List (List ℕ)) (outcomes others : List OutcomeData) → length outcomes ≡ length files
    → flat_map (λ (f : List ℕ × OutcomeData). told f.0 f.1) (zip files outcomes) ++ flat_map (λ (f : List ℕ × OutcomeData). told f.0 f.1) (zip more others)
    ≡ flat_map (λ (f : List ℕ × OutcomeData). told f.0 f.1) (zip (files ++ more) (outcomes ++ others))
each_both told files more outcomes others same =
    sym (ap (flat_map (λ (f : List ℕ × OutcomeData). told f.0 f.1)) (zip_both files more outcomes others same)
    ∙ flat_map-append (λ (f : List ℕ × OutcomeData). told f.0 f.1) (zip files outcomes) (zip more others))

-- this outcome is possible for this file
abbrev becomes : FolderData → CheckedFormat → List ℕ × OutcomeData → Type 0
becomes folder format f = IsOutcome folder format f.0 f.1

-- the line that reports a file, and the complaint about it
abbrev line_told : List ℕ → OutcomeData → List ℕ
line_told file outcome = outcome_line (shown_name file) outcome

abbrev complaint_told : Strictness → List ℕ → OutcomeData → List ℕ
complaint_told strictness file outcome = outcome_complaint strictness (shown_name file) outcome

-- ---- what comes of examining a file

-- a text that is read is reported by what it holds
pub examined_summary : (format : TextFormat) (strictness : Strictness) (shown text : List ℕ) (summary : TextSummary) → AnswersText format text (Ok summary)
    → (result : Result FileReport SessionFault) → IfOk result (IsReportOf strictness shown (Held summary)) → IfErr result (λ fault. fault ≡ faults.Memory)
    → IsTextExamined format strictness shown text result
examined_summary format strictness shown text summary (inl ran_out) result reported ended = absurd cc
examined_summary format strictness shown text summary (inr is) (Ok report) reported ended = (Held summary, is, reported)
examined_summary format strictness shown text summary (inr is) (Err fault) reported ended = ended

-- a text that is refused is reported by why
pub examined_refusal : (format : TextFormat) (strictness : Strictness) (shown text : List ℕ) (why : ReadFault) → AnswersText format text (Err why) → (why ≡ reads.Memory → ⊥)
    → (result : Result FileReport SessionFault) → IfOk result (IsReportOf strictness shown (Refused why)) → IfErr result (λ fault. fault ≡ faults.Memory)
    → IsTextExamined format strictness shown text result
examined_refusal format strictness shown text why (inl ran_out) other result reported ended = absurd (other (ap fault_of_text ran_out))
  where
    fault_of_text : Result TextSummary ReadFault → ReadFault
    fault_of_text (Ok summary) = reads.Memory
    fault_of_text (Err fault) = fault
examined_refusal format strictness shown text why (inr is) other (Ok report) reported ended = (Refused why, is, reported)
examined_refusal format strictness shown text why (inr is) other (Err fault) reported ended = ended

-- if the file may have this text, what comes of examining the file with this text comes of examining the file
examined_as : (folder : FolderData) (format : TextFormat) (strictness : Strictness) (file text : List ℕ) → length text ≤ suc max_bytes → IsTextOf (folder.holds file) text
    → (result : Result FileReport SessionFault) → IsTextExamined format strictness (shown_name file) text result → IsExamined folder (Text format) strictness file result
examined_as folder format strictness file text short fits (Ok report) (Unread, none, is) = absurd none
examined_as folder format strictness file text short fits (Ok report) (Refused fault, may, is) = (Refused fault, (text, short, fits, may), is)
examined_as folder format strictness file text short fits (Ok report) (Held summary, may, is) = (Held summary, (text, short, fits, may), is)
examined_as folder format strictness file text short fits (Err fault) ran_out = ran_out

-- the same for the file's shown name
pub examined_text : (folder : FolderData) (format : TextFormat) (strictness : Strictness) (file shown text : List ℕ) → shown ≡ shown_name file → length text ≤ suc max_bytes → IsTextOf (folder.holds file) text
    → (result : Result FileReport SessionFault) → IsTextExamined format strictness shown text result → IsExamined folder (Text format) strictness file result
examined_text folder format strictness file shown text is short fits result examined =
    examined_as folder format strictness file text short fits result (subst (λ (name : List ℕ). IsTextExamined format strictness name text result) is examined)

-- a file that isn't read, although memory doesn't run out, may fail to be read
pub may_fail_of : (folder : FolderData) (name : List ℕ) (fault : BlockFault) → (fault ≡ files.Memory → ⊥) → IsUnread folder name fault → folder.MayFail name
may_fail_of folder name files.Unreadable other unread = unread
may_fail_of folder name files.Memory other unread = absurd (other refl)

-- a file that can't be read is reported as such
pub examined_unread : (folder : FolderData) (format : CheckedFormat) (strictness : Strictness) (file shown : List ℕ) → shown ≡ shown_name file → folder.MayFail file
    → (result : Result FileReport SessionFault) → IfOk result (IsReportOf strictness shown Unread) → IfErr result (λ fault. fault ≡ faults.Memory)
    → IsExamined folder format strictness file result
examined_unread folder format strictness file shown is may (Ok report) reported ended =
    (Unread, may, subst (λ (name : List ℕ). IsReportOf strictness name Unread report) is reported)
examined_unread folder format strictness file shown is may (Err fault) reported ended = ended

-- a file with this outcome is reported as such
pub examined_outcome : (folder : FolderData) (format : CheckedFormat) (strictness : Strictness) (file shown : List ℕ) → shown ≡ shown_name file → (outcome : OutcomeData) → IsOutcome folder format file outcome
    → (result : Result FileReport SessionFault) → IfOk result (IsReportOf strictness shown outcome) → IfErr result (λ fault. fault ≡ faults.Memory)
    → IsExamined folder format strictness file result
examined_outcome folder format strictness file shown is outcome may (Ok report) reported ended =
    (outcome, may, subst (λ (name : List ℕ). IsReportOf strictness name outcome report) is reported)
examined_outcome folder format strictness file shown is outcome may (Err fault) reported ended = ended

-- the report on an outcome is written as the outcome is reported
written_report : (strictness : Strictness) (shown : List ℕ) (outcome : OutcomeData) (report : FileReport) (answer : Result CheckVerdict SessionFault) (b d : SinksData) → IsReportOf strictness shown outcome report
    → Reports report.line.items report.complaint.items report.verdict answer b d → ReportsFile strictness shown outcome answer b d
written_report strictness shown outcome report answer b d (words_are, line_is, verdict_is) told =
    subst (λ (v : CheckVerdict). Reports (outcome_line shown outcome) (outcome_complaint strictness shown outcome) v answer b d) verdict_is
    (subst (λ (ws : List ℕ). Reports (outcome_line shown outcome) ws report.verdict answer b d) words_are
    (subst (λ (line : List ℕ). Reports line report.complaint.items report.verdict answer b d) line_is told))

-- what was examined is reported
pub told_one : (folder : FolderData) (format : CheckedFormat) (strictness : Strictness) (file : List ℕ) (result : Result FileReport SessionFault) (answer : Result CheckVerdict SessionFault) (b d : SinksData)
    → IsExamined folder format strictness file result → TellsExamined result answer b d → TellsOne folder format strictness file answer b d
told_one folder format strictness file (Ok report) answer b d (outcome, may, is) told = inr (outcome, may, written_report strictness (shown_name file) outcome report answer b d is told)
told_one folder format strictness file (Err fault) answer b d ran_out (ended, unchanged) = inl (ended ∙ ap Err ran_out, unchanged)

-- what came of examining the file at this index
pub examined_at : (folder : FolderData) (format : CheckedFormat) (strictness : Strictness) (files : List (List ℕ)) (results seen : List (Result FileReport SessionFault)) (i : ℕ) (result : Result FileReport SessionFault)
    → AreExamined folder format strictness files results → seen ≡ results → i < length seen → result ≡ get_or seen i result
    → (i < length files) × IsExamined folder format strictness (get_or files i []) result
examined_at folder format strictness files results seen i result (same, each) seen_is within is =
    let as_many : length seen ≡ length results = ap (λ (rs : List (Result FileReport SessionFault)). length rs) seen_is in
    let inside : i < length files = omega (arith, within, as_many, same) in (
      inside,
      subst (IsExamined folder format strictness (get_or files i []))
          (sym (is ∙ ap (λ (rs : List (Result FileReport SessionFault)). get_or rs i result) seen_is)) (each i inside [] result),
    )

-- ---- the worst verdict

-- the verdict, by whether some file is unread, refused or not accepted
abbrev worst : (unread refused unaccepted : Bool) → CheckVerdict
worst unread refused unaccepted =
    if unread then verdicts.Unreadable else if refused then verdicts.Refused else if unaccepted then verdicts.Unaccepted else verdicts.Fine

worst_held : (u r e b : Bool)
    → worst (u || (false || false)) (r || (false || false)) (e || ((if b then false else true) || false))
    ≡ worse (worst u r e) (if b then verdicts.Fine else verdicts.Unaccepted)
worst_held true r e b = refl
worst_held false true e true = refl
worst_held false true e false = refl
worst_held false false true true = refl
worst_held false false true false = refl
worst_held false false false true = refl
worst_held false false false false = refl

worst_with : (strictness : Strictness) (u r e : Bool) (outcome : OutcomeData)
    → worst (u || (is_unread outcome || false)) (r || (is_refused outcome || false)) (e || (is_unaccepted strictness outcome || false))
    ≡ worse (worst u r e) (verdict_of strictness outcome)
worst_with strictness u r e (Held summary) = worst_held u r e (is_accepted strictness summary)
worst_with strictness true r e Unread = refl
worst_with strictness false true e Unread = refl
worst_with strictness false false true Unread = refl
worst_with strictness false false false Unread = refl
worst_with strictness true r e (Refused fault) = refl
worst_with strictness false true e (Refused fault) = refl
worst_with strictness false false true (Refused fault) = refl
worst_with strictness false false false (Refused fault) = refl

worst_next : (strictness : Strictness) (outcomes : List OutcomeData) (outcome : OutcomeData) → worst_of strictness (outcomes ++ outcome ∷ []) ≡ worse (worst_of strictness outcomes) (verdict_of strictness outcome)
worst_next strictness outcomes outcome =
    rw (list_any-append is_unread outcomes (outcome ∷ []))
    (rw (list_any-append is_refused outcomes (outcome ∷ []))
    (rw (list_any-append (is_unaccepted strictness) outcomes (outcome ∷ []))
    (worst_with strictness (list_any is_unread outcomes) (list_any is_refused outcomes) (list_any (is_unaccepted strictness) outcomes) outcome)))

worse_of : (u r e u' r' e' : Bool) → worst (u || u') (r || r') (e || e') ≡ worse (worst u r e) (worst u' r' e')
worse_of true r e u' r' e' = refl
worse_of false true e true r' e' = refl
worse_of false true e false true e' = refl
worse_of false true e false false true = refl
worse_of false true e false false false = refl
worse_of false false true true r' e' = refl
worse_of false false true false true e' = refl
worse_of false false true false false true = refl
worse_of false false true false false false = refl
worse_of false false false u' r' e' = refl

worst_both : (strictness : Strictness) (outcomes more : List OutcomeData) → worst_of strictness (outcomes ++ more) ≡ worse (worst_of strictness outcomes) (worst_of strictness more)
worst_both strictness outcomes more =
    rw (list_any-append is_unread outcomes more)
    (rw (list_any-append is_refused outcomes more)
    (rw (list_any-append (is_unaccepted strictness) outcomes more)
    (worse_of (list_any is_unread outcomes) (list_any is_refused outcomes) (list_any (is_unaccepted strictness) outcomes)
    (list_any is_unread more) (list_any is_refused more) (list_any (is_unaccepted strictness) more))))

-- ---- the streams

says_next : (n m : ℕ) (words more : List ℕ) (a b d : SinksData) → Says n words a b → Says m more b d → Says (n + m) (words ++ more) a d
says_next n m words more a b d (complained, grew, few) (complained', grew', few') = (
  λ good. Appends-trans a.faults b.faults d.faults words more (complained (omega (arith, good, grew, grew'))) (complained' (omega (arith, good, grew, grew'))),
  omega (arith, grew, grew'),
  omega (arith, few, few'),
)

-- what was said stays said if nothing more is
says_still : (most : ℕ) (words : List ℕ) (a b d : SinksData) → Says most words a b → IsSilent b d → Says most words a d
says_still most words a b d (complained, grew, few) (same, unfailed) = (
  λ good. subst (λ (f : Option (List ℕ)). Appends a.faults f words) (sym same) (complained (sym unfailed ∙ good)),
  omega (arith, grew, unfailed),
  omega (arith, few, unfailed),
)

-- a complaint went to the stream for faults, and then a line to the output
pub reported : (line words : List ℕ) (verdict : CheckVerdict) (a b d : SinksData) → Says 1 words a b → Withholds a b
    → Appends b.output d.output line → (b.held ≡ 0 → d.held ≡ 0) → d.failed_output ≡ b.failed_output → IsSilent b d → Reports line words verdict (Ok verdict) a d
reported line words verdict a b d says (output, held, good) put sent unfailed silent = (
  refl,
  subst (λ (o : Option (List ℕ)). Appends o d.output line) output put,
  unfailed ∙ good,
  λ none. sent (held ∙ none),
  says_still 1 words a b d says silent,
)

-- a complaint went to the stream for faults, and then the line couldn't be written
pub report_broken : (line words put told : List ℕ) (verdict : CheckVerdict) (fault : SessionFault) (a b d : SinksData) → put ≡ line → told ≡ words → fault ≡ faults.Write → Says 1 told a b → Withholds a b
    → d.failed_output ≡ suc b.failed_output → HasBegun b.output d.output put → IsSilent b d → Reports line words verdict (Err fault) a d
report_broken line words put told verdict fault a b d same_line same_words is says (output, held, good) failed begun silent =
    subst (λ (f : SessionFault). Reports line words verdict (Err f) a d) (sym is) (
      subst (λ (o : Option (List ℕ)). HasBegun o d.output line) output (subst (λ (l : List ℕ). HasBegun b.output d.output l) same_line begun),
      failed ∙ ap suc good,
      says_still 1 words a b d (subst (λ (ws : List ℕ). Says 1 ws a b) same_words says) silent,
    )

-- if the output is unchanged, it still ends within the same line
within_next : (files : List (List ℕ)) (outcomes : List OutcomeData) (a b d : SinksData) → d.output ≡ b.output → EndsWithin files outcomes a b → EndsWithin files outcomes a d
within_next files outcomes a b d same within = record {
  earlier = within.earlier;
  file = within.file;
  later = within.later;
  files_are = within.files_are;
  before = within.before;
  last = within.last;
  outcomes_are = within.outcomes_are;
  each = within.each;
  between = within.between;
  whole = within.whole;
  part = subst (λ (o : Option (List ℕ)). HasBegun within.between o (outcome_line (shown_name within.file) within.last)) (sym same) within.part;
}

-- ---- one more file

told_next : (folder : FolderData) (format : CheckedFormat) (strictness : Strictness) (files : List (List ℕ)) (file : List ℕ) (so_far verdict : CheckVerdict) (a b d : SinksData)
    → TellsEach folder format strictness files (Ok so_far) a b → TellsOne folder format strictness file (Ok verdict) b d
    → TellsEach folder format strictness (files ++ file ∷ []) (Ok (worse so_far verdict)) a d
told_next folder format strictness files file so_far verdict a b d before (inl (ran_out, unchanged)) = absurd cc
told_next folder format strictness files file so_far verdict a b d (outcomes, all, (same, is, lines, good, sent, says)) (inr (outcome, fits, (is', line, good', sent', says'))) =
    let longer : length (outcomes ++ outcome ∷ []) ≡ length outcomes + 1 = length-append outcomes (outcome ∷ []) in (
      outcomes ++ outcome ∷ [],
      pairs_more (becomes folder format) files [] outcomes file outcome same all fits,
      (
        longer ∙ ap (λ (n : ℕ). n + 1) same ∙ sym (length-append files (file ∷ [])),
        ap (λ (v : CheckVerdict). worse v verdict) is ∙ ap (worse (worst_of strictness outcomes)) is' ∙ sym (worst_next strictness outcomes outcome),
        subst (Appends a.output d.output) (each_next line_told files [] outcomes file outcome same)
            (Appends-trans a.output b.output d.output _ _ lines line),
        good' ∙ good,
        λ none. sent' (sent none),
        subst (λ (n : ℕ). Says n (check_complaints strictness (files ++ file ∷ []) (outcomes ++ outcome ∷ [])) a d) (sym longer)
            (subst (λ (ws : List ℕ). Says (length outcomes + 1) ws a d) (each_next (complaint_told strictness) files [] outcomes file outcome same)
            (says_next (length outcomes) 1 _ _ a b d says says')),
      ),
    )

-- memory ran out before the next file was reported
told_without_room : (folder : FolderData) (format : CheckedFormat) (strictness : Strictness) (files rest : List (List ℕ)) (file : List ℕ) (so_far : CheckVerdict) (a b d : SinksData)
    → TellsEach folder format strictness files (Ok so_far) a b → d ≡ b → TellsEach folder format strictness (files ++ file ∷ rest) (Err faults.Memory) a d
told_without_room folder format strictness files rest file so_far a b d (outcomes, all, (same, is, lines, good, sent, says)) unchanged =
    let few : length outcomes ≤ length files = omega (arith, same) in
    let front : zip (files ++ file ∷ rest) outcomes ≡ zip files outcomes = zip_front files (file ∷ rest) outcomes few in
    subst (λ (s : SinksData). TellsEach folder format strictness (files ++ file ∷ rest) (Err faults.Memory) a s) (sym unchanged) (
      outcomes,
      pairs_front (becomes folder format) files (file ∷ rest) outcomes few all,
      (
        omega (arith, same, length-append files (file ∷ rest)),
        subst (Appends a.output b.output) (ap (flat_map (λ (f : List ℕ × OutcomeData). outcome_line (shown_name f.0) f.1)) (sym front)) lines,
        good,
        subst (λ (ws : List ℕ). Says (length outcomes) ws a b) (ap (flat_map (λ (f : List ℕ × OutcomeData). outcome_complaint strictness (shown_name f.0) f.1)) (sym front)) says,
      ),
    )

-- a fault came at the next file, so no later file is checked
told_until : (folder : FolderData) (format : CheckedFormat) (strictness : Strictness) (files rest : List (List ℕ)) (file : List ℕ) (so_far : CheckVerdict) (fault : SessionFault) (a b d : SinksData)
    → TellsEach folder format strictness files (Ok so_far) a b → TellsOne folder format strictness file (Err fault) b d
    → TellsEach folder format strictness (files ++ file ∷ rest) (Err fault) a d
told_until folder format strictness files rest file so_far faults.Write a b d before (inl (ran_out, unchanged)) = absurd cc
told_until folder format strictness files rest file so_far faults.Write a b d (outcomes, all, (same, is, lines, good, sent, says)) (inr (outcome, fits, (begun, failed, says'))) =
    let longer : length (outcomes ++ outcome ∷ []) ≡ length outcomes + 1 = length-append outcomes (outcome ∷ []) in (
      outcomes ++ outcome ∷ [],
      pairs_more (becomes folder format) files rest outcomes file outcome same all fits,
      (
        record {
          earlier = files;
          file = file;
          later = rest;
          files_are = refl;
          before = outcomes;
          last = outcome;
          outcomes_are = refl;
          each = same;
          between = b.output;
          whole = lines;
          part = begun;
        },
        failed ∙ ap suc good,
        subst (λ (n : ℕ). Says n (check_complaints strictness (files ++ file ∷ rest) (outcomes ++ outcome ∷ [])) a d) (sym longer)
            (subst (λ (ws : List ℕ). Says (length outcomes + 1) ws a d) (each_next (complaint_told strictness) files rest outcomes file outcome same)
            (says_next (length outcomes) 1 _ _ a b d says says')),
      ),
    )
told_until folder format strictness files rest file so_far faults.Memory a b d before (inl (ran_out, unchanged)) =
    told_without_room folder format strictness files rest file so_far a b d before unchanged
told_until folder format strictness files rest file so_far faults.Memory a b d before (inr (outcome, fits, unchanged)) =
    told_without_room folder format strictness files rest file so_far a b d before unchanged
told_until folder format strictness files rest file so_far faults.Read a b d before (inl (ran_out, unchanged)) = absurd cc
told_until folder format strictness files rest file so_far faults.Read a b d before (inr (outcome, fits, none)) = absurd none
told_until folder format strictness files rest file so_far faults.Full a b d before (inl (ran_out, unchanged)) = absurd cc
told_until folder format strictness files rest file so_far faults.Full a b d before (inr (outcome, fits, none)) = absurd none

-- ---- the files by their indexes

-- nothing is reported yet
pub told_start : (folder : FolderData) (format : CheckedFormat) (strictness : Strictness) (a : SinksData) → TellsEach folder format strictness [] (Ok verdicts.Fine) a a
told_start folder format strictness a = (
  [],
  tt,
  (refl, refl, Appends-nil a.output, refl, (λ none. none), ((λ good. Appends-nil a.faults), omega arith, omega arith)),
)

-- memory ran out before the first file was reported
pub told_nothing : (folder : FolderData) (format : CheckedFormat) (strictness : Strictness) (files : List (List ℕ)) (a : SinksData) → 0 < length files → TellsEach folder format strictness files (Err faults.Memory) a a
told_nothing folder format strictness [] a some = absurd (omega (arith, some))
told_nothing folder format strictness (file ∷ rest) a some = told_without_room folder format strictness [] rest file verdicts.Fine a a a (told_start folder format strictness a) refl

-- few writes failed
pub told_few : (folder : FolderData) (format : CheckedFormat) (strictness : Strictness) (files : List (List ℕ)) (so_far : CheckVerdict) (a b : SinksData)
    → TellsEach folder format strictness files (Ok so_far) a b → (b.failed_output ≡ a.failed_output) × (b.failed_faults ≤ a.failed_faults + length files)
told_few folder format strictness files so_far a b (outcomes, all, (same, is, lines, good, sent, (complained, grew, few))) = (good, omega (arith, same, few))

-- few writes to the stream for faults failed, if there are `count` files, and the first `i` are reported
pub told_few_of : (folder : FolderData) (format : CheckedFormat) (strictness : Strictness) (files : List (List ℕ)) (i count : ℕ) (so_far : CheckVerdict) (a b : SinksData)
    → TellsEach folder format strictness (take i files) (Ok so_far) a b → length files ≡ count → a.failed_faults + count < 2 ^ 63 → b.failed_faults < 2 ^ 63
told_few_of folder format strictness files i count so_far a b told many room =
    omega (arith, (told_few folder format strictness (take i files) so_far a b told).1, length-take i files, many, room)

-- all files are reported, if as many are as there are results
pub told_whole : (folder : FolderData) (format : CheckedFormat) (strictness : Strictness) (files : List (List ℕ)) (results seen : List (Result FileReport SessionFault)) (i : ℕ) (so_far : CheckVerdict) (a b : SinksData)
    → AreExamined folder format strictness files results → seen ≡ results → length seen ≤ i → TellsEach folder format strictness (take i files) (Ok so_far) a b
    → TellsEach folder format strictness files (Ok so_far) a b
told_whole folder format strictness files results seen i so_far a b (same, each) seen_is ended told =
    let as_many : length seen ≡ length results = ap (λ (rs : List (Result FileReport SessionFault)). length rs) seen_is in
    let all : length files ≤ i = omega (arith, as_many, same, ended) in
    subst (λ (fs : List (List ℕ)). TellsEach folder format strictness fs (Ok so_far) a b) (take_all i files all) told

-- the next file is reported
pub told_more : (folder : FolderData) (format : CheckedFormat) (strictness : Strictness) (files : List (List ℕ)) (i : ℕ) → i < length files
    → (so_far verdict after : CheckVerdict) → after ≡ worse so_far verdict → (a b d : SinksData)
    → TellsEach folder format strictness (take i files) (Ok so_far) a b → TellsOne folder format strictness (get_or files i []) (Ok verdict) b d
    → TellsEach folder format strictness (take (i + 1) files) (Ok after) a d
told_more folder format strictness files i within so_far verdict after worse_is a b d before next =
    subst (λ (fs : List (List ℕ)). TellsEach folder format strictness fs (Ok after) a d) (sym (take_more files i [] within))
    (subst (λ (v : CheckVerdict). TellsEach folder format strictness (take i files ++ get_or files i [] ∷ []) (Ok v) a d) (sym worse_is)
    (told_next folder format strictness (take i files) (get_or files i []) so_far verdict a b d before next))

-- a fault came at the next file, so no later file is reported
pub told_last : (folder : FolderData) (format : CheckedFormat) (strictness : Strictness) (files : List (List ℕ)) (i : ℕ) → i < length files → (so_far : CheckVerdict) (fault : SessionFault) (a b d : SinksData)
    → TellsEach folder format strictness (take i files) (Ok so_far) a b → TellsOne folder format strictness (get_or files i []) (Err fault) b d
    → TellsEach folder format strictness files (Err fault) a d
told_last folder format strictness files i within so_far fault a b d before next =
    let cut : files ≡ take i files ++ get_or files i [] ∷ drop (i + 1) files
    = sym (take-append-drop i files) ∙ ap (λ (fs : List (List ℕ)). take i files ++ fs) (drop_more files i [] within) in
    subst (λ (fs : List (List ℕ)). TellsEach folder format strictness fs (Err fault) a d) (sym cut)
    (told_until folder format strictness (take i files) (drop (i + 1) files) (get_or files i []) so_far fault a b d before next)

-- ---- one more round

-- some files are reported, and then those of a round
pub told_round : (folder : FolderData) (format : CheckedFormat) (strictness : Strictness) (files round : List (List ℕ)) (so_far verdict : CheckVerdict) (a b d : SinksData)
    → TellsEach folder format strictness files (Ok so_far) a b → TellsEach folder format strictness round (Ok verdict) b d
    → TellsEach folder format strictness (files ++ round) (Ok (worse so_far verdict)) a d
told_round folder format strictness files round so_far verdict a b d (outcomes, all, (same, is, lines, good, sent, says)) (more, all', (same', is', lines', good', sent', says')) =
    let longer : length (outcomes ++ more) ≡ length outcomes + length more = length-append outcomes more in (
      outcomes ++ more,
      pairs_both (becomes folder format) files round outcomes more same all all',
      (
        omega (arith, longer, same, same', length-append files round),
        ap (λ (v : CheckVerdict). worse v verdict) is ∙ ap (worse (worst_of strictness outcomes)) is' ∙ sym (worst_both strictness outcomes more),
        subst (Appends a.output d.output) (each_both line_told files round outcomes more same)
            (Appends-trans a.output b.output d.output _ _ lines lines'),
        good' ∙ good,
        λ none. sent' (sent none),
        subst (λ (n : ℕ). Says n (check_complaints strictness (files ++ round) (outcomes ++ more)) a d) (sym longer)
            (subst (λ (ws : List ℕ). Says (length outcomes + length more) ws a d) (each_both (complaint_told strictness) files round outcomes more same)
            (says_next (length outcomes) (length more) _ _ a b d says says')),
      ),
    )

-- a fault came within the round
told_within : (folder : FolderData) (format : CheckedFormat) (strictness : Strictness) (files round : List (List ℕ)) (so_far : CheckVerdict) (fault : SessionFault) (a b d : SinksData)
    → TellsEach folder format strictness files (Ok so_far) a b → TellsEach folder format strictness round (Err fault) b d
    → TellsEach folder format strictness (files ++ round) (Err fault) a d
told_within folder format strictness files round so_far faults.Write a b d (outcomes, all, (same, is, lines, good, sent, says)) (more, all', (within, failed, says')) =
    let longer : length (outcomes ++ more) ≡ length outcomes + length more = length-append outcomes more in (
      outcomes ++ more,
      pairs_both (becomes folder format) files round outcomes more same all all',
      (
        record {
          earlier = files ++ within.earlier;
          file = within.file;
          later = within.later;
          files_are = ap (λ (fs : List (List ℕ)). files ++ fs) within.files_are ∙ sym (append_assoc files within.earlier (within.file ∷ within.later));
          before = outcomes ++ within.before;
          last = within.last;
          outcomes_are = ap (λ (os : List OutcomeData). outcomes ++ os) within.outcomes_are ∙ sym (append_assoc outcomes within.before (within.last ∷ []));
          each = omega (arith, same, within.each, length-append outcomes within.before, length-append files within.earlier);
          between = within.between;
          whole = subst (Appends a.output within.between) (each_both line_told files within.earlier outcomes within.before same)
              (Appends-trans a.output b.output within.between _ _ lines within.whole);
          part = within.part;
        },
        failed ∙ ap suc good,
        subst (λ (n : ℕ). Says n (check_complaints strictness (files ++ round) (outcomes ++ more)) a d) (sym longer)
            (subst (λ (ws : List ℕ). Says (length outcomes + length more) ws a d) (each_both (complaint_told strictness) files round outcomes more same)
            (says_next (length outcomes) (length more) _ _ a b d says says')),
      ),
    )
told_within folder format strictness files round so_far faults.Memory a b d (outcomes, all, (same, is, lines, good, sent, says)) (more, all', (some, lines', good', says')) =
    let longer : length (outcomes ++ more) ≡ length outcomes + length more = length-append outcomes more in (
      outcomes ++ more,
      pairs_both (becomes folder format) files round outcomes more same all all',
      (
        omega (arith, longer, same, some, length-append files round),
        subst (Appends a.output d.output) (each_both line_told files round outcomes more same)
            (Appends-trans a.output b.output d.output _ _ lines lines'),
        good' ∙ good,
        subst (λ (n : ℕ). Says n (check_complaints strictness (files ++ round) (outcomes ++ more)) a d) (sym longer)
            (subst (λ (ws : List ℕ). Says (length outcomes + length more) ws a d) (each_both (complaint_told strictness) files round outcomes more same)
            (says_next (length outcomes) (length more) _ _ a b d says says')),
      ),
    )
told_within folder format strictness files round so_far faults.Read a b d before (more, all, none) = absurd none
told_within folder format strictness files round so_far faults.Full a b d before (more, all, none) = absurd none

-- what is reported of outcomes is the same if files without an outcome follow
each_front : (told : List ℕ → OutcomeData → List ℕ) (files later : List (List ℕ)) (outcomes : List OutcomeData) → length outcomes ≤ length files
    → flat_map (λ (f : List ℕ × OutcomeData). told f.0 f.1) (zip files outcomes)
    ≡ flat_map (λ (f : List ℕ × OutcomeData). told f.0 f.1) (zip (files ++ later) outcomes)
each_front told files later outcomes few =
    ap (flat_map (λ (f : List ℕ × OutcomeData). told f.0 f.1)) (sym (zip_front files later outcomes few))

-- after a fault no later file is checked
told_before : (folder : FolderData) (format : CheckedFormat) (strictness : Strictness) (files later : List (List ℕ)) (fault : SessionFault) (a d : SinksData)
    → TellsEach folder format strictness files (Err fault) a d → TellsEach folder format strictness (files ++ later) (Err fault) a d
told_before folder format strictness files later faults.Write a d (outcomes, all, (within, failed, says)) =
    let few : length outcomes ≤ length files = omega (
      arith,
      within.each,
      ap (λ (os : List OutcomeData). length os) within.outcomes_are,
      ap (λ (fs : List (List ℕ)). length fs) within.files_are,
      length-append within.before (within.last ∷ []),
      length-append within.earlier (within.file ∷ within.later),
    ) in (
      outcomes,
      pairs_front (becomes folder format) files later outcomes few all,
      (
        record {
          earlier = within.earlier;
          file = within.file;
          later = within.later ++ later;
          files_are = ap (λ (fs : List (List ℕ)). fs ++ later) within.files_are ∙ append_assoc within.earlier (within.file ∷ within.later) later;
          before = within.before;
          last = within.last;
          outcomes_are = within.outcomes_are;
          each = within.each;
          between = within.between;
          whole = within.whole;
          part = within.part;
        },
        failed,
        subst (λ (ws : List ℕ). Says (length outcomes) ws a d) (each_front (complaint_told strictness) files later outcomes few) says,
      ),
    )
told_before folder format strictness files later faults.Memory a d (outcomes, all, (some, lines, good, says)) =
    let few : length outcomes ≤ length files = omega (arith, some) in (
      outcomes,
      pairs_front (becomes folder format) files later outcomes few all,
      (
        omega (arith, some, length-append files later),
        subst (Appends a.output d.output) (each_front line_told files later outcomes few) lines,
        good,
        subst (λ (ws : List ℕ). Says (length outcomes) ws a d) (each_front (complaint_told strictness) files later outcomes few) says,
      ),
    )
told_before folder format strictness files later faults.Read a d (outcomes, all, none) = absurd none
told_before folder format strictness files later faults.Full a d (outcomes, all, none) = absurd none

-- a fault came within the round, so no later round is checked
pub told_last_round : (folder : FolderData) (format : CheckedFormat) (strictness : Strictness) (all files round later : List (List ℕ)) → all ≡ files ++ round ++ later
    → (so_far : CheckVerdict) (fault : SessionFault) (a b d : SinksData)
    → TellsEach folder format strictness files (Ok so_far) a b → TellsEach folder format strictness round (Err fault) b d
    → TellsEach folder format strictness all (Err fault) a d
told_last_round folder format strictness all files round later is so_far fault a b d before ended =
    subst (λ (fs : List (List ℕ)). TellsEach folder format strictness fs (Err fault) a d) (sym is)
    (told_before folder format strictness (files ++ round) later fault a d (told_within folder format strictness files round so_far fault a b d before ended))

-- the same with the verdict that the code has
pub told_round_as : (folder : FolderData) (format : CheckedFormat) (strictness : Strictness) (files round : List (List ℕ)) (so_far verdict after : CheckVerdict) → after ≡ worse so_far verdict → (a b d : SinksData)
    → TellsEach folder format strictness files (Ok so_far) a b → TellsEach folder format strictness round (Ok verdict) b d
    → TellsEach folder format strictness (files ++ round) (Ok after) a d
told_round_as folder format strictness files round so_far verdict after is a b d before next =
    subst (λ (v : CheckVerdict). TellsEach folder format strictness (files ++ round) (Ok v) a d) (sym is) (told_round folder format strictness files round so_far verdict a b d before next)

-- ---- the files as a slice that rounds are cut from

-- the files before the next round, its files, and those after it
pub cut_round : {X : Type 0} (name : X → List ℕ) (all left round later : List X) (before : List (List ℕ)) → round ++ later ≡ left → map name all ≡ before ++ map name left
    → map name all ≡ before ++ map name round ++ map name later
cut_round name all left round later before cut is =
    is ∙ ap (λ (xs : List _). before ++ map name xs) (sym cut) ∙ ap (λ (fs : List (List ℕ)). before ++ fs) (map-append name round later)
    ∙ sym (append_assoc before (map name round) (map name later))

-- few writes failed, and few files are left
pub few_left : {X : Type 0} (name : X → List ℕ) (all left round later : List X) (before : List (List ℕ)) → round ++ later ≡ left → map name all ≡ before ++ map name left
    → (failed first : ℕ) → failed ≤ first + length before → length all < 2 ^ 62 → first < 2 ^ 62 → failed + length round < 2 ^ 63
few_left name all left round later before cut is failed first few short room =
    let parts : length (map name all) ≡ length (before ++ map name round ++ map name later)
    = ap (λ (fs : List (List ℕ)). length fs) (cut_round name all left round later before cut is) in
    omega (
      arith,
      few,
      short,
      room,
      parts,
      length-append (before ++ map name round) (map name later),
      length-append before (map name round),
      length-map all name,
      length-map round name,
    )

-- no file is left
pub told_to_end : {X : Type 0} (folder : FolderData) (name : X → List ℕ) (format : CheckedFormat) (strictness : Strictness) (all left : List X) (before : List (List ℕ)) (so_far : CheckVerdict) (a b : SinksData)
    → length left ≡ 0 → map name all ≡ before ++ map name left → TellsEach folder format strictness before (Ok so_far) a b → TellsEach folder format strictness (map name all) (Ok so_far) a b
told_to_end folder name format strictness all [] before so_far a b none is told =
    subst (λ (fs : List (List ℕ)). TellsEach folder format strictness fs (Ok so_far) a b) (sym (is ∙ append-nil before)) told
told_to_end folder name format strictness all (x ∷ left) before so_far a b none is told = absurd (omega (arith, none))

-- ---- the end

-- the line of a fault was written to the stream for faults, in two parts
pub says_last : (words front spoken : List ℕ) (b d : SinksData) → front ++ spoken ≡ words
    → Complains (front ++ spoken) b d → b.failed_faults ≤ d.failed_faults → d.failed_faults ≤ suc b.failed_faults → Says 1 words b d
says_last words front spoken b d is complained grew few =
    (λ good. subst (Appends b.faults d.faults) is (complained good), grew, omega (arith, few))

-- a fault ended the check, and was reported
pub check_ended : (folder : FolderData) (format : CheckedFormat) (strictness : Strictness) (files : List (List ℕ)) (fault : SessionFault) (status : ℕ) (a b d : SinksData)
    → TellsEach folder format strictness files (Err fault) a b → status ≡ fault_status fault → d.output ≡ b.output → d.failed_output ≡ b.failed_output
    → Says 1 (said (words_of_fault fault)) b d → IsCheck folder format strictness files status a d
check_ended folder format strictness files faults.Write status a b d (outcomes, all, (within, failed, says)) ends same unfailed told = (
  outcomes,
  all,
  inr (inr (record {
    lines = within_next files outcomes a b d same within;
    ends = ends;
    failed = unfailed ∙ failed;
    complaints = (says_next (length outcomes) 1 _ _ a b d says told).0;
  })),
)
check_ended folder format strictness files faults.Memory status a b d (outcomes, all, (some, lines, good, says)) ends same unfailed told = (
  outcomes,
  all,
  inr (inl (record {
    some = some;
    ends = ends;
    lines = subst (λ (o : Option (List ℕ)). Appends a.output o (check_lines files outcomes)) (sym same) lines;
    written = unfailed ∙ good;
    complaints = (says_next (length outcomes) 1 _ _ a b d says told).0;
  })),
)
check_ended folder format strictness files faults.Read status a b d (outcomes, all, none) ends same unfailed told = absurd none
check_ended folder format strictness files faults.Full status a b d (outcomes, all, none) ends same unfailed told = absurd none
