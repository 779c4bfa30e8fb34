-- The report of lawful rows reads back. So does each text that a run answers to a report, an extract or a remove.
use Rattle.std.proofs.Common.{◌≡◌, ℕ, ◌≤◌, Bool, true, List, [], ◌∷◌, ◌++◌, length, filter, None, refl, sym, ap, ◌∙◌, subst}
use Rattle.std.specs.Prelude.{◌↔◌, Contains}
use Rattle.std.specs.List.{AllByRecursion, flat_map}
use Rattle.std.proofs.lemmas.List.{append-nil}
use Rattle.covreport.specs.Choice.{ChoiceData, AllFiles, Extracted, Removed, is_chosen}
use Rattle.covtable.specs.Clash.{Agree, Checksum, checksum_of_row, checksums_in, first_clash}
use Rattle.covtable.specs.Content.{SectionData, content_at, content_of}
use Rattle.covline.specs.LineLaws.{OneAfterOther, PrintedSpells}
use Rattle.covline.specs.Lines.{lines_of}
use Rattle.covbook.specs.Op.{OpData, SubmitOp, DropTestOp, RenameOp, ReportOp, ExtractOp, RemoveOp, SummaryOp, AcceptedAnswer, TextAnswer, AreLawfulOps, HaveGoodNames}
use Rattle.covread.specs.Outcome.{max_bytes}
use Rattle.covlaws.specs.Printable.{IsLawfulRow, IsPrintable, submission_shown}
use Rattle.covread.specs.Reads.{Reads}
use Rattle.covlaws.specs.ReadsBack.{IsReport, ReadsBack}
use Rattle.covreport.specs.Report.{report_text, section_text}
use Rattle.covdata.specs.Row.{Row, SubmissionData, items_in, rows_of}
use Rattle.covbook.specs.Step.{answer_of, answer_to_submit, table_after_submit, table_of}
use Rattle.covtable.specs.Table.{Table, all_rows, clash_at}
use Rattle.covlaws.proofs.ChosenContent.{chosen_content}
use Rattle.covtable.proofs.WithoutContent.{All-picked}
use Rattle.covlaws.proofs.LawfulRun.{lawful_run}
use Rattle.covlaws.proofs.PrintableContent.{printable_content}
use Rattle.covlaws.proofs.ReadBack.{shown_is_lawful, text_reads_back}
use Rattle.covtable.proofs.Members.{Contains-from, In-from}
use Rattle.covtable.proofs.ContentsLists.{In-flat, In-unfilter, In-unflat}
use Rattle.covlaws.proofs.ShownRows.{content_shown}

-- ---- texts

pub same_text : (some other : List ℕ) → TextAnswer some ≡ TextAnswer other → some ≡ other
same_text some other e = cc

all_passed : {X : Type 0} (xs : List X) → filter (λ x. true) xs ≡ xs
all_passed [] = refl
all_passed {X} (x ∷ xs) = ap (λ (others : List X). x ∷ others) (all_passed xs)

-- with all files chosen, the text is that of all sections
pub text_of_all : (sections : List SectionData) → report_text AllFiles sections ≡ flat_map section_text sections
text_of_all sections = ap (flat_map section_text) (all_passed sections)

-- ---- the first submission to an empty book

abbrev pub ToldByFirstClash : Type 0
ToldByFirstClash = (held given : List Checksum) → Agree held → first_clash held given ≡ None ↔ Agree (held ++ given)

none_held : Agree []
none_held a b i j = absurd (In-from [] a i)

no_clash : ToldByFirstClash → (s : SubmissionData) → Agree (checksums_in (rows_of s)) → clash_at [] s ≡ None
no_clash told s agree = (told [] (checksums_in (rows_of s)) none_held).1 agree

accepted_first : (s : SubmissionData) → clash_at [] s ≡ None → answer_of [] (SubmitOp s) ≡ AcceptedAnswer 1 (items_in s.sects) s.odd
accepted_first s none = ap (answer_to_submit [] s) none

table_of_one : (s : SubmissionData) → clash_at [] s ≡ None → table_of (SubmitOp s ∷ []) ≡ rows_of s ∷ []
table_of_one s none = ap (table_after_submit [] s) none

-- its content is that of the submission's rows
content_of_one : (s : SubmissionData) → clash_at [] s ≡ None → content_at (table_of (SubmitOp s ∷ [])) ≡ content_of (rows_of s)
content_of_one s none = ap content_at (table_of_one s none) ∙ ap content_of (append-nil (rows_of s))

-- ---- the text that lawful rows are printed as

module _ (spells : PrintedSpells) (one_after_other : OneAfterOther) (rows : List Row) (lawful : AllByRecursion IsLawfulRow rows) (agree : Agree (checksums_in rows)) where
  abbrev shown : SubmissionData
  shown = submission_shown (content_of rows)

  printable : IsPrintable (content_of rows)
  printable = printable_content rows lawful agree

  -- the text is read as the submission that the content shows
  pub text_read : (text : List ℕ) → flat_map section_text (content_of rows) ≡ text → length text ≤ max_bytes → Reads (lines_of text) shown
  text_read text is short =
      subst (λ (t : List ℕ). Reads (lines_of t) shown) is
      (text_reads_back spells one_after_other (content_of rows) printable (subst (λ (t : List ℕ). length t ≤ max_bytes) (sym is) short))

  -- an empty book that has accepted this submission reports the text again
  text_again : clash_at [] shown ≡ None → answer_of (table_of (SubmitOp shown ∷ [])) ReportOp ≡ TextAnswer (flat_map section_text (content_of rows))
  text_again none =
      ap (λ (sections : List SectionData). TextAnswer (report_text AllFiles sections)) (content_of_one shown none ∙ content_shown rows)
      ∙ ap TextAnswer (text_of_all (content_of rows))

  rows_read_back : ToldByFirstClash → (text : List ℕ) → flat_map section_text (content_of rows) ≡ text → length text ≤ max_bytes → ReadsBack text
  rows_read_back told text is short =
      let none = no_clash told shown printable.agree in
      record {
        submission = shown;
        read = (short, text_read text is short);
        lawful = shown_is_lawful (content_of rows) printable (subst (λ (t : List ℕ). length t ≤ max_bytes) (sym is) short);
        nothing_odd = refl;
        accepted = accepted_first shown none;
        same = text_again none ∙ ap TextAnswer is;
      }

-- ---- the rows of chosen files

-- if the checksums of rows agree, so do those of the rows that pass a test
agree_picked : (p : Row → Bool) (rows : List Row) → Agree (checksums_in rows) → Agree (checksums_in (filter p rows))
agree_picked p rows agree a b i j = agree a b (among a i) (among b j)
  where
    among : (c : Checksum) → Contains (checksums_in (filter p rows)) c → Contains (checksums_in rows) c
    among c k =
        let from = In-unflat checksum_of_row (filter p rows) c (In-from (checksums_in (filter p rows)) c k) in
        Contains-from (checksums_in rows) c (In-flat checksum_of_row rows from.0 c (In-unfilter p rows from.0 from.1).0 from.2)

module _ (spells : PrintedSpells) (one_after_other : OneAfterOther) (told : ToldByFirstClash) where
  chosen_reads_back : (choice : ChoiceData) (rows : List Row) → AllByRecursion IsLawfulRow rows → Agree (checksums_in rows)
      → (text : List ℕ) → report_text choice (content_of rows) ≡ text → length text ≤ max_bytes → ReadsBack text
  chosen_reads_back choice rows lawful agree text is short =
      let test = λ (row : Row). is_chosen choice row.file in
      rows_read_back spells one_after_other (filter test rows) (All-picked IsLawfulRow test rows lawful) (agree_picked test rows agree) told text
      (ap (flat_map section_text) (sym (chosen_content choice rows)) ∙ is) short

  -- a report, an extract and a remove are each answered with the text of chosen files, so the text reads back
  answer_reads_back : (table : Table) → AllByRecursion IsLawfulRow (all_rows table) → Agree (checksums_in (all_rows table))
      → (op : OpData) → IsReport op → (text : List ℕ) → answer_of table op ≡ TextAnswer text → length text ≤ max_bytes → ReadsBack text
  answer_reads_back table lawful agree (SubmitOp submission) asks text is short = absurd asks
  answer_reads_back table lawful agree (DropTestOp test) asks text is short = absurd asks
  answer_reads_back table lawful agree (RenameOp old new) asks text is short = absurd asks
  answer_reads_back table lawful agree ReportOp asks text is short = chosen_reads_back AllFiles (all_rows table) lawful agree text (same_text _ text is) short
  answer_reads_back table lawful agree (ExtractOp patterns) asks text is short =
      chosen_reads_back (Extracted patterns) (all_rows table) lawful agree text (same_text _ text is) short
  answer_reads_back table lawful agree (RemoveOp patterns) asks text is short = chosen_reads_back (Removed patterns) (all_rows table) lawful agree text (same_text _ text is) short
  answer_reads_back table lawful agree SummaryOp asks text is short = absurd asks

  pub reports_back : ((ops : List OpData) → Agree (checksums_in (all_rows (table_of ops)))) → (ops : List OpData) → AreLawfulOps ops → HaveGoodNames ops
      → (op : OpData) → IsReport op → (text : List ℕ) → answer_of (table_of ops) op ≡ TextAnswer text → length text ≤ max_bytes → ReadsBack text
  reports_back agree ops lawful good = answer_reads_back (table_of ops) (lawful_run ops lawful good) (agree ops)
