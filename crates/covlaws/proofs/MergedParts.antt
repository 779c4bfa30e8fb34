-- A merge of merges is the merge of all. The submissions that the parts' reports are read as are lawful. Their checksums agree,
-- and they have the same content as the parts, also together with other submissions. So they give the same texts.
use Rattle.std.proofs.Common.{◌≡◌, ℕ, ◌≤◌, List, [], ◌∷◌, ◌++◌, length, map, Result, Ok, refl, sym, ap, ◌∙◌, subst, inl, inr, ⊎_elim}
use Rattle.std.specs.Prelude.{Contains}
use Rattle.std.specs.List.{AllByRecursion, flat_map}
use Rattle.std.specs.List.Sorted.{IsPermutation}
use Rattle.std.proofs.lemmas.List.Concat.{flat_map-append}
use Rattle.std.proofs.lemmas.List.Folds.{flat_map-map}
use Rattle.std.proofs.lemmas.List.Sorted.{IsPermutation-append_comm}
use Rattle.covreport.specs.Choice.{AllFiles, Extracted, Removed}
use Rattle.covtable.specs.Clash.{Agree, Checksum, checksum_of_row, checksums_in}
use Rattle.covtable.specs.Content.{SectionData, content_at, content_of}
use Rattle.covdata.specs.Lawful.{IsLawful}
use Rattle.covline.specs.LineLaws.{OneAfterOther, PrintedSpells}
use Rattle.covbook.specs.Op.{OpData, SubmitOp, DropTestOp, RenameOp, ReportOp, ExtractOp, RemoveOp, SummaryOp, TextAnswer}
use Rattle.covbook.specs.Order.{AreAgreeing}
use Rattle.covlaws.specs.Printable.{IsLawfulRow, submission_shown}
use Rattle.covlaws.specs.ReadsBack.{AreMergesOf, IsMergeOf, IsReadAs}
use Rattle.covreport.specs.Report.{report_text, section_text}
use Rattle.covdata.specs.Row.{Row, SubmissionData, rows_of}
use Rattle.covdata.specs.declared.fault.ReadFault.{ReadFault}
use Rattle.covread.specs.Outcome.{IsOutcome, max_bytes}
use Rattle.covbook.specs.Step.{answer_of, table_of}
use Rattle.covreport.specs.Summary.{summary_of}
use Rattle.covtable.specs.Table.{Table}
use Rattle.covbook.specs.Texts.{IsText}
use Rattle.covtable.specs.Totals.{totals_of}
use Rattle.covtable.proofs.Members.{All-back, All-front, All-joined, Contains-from, In, In-from, In-joined, In-parts}
use Rattle.covlaws.proofs.LawfulRun.{lawful_rows}
use Rattle.covlaws.proofs.PrintableContent.{checksums_shown, printable_content}
use Rattle.covlaws.proofs.ReadBack.{shown_is_lawful}
use Rattle.covlaws.proofs.ReportsBack.{same_text, text_of_all, text_read}
use Rattle.covtable.proofs.Contents.{content-append}
use Rattle.covlaws.proofs.SameContentAsRows.{stands_for_rows}

-- ---- rows whose checksums are among those of others

abbrev AreAmong : List Row → List Row → Type 0
AreAmong rows others = (c : Checksum) → In c (checksums_in rows) → In c (checksums_in others)

agree_among : (rows others : List Row) → AreAmong rows others → Agree (checksums_in others) → Agree (checksums_in rows)
agree_among rows others among agree a b i j = agree a b (there a (In-from (checksums_in rows) a i)) (there b (In-from (checksums_in rows) b j))
  where
    there : (c : Checksum) → In c (checksums_in rows) → Contains (checksums_in others) c
    there c k = Contains-from (checksums_in others) c (among c k)

checksums_joined : (rows others : List Row) → checksums_in (rows ++ others) ≡ checksums_in rows ++ checksums_in others
checksums_joined rows others = flat_map-append checksum_of_row rows others

among_front : (rows others : List Row) → AreAmong rows (rows ++ others)
among_front rows others c i = subst (In c) (sym (checksums_joined rows others)) (In-joined (checksums_in rows) (checksums_in others) c (inl i))

among_back : (rows others : List Row) → AreAmong others (rows ++ others)
among_back rows others c i = subst (In c) (sym (checksums_joined rows others)) (In-joined (checksums_in rows) (checksums_in others) c (inr i))

-- if the checksums of two lists of rows are among those of the whole, so are those of the joined list
among_both : (rows others whole : List Row) → AreAmong rows whole → AreAmong others whole → AreAmong (rows ++ others) whole
among_both rows others whole left right c i =
    ⊎_elim (left c) (right c) (In-parts (checksums_in rows) (checksums_in others) c (subst (In c) (checksums_joined rows others) i))

-- rows that are printed and read back have no checksums but those that they had
among_shown : (rows : List Row) → AreAmong (rows_of (submission_shown (content_of rows))) rows
among_shown rows c i =
    let given = checksums_in (rows_of (submission_shown (content_of rows))) in
    In-from (checksums_in rows) c (checksums_shown rows c (Contains-from given c i))

-- ---- the rows of submissions

abbrev pub rows_in : List SubmissionData → List Row
rows_in submissions = flat_map rows_of submissions

lawful_all : (submissions : List SubmissionData) → AllByRecursion IsLawful submissions → AllByRecursion IsLawfulRow (rows_in submissions)
lawful_all [] lawful = tt
lawful_all (s ∷ submissions) lawful = All-joined IsLawfulRow (rows_of s) (rows_in submissions) (lawful_rows s lawful.0) (lawful_all submissions lawful.1)

pub rows_in_joined : (some others : List SubmissionData) → rows_in (some ++ others) ≡ rows_in some ++ rows_in others
rows_in_joined some others = flat_map-append rows_of some others

-- if submissions agree, the first of them agree without the rest
agree_front : (some others : List SubmissionData) → AreAgreeing (some ++ others) → AreAgreeing some
agree_front some others agree =
    agree_among (rows_in some) (rows_in some ++ rows_in others) (among_front (rows_in some) (rows_in others))
    (subst (λ (rows : List Row). Agree (checksums_in rows)) (rows_in_joined some others) agree)

agree_back : (some others : List SubmissionData) → AreAgreeing (some ++ others) → AreAgreeing others
agree_back some others agree =
    agree_among (rows_in others) (rows_in some ++ rows_in others) (among_back (rows_in some) (rows_in others))
    (subst (λ (rows : List Row). Agree (checksums_in rows)) (rows_in_joined some others) agree)

-- all submissions of the parts
abbrev pub all_in : List (List SubmissionData) → List SubmissionData
all_in parts = flat_map (λ part. part) parts

-- ---- what a part's report is read as

abbrev shown_of : List SubmissionData → SubmissionData
shown_of part = submission_shown (content_of (rows_in part))

-- the rows of all submissions that the parts' reports are read as
abbrev rows_shown : List (List SubmissionData) → List Row
rows_shown parts = rows_in (map shown_of parts)

-- the checksums of these rows are among those of the parts' submissions
shown_among : (parts : List (List SubmissionData)) → AreAmong (rows_shown parts) (rows_in (all_in parts))
shown_among [] = λ c i. absurd i
shown_among (part ∷ parts) =
    subst (AreAmong (rows_shown (part ∷ parts))) (sym (rows_in_joined part (all_in parts)))
    (among_both (rows_of (shown_of part)) (rows_shown parts) (rows_in part ++ rows_in (all_in parts))
    (λ c i. among_front (rows_in part) (rows_in (all_in parts)) c (among_shown (rows_in part) c i))
    (λ c i. among_back (rows_in part) (rows_in (all_in parts)) c (shown_among parts c i)))

-- so these checksums agree with those of other submissions, if those of the parts do
agree_beside : (parts : List (List SubmissionData)) (others : List SubmissionData) → AreAgreeing (all_in parts ++ others) → AreAgreeing (map shown_of parts ++ others)
agree_beside parts others agree =
    let whole = rows_in (all_in parts) ++ rows_in others in
    subst (λ (rows : List Row). Agree (checksums_in rows)) (sym (rows_in_joined (map shown_of parts) others))
    (agree_among (rows_shown parts ++ rows_in others) whole
    (among_both (rows_shown parts) (rows_in others) whole
    (λ c i. among_front (rows_in (all_in parts)) (rows_in others) c (shown_among parts c i))
    (among_back (rows_in (all_in parts)) (rows_in others)))
    (subst (λ (rows : List Row). Agree (checksums_in rows)) (rows_in_joined (all_in parts) others) agree))

-- ---- the content of what the parts' reports are read as

abbrev SameInAnyOrder : Type 0
SameInAnyOrder = (rows others : List Row) → IsPermutation rows others → Agree (checksums_in rows) → content_of rows ≡ content_of others

module _ (order : SameInAnyOrder) where
  swapped : (rows others : List Row) → Agree (checksums_in (rows ++ others)) → content_of (rows ++ others) ≡ content_of (others ++ rows)
  swapped rows others agree = order (rows ++ others) (others ++ rows) (IsPermutation-append_comm rows others) agree

  -- if two lists of rows have the same content, they still do after the same other rows
  content_after : (front rows others : List Row) → Agree (checksums_in (front ++ others)) → AreAmong rows others → content_of rows ≡ content_of others
      → content_of (front ++ rows) ≡ content_of (front ++ others)
  content_after front rows others agree among same =
      swapped front rows (agree_among (front ++ rows) (front ++ others)
      (among_both front rows (front ++ others) (among_front front others) (λ c i. among_back front others c (among c i))) agree)
      ∙ content-append rows others front same
      ∙ swapped others front (agree_among (others ++ front) (front ++ others)
      (among_both others front (front ++ others) (among_back front others) (among_front front others)) agree)

  content_of_parts : (parts : List (List SubmissionData)) → AreAgreeing (all_in parts) → content_of (rows_shown parts) ≡ content_of (rows_in (all_in parts))
  content_of_parts [] agree = refl
  content_of_parts (part ∷ parts) agree =
      stands_for_rows (rows_in part) (rows_shown parts)
      ∙ content_after (rows_in part) (rows_shown parts) (rows_in (all_in parts))
      (subst (λ (rows : List Row). Agree (checksums_in rows)) (rows_in_joined part (all_in parts)) agree)
      (shown_among parts) (content_of_parts parts (agree_back part (all_in parts) agree))
      ∙ ap content_of (sym (rows_in_joined part (all_in parts)))

  -- the parts' reports, read back, have the content of the parts, also when other submissions follow
  content_beside : (parts : List (List SubmissionData)) (others : List SubmissionData) → AreAgreeing (all_in parts) → content_of (rows_in (map shown_of parts ++ others)) ≡ content_of (rows_in (all_in parts ++ others))
  content_beside parts others agree =
      ap content_of (rows_in_joined (map shown_of parts) others)
      ∙ content-append (rows_shown parts) (rows_in (all_in parts)) (rows_in others) (content_of_parts parts agree)
      ∙ ap content_of (sym (rows_in_joined (all_in parts) others))

-- ---- a printed text depends only on the table's content

pub text_told : (op : OpData) → IsText op → (some other : Table) → content_at some ≡ content_at other → answer_of some op ≡ answer_of other op
text_told (SubmitOp submission) asks some other same = absurd asks
text_told (DropTestOp test) asks some other same = absurd asks
text_told (RenameOp old new) asks some other same = absurd asks
text_told ReportOp asks some other same = ap (λ (sections : List SectionData). TextAnswer (report_text AllFiles sections)) same
text_told (ExtractOp patterns) asks some other same = ap (λ (sections : List SectionData). TextAnswer (report_text (Extracted patterns) sections)) same
text_told (RemoveOp patterns) asks some other same = ap (λ (sections : List SectionData). TextAnswer (report_text (Removed patterns) sections)) same
text_told SummaryOp asks some other same = ap (λ (sections : List SectionData). TextAnswer (summary_of (totals_of sections))) same

-- ---- the tables

abbrev pub AllAreTaken : Type 0
AllAreTaken = (submissions : List SubmissionData) → AreAgreeing submissions → table_of (map SubmitOp submissions) ≡ map rows_of submissions

abbrev HasOneReading : Type 0
HasOneReading = (text : List ℕ) (some other : SubmissionData) → IsReadAs text some → IsReadAs text other → some ≡ other

module _ (taken : AllAreTaken) where
  pub content_taken : (submissions : List SubmissionData) → AreAgreeing submissions → content_at (table_of (map SubmitOp submissions)) ≡ content_of (rows_in submissions)
  content_taken submissions agree = ap content_at (taken submissions agree) ∙ ap content_of (flat_map-map (λ (rows : List Row). rows) rows_of submissions)

  module _ (spells : PrintedSpells) (one_after_other : OneAfterOther) (one : HasOneReading) where
    -- the text that a merge is read from is the part's content, printed
    printed_is : (part : List SubmissionData) (merge : SubmissionData) → AreAgreeing part → (is : IsMergeOf part merge) → flat_map section_text (content_of (rows_in part)) ≡ is.text
    printed_is part merge agree is = sym (text_of_all (content_of (rows_in part))) ∙ ap (report_text AllFiles) (sym (content_taken part agree)) ∙ same_text _ is.text is.told

    -- the merge of a part is its `shown_of`
    merge_is : (part : List SubmissionData) (merge : SubmissionData) → AllByRecursion IsLawful part → AreAgreeing part → IsMergeOf part merge → merge ≡ shown_of part
    merge_is part merge lawful agree is =
        one is.text merge (shown_of part) is.read
        (is.read.0, text_read spells one_after_other (rows_in part) (lawful_all part lawful) agree is.text (printed_is part merge agree is) is.read.0)

    -- the merge of a part is lawful
    merge_lawful : (part : List SubmissionData) (merge : SubmissionData) → AllByRecursion IsLawful part → AreAgreeing part → IsMergeOf part merge → IsLawful merge
    merge_lawful part merge lawful agree is =
        subst IsLawful (sym (merge_is part merge lawful agree is))
        (shown_is_lawful (content_of (rows_in part)) (printable_content (rows_in part) (lawful_all part lawful) agree)
        (subst (λ (text : List ℕ). length text ≤ max_bytes) (sym (printed_is part merge agree is)) is.read.0))

    merges_are : (parts : List (List SubmissionData)) (merges : List SubmissionData) → AllByRecursion IsLawful (all_in parts) → AreAgreeing (all_in parts) → AreMergesOf parts merges
        → merges ≡ map shown_of parts
    merges_are [] [] lawful agree are = refl
    merges_are [] (merge ∷ merges) lawful agree are = absurd are
    merges_are (part ∷ parts) [] lawful agree are = absurd are
    merges_are (part ∷ parts) (merge ∷ merges) lawful agree are =
        let here : merge ≡ shown_of part = merge_is part merge (All-front IsLawful part (all_in parts) lawful) (agree_front part (all_in parts) agree) are.0 in
        let others : merges ≡ map shown_of parts = merges_are parts merges (All-back IsLawful part (all_in parts) lawful) (agree_back part (all_in parts) agree) are.1 in
        ap (λ (s : SubmissionData). s ∷ merges) here ∙ ap (λ (more : List SubmissionData). shown_of part ∷ more) others

    -- ---- the law

    pub merges_lawful : (parts : List (List SubmissionData)) (merges : List SubmissionData) → AllByRecursion IsLawful (all_in parts) → AreAgreeing (all_in parts) → AreMergesOf parts merges
        → AllByRecursion IsLawful merges
    merges_lawful [] [] lawful agree are = tt
    merges_lawful [] (merge ∷ merges) lawful agree are = absurd are
    merges_lawful (part ∷ parts) [] lawful agree are = absurd are
    merges_lawful (part ∷ parts) (merge ∷ merges) lawful agree are = (
      merge_lawful part merge (All-front IsLawful part (all_in parts) lawful) (agree_front part (all_in parts) agree) are.0,
      merges_lawful parts merges (All-back IsLawful part (all_in parts) lawful) (agree_back part (all_in parts) agree) are.1,
    )

    module _ (order : SameInAnyOrder) (parts : List (List SubmissionData)) (others : List SubmissionData) (agree : AreAgreeing (all_in parts ++ others)) where
      -- followed by the others, these merges agree, and they give the same texts as the submissions of all parts do
      abbrev AreLikeAll : List SubmissionData → Type 0
      AreLikeAll merges =
          AreAgreeing (merges ++ others)
          × ((op : OpData) → IsText op → answer_of (table_of (map SubmitOp (merges ++ others))) op ≡ answer_of (table_of (map SubmitOp (all_in parts ++ others))) op)

      agree_parts : AreAgreeing (all_in parts)
      agree_parts = agree_front (all_in parts) others agree

      shown_like_all : AreLikeAll (map shown_of parts)
      shown_like_all = (
        agree_beside parts others agree,
        λ op asks. text_told op asks (table_of (map SubmitOp (map shown_of parts ++ others))) (table_of (map SubmitOp (all_in parts ++ others)))
            (content_taken (map shown_of parts ++ others) (agree_beside parts others agree)
            ∙ content_beside order parts others agree_parts
            ∙ sym (content_taken (all_in parts ++ others) agree)),
      )

      pub merged_parts : (merges : List SubmissionData) → AllByRecursion IsLawful (all_in parts) → AreMergesOf parts merges → AreLikeAll merges
      merged_parts merges lawful are = subst AreLikeAll (sym (merges_are parts merges lawful agree_parts are)) shown_like_all

-- if a text is read as one submission and as another, the two are equal
pub one_reading : ((text : List ℕ) (x y : Result SubmissionData ReadFault) → IsOutcome text x → IsOutcome text y → x ≡ y)
    → (text : List ℕ) (some other : SubmissionData) → IsReadAs text some → IsReadAs text other → some ≡ other
one_reading one text some other read too = let same : Ok some ≡ Ok other = one text (Ok some) (Ok other) read too in cc
