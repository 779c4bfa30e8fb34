-- Runs of submissions whose checksums agree: none clashes, the table has the rows of each, and the texts don't depend on their
-- order.
use Rattle.std.proofs.Common.{◌≡◌, ℕ, ◌+◌, List, [], ◌∷◌, ◌++◌, length, map, refl, sym, ap, ◌∙◌, subst, append_assoc}
use Rattle.std.specs.Prelude.{◌↔◌, None, Contains}
use Rattle.std.specs.List.{AllByRecursion, flat_map}
use Rattle.std.specs.List.Sorted.{IsPermutation}
use Rattle.std.proofs.lemmas.List.{append-nil, map-append}
use Rattle.std.proofs.lemmas.List.Concat.{flat_map-append}
use Rattle.std.proofs.lemmas.List.Elements.{All-contains, All-from_recursion, Contains-append_left}
use Rattle.std.proofs.lemmas.List.Sorted.{IsPermutation-map}
use Rattle.covdata.specs.Row.{SubmissionData, Row, rows_of, items_in}
use Rattle.covtable.specs.Clash.{Checksum, ClashData, Agree, checksum_of_row, checksums_in, first_clash}
use Rattle.covtable.specs.Content.{SectionData, content_at}
use Rattle.covtable.specs.Table.{Table, all_rows, clash_at}
use Rattle.covtable.specs.Totals.{totals_of}
use Rattle.covreport.specs.Choice.{AllFiles, Extracted, Removed}
use Rattle.covreport.specs.Report.{report_text}
use Rattle.covreport.specs.Summary.{summary_of}
use Rattle.covbook.specs.Op.{OpData, SubmitOp, ReportOp, ExtractOp, RemoveOp, SummaryOp, AnswerData, AcceptedAnswer, ClashAnswer, TextAnswer}
use Rattle.covbook.specs.Order.{submission_of, submissions_in, AreTheSame, AreAgreeing, SubmitsOrAsks, OnlySubmitsAndAsks}
use Rattle.covbook.specs.Step.{answer_to_submit, answer_of, table_after_submit, table_after, answers_from, answers_to, table_from, table_of}
use Rattle.covbook.specs.Texts.{IsText}

-- what a law of covstore says: if the held checksums agree, nothing clashes exactly if the given ones agree with them too
abbrev pub NoneClashes : Type 0
NoneClashes = (held given : List Checksum) → Agree held → first_clash held given ≡ None ↔ Agree (held ++ given)

-- what a law says of tables with the same members in another order, if their checksums agree: the content is the same
abbrev pub ContentStays : Type 0
ContentStays = (table others : Table) → IsPermutation table others → Agree (checksums_in (all_rows table)) → content_at table ≡ content_at others

-- and the checksums still agree
abbrev pub AgreementStays : Type 0
AgreementStays = (table others : Table) → IsPermutation table others → Agree (checksums_in (all_rows table)) → Agree (checksums_in (all_rows others))

-- ---- the table of submissions, and its checksums

rows_with : (submissions : List SubmissionData) → all_rows (map rows_of submissions) ≡ flat_map rows_of submissions
rows_with [] = refl
rows_with (s ∷ submissions) = ap (λ (rows : List Row). rows_of s ++ rows) (rows_with submissions)

checksums_with : (some others : List SubmissionData) → checksums_in (flat_map rows_of (some ++ others)) ≡ checksums_in (flat_map rows_of some) ++ checksums_in (flat_map rows_of others)
checksums_with some others =
    ap checksums_in (flat_map-append rows_of some others) ∙ flat_map-append checksum_of_row (flat_map rows_of some) (flat_map rows_of others)

agree_front : (held given : List Checksum) → Agree (held ++ given) → Agree held
agree_front held given agree a b i j = agree a b (Contains-append_left held given a i) (Contains-append_left held given b j)

front_agrees : (some others : List SubmissionData) → AreAgreeing (some ++ others) → AreAgreeing some
front_agrees some others agree =
    agree_front (checksums_in (flat_map rows_of some)) (checksums_in (flat_map rows_of others)) (subst Agree (checksums_with some others) agree)

-- ---- one operation

-- a submission that agrees with those before it doesn't clash
no_clash : NoneClashes → (done : List SubmissionData) (s : SubmissionData) → AreAgreeing (done ++ s ∷ []) → clash_at (map rows_of done) s ≡ None
no_clash law done s agree =
    let held = checksums_in (flat_map rows_of done) in
    let given = checksums_in (rows_of s) in
    let own : checksums_in (flat_map rows_of (s ∷ [])) ≡ given = ap checksums_in (append-nil (rows_of s)) in
    let all : checksums_in (flat_map rows_of (done ++ s ∷ [])) ≡ held ++ given = checksums_with done (s ∷ []) ∙ ap (λ (checksums : List Checksum). held ++ checksums) own in
    ap (λ (rows : List Row). first_clash (checksums_in rows) given) (rows_with done)
    ∙ (law held given (front_agrees done (s ∷ []) agree)).1 (subst Agree all agree)

-- a text leaves the table as it is
text_leaves : (table : Table) (op : OpData) → IsText op → table_after table op ≡ table
text_leaves table ReportOp text = refl
text_leaves table (ExtractOp patterns) text = refl
text_leaves table (RemoveOp patterns) text = refl
text_leaves table SummaryOp text = refl
text_leaves table other text = absurd text

table_step : NoneClashes → (done : List SubmissionData) (op : OpData) → SubmitsOrAsks op → AreAgreeing (done ++ submission_of op) → table_after (map rows_of done) op ≡ map rows_of (done ++ submission_of op)
table_step law done (SubmitOp s) is agree =
    ap (table_after_submit (map rows_of done) s) (no_clash law done s agree) ∙ sym (map-append rows_of done (s ∷ []))
table_step law done other is agree = text_leaves (map rows_of done) other is ∙ ap (map rows_of) (sym (append-nil done))

abbrev IsNoClash : AnswerData → Type 0
IsNoClash answer = (clash : ClashData) → answer ≡ ClashAnswer clash → ⊥

accepted_is_none : (number items odd : ℕ) → IsNoClash (AcceptedAnswer number items odd)
accepted_is_none number items odd clash e = cc

text_is_none : (text : List ℕ) → IsNoClash (TextAnswer text)
text_is_none text clash e = cc

text_answered : (table : Table) (op : OpData) → IsText op → (text : List ℕ) × (answer_of table op ≡ TextAnswer text)
text_answered table ReportOp text = (report_text AllFiles (content_at table), refl)
text_answered table (ExtractOp patterns) text = (report_text (Extracted patterns) (content_at table), refl)
text_answered table (RemoveOp patterns) text = (report_text (Removed patterns) (content_at table), refl)
text_answered table SummaryOp text = (summary_of (totals_of (content_at table)), refl)
text_answered table other text = absurd text

text_step : (table : Table) (op : OpData) → IsText op → IsNoClash (answer_of table op)
text_step table op text = let answer = text_answered table op text in subst IsNoClash (sym answer.1) (text_is_none answer.0)

answer_step : NoneClashes → (done : List SubmissionData) (op : OpData) → SubmitsOrAsks op → AreAgreeing (done ++ submission_of op) → IsNoClash (answer_of (map rows_of done) op)
answer_step law done (SubmitOp s) is agree =
    subst IsNoClash (sym (ap (answer_to_submit (map rows_of done) s) (no_clash law done s agree)))
    (accepted_is_none (length (map rows_of done) + 1) (items_in s.sects) s.odd)
answer_step law done other is agree = text_step (map rows_of done) other is

-- ---- a run

-- the submissions so far, with those of the next operation and of the operations after it
module _ (done : List SubmissionData) (op : OpData) (ops : List OpData) (agree : AreAgreeing (done ++ submissions_in (op ∷ ops))) where
  step_joins : (done ++ submission_of op) ++ submissions_in ops ≡ done ++ submissions_in (op ∷ ops)
  step_joins = append_assoc done (submission_of op) (submissions_in ops)

  step_agrees : AreAgreeing ((done ++ submission_of op) ++ submissions_in ops)
  step_agrees = subst AreAgreeing (sym step_joins) agree

table_run : NoneClashes → (done : List SubmissionData) (ops : List OpData) → OnlySubmitsAndAsks ops → AreAgreeing (done ++ submissions_in ops) → table_from (map rows_of done) ops ≡ map rows_of (done ++ submissions_in ops)
table_run law done [] only agree = ap (map rows_of) (sym (append-nil done))
table_run law done (op ∷ ops) only agree =
    let all = step_agrees done op ops agree in
    ap (λ (table : Table). table_from table ops) (table_step law done op only.0 (front_agrees (done ++ submission_of op) (submissions_in ops) all))
    ∙ table_run law (done ++ submission_of op) ops only.1 all
    ∙ ap (map rows_of) (step_joins done op ops agree)

answers_run : NoneClashes → (done : List SubmissionData) (ops : List OpData) → OnlySubmitsAndAsks ops → AreAgreeing (done ++ submissions_in ops) → AllByRecursion IsNoClash (answers_from (map rows_of done) ops)
answers_run law done [] only agree = tt
answers_run law done (op ∷ ops) only agree =
    let all = step_agrees done op ops agree in
    let here = front_agrees (done ++ submission_of op) (submissions_in ops) all in (
      answer_step law done op only.0 here,
      subst (λ (table : Table). AllByRecursion IsNoClash (answers_from table ops)) (sym (table_step law done op only.0 here)) (answers_run law (done ++ submission_of op) ops only.1 all),
    )

pub table_is : NoneClashes → (ops : List OpData) → OnlySubmitsAndAsks ops → AreAgreeing (submissions_in ops) → table_of ops ≡ map rows_of (submissions_in ops)
table_is law ops only agree = table_run law [] ops only agree

pub none_told : NoneClashes → (ops : List OpData) → OnlySubmitsAndAsks ops → AreAgreeing (submissions_in ops) → (clash : ClashData) → Contains (answers_to ops) (ClashAnswer clash) → ⊥
none_told law ops only agree clash told =
    All-contains IsNoClash (answers_to ops) (ClashAnswer clash) (All-from_recursion IsNoClash (answers_to ops) (answers_run law [] ops only agree)) told clash refl

-- ---- texts

same_text : (table others : Table) → content_at table ≡ content_at others → (op : OpData) → IsText op → answer_of table op ≡ answer_of others op
same_text table others same ReportOp text = ap (λ (sections : List SectionData). TextAnswer (report_text AllFiles sections)) same
same_text table others same (ExtractOp patterns) text = ap (λ (sections : List SectionData). TextAnswer (report_text (Extracted patterns) sections)) same
same_text table others same (RemoveOp patterns) text = ap (λ (sections : List SectionData). TextAnswer (report_text (Removed patterns) sections)) same
same_text table others same SummaryOp text = ap (λ (sections : List SectionData). TextAnswer (summary_of (totals_of sections))) same
same_text table others same other text = absurd text

-- checksums that agree still do if the submissions come in another order
pub agreement_stays : AgreementStays → (some others : List SubmissionData) → AreTheSame some others → AreAgreeing some → AreAgreeing others
agreement_stays stays some others same agree =
    let agree_some : Agree (checksums_in (all_rows (map rows_of some))) = subst (λ (rows : List Row). Agree (checksums_in rows)) (sym (rows_with some)) agree in
    subst (λ (rows : List Row). Agree (checksums_in rows)) (rows_with others) (stays (map rows_of some) (map rows_of others) (IsPermutation-map rows_of some others same) agree_some)

module _ (none : NoneClashes) (content : ContentStays) (stays : AgreementStays) where
  pub texts_stay : (some others : List OpData) → OnlySubmitsAndAsks some → OnlySubmitsAndAsks others → AreTheSame (submissions_in some) (submissions_in others) → AreAgreeing (submissions_in some)
      → (op : OpData) → IsText op → answer_of (table_of some) op ≡ answer_of (table_of others) op
  texts_stay some others only only_others same agree op text =
      let left = submissions_in some in
      let right = submissions_in others in
      let permuted = IsPermutation-map rows_of left right same in
      let agree_left : Agree (checksums_in (all_rows (map rows_of left))) = subst (λ (rows : List Row). Agree (checksums_in rows)) (sym (rows_with left)) agree in
      same_text (table_of some) (table_of others)
      (ap content_at (table_is none some only agree)
      ∙ content (map rows_of left) (map rows_of right) permuted agree_left
      ∙ sym (ap content_at (table_is none others only_others (agreement_stays stays left right same agree))))
      op text

-- ---- plain lists of submissions

submitted : (submissions : List SubmissionData) → submissions_in (map SubmitOp submissions) ≡ submissions
submitted [] = refl
submitted (s ∷ submissions) = ap (λ (others : List SubmissionData). s ∷ others) (submitted submissions)

only_submitted : (submissions : List SubmissionData) → OnlySubmitsAndAsks (map SubmitOp submissions)
only_submitted [] = tt
only_submitted (s ∷ submissions) = (tt, only_submitted submissions)

agreeing : (submissions : List SubmissionData) → AreAgreeing submissions → AreAgreeing (submissions_in (map SubmitOp submissions))
agreeing submissions agree = subst AreAgreeing (sym (submitted submissions)) agree

-- none of them clashes, and the table has the rows of each
pub none_told_of : NoneClashes → (submissions : List SubmissionData) → AreAgreeing submissions → (clash : ClashData) → Contains (answers_to (map SubmitOp submissions)) (ClashAnswer clash) → ⊥
none_told_of law submissions agree = none_told law (map SubmitOp submissions) (only_submitted submissions) (agreeing submissions agree)

pub table_with_all : NoneClashes → (submissions : List SubmissionData) → AreAgreeing submissions → table_of (map SubmitOp submissions) ≡ map rows_of submissions
table_with_all law submissions agree =
    table_is law (map SubmitOp submissions) (only_submitted submissions) (agreeing submissions agree) ∙ ap (map rows_of) (submitted submissions)

module _ (none : NoneClashes) (content : ContentStays) (stays : AgreementStays) where
  pub lists_stay : (some others : List SubmissionData) → AreTheSame some others → AreAgreeing some → (op : OpData) → IsText op → answer_of (table_of (map SubmitOp some)) op ≡ answer_of (table_of (map SubmitOp others)) op
  lists_stay some others same agree op text =
      texts_stay none content stays (map SubmitOp some) (map SubmitOp others) (only_submitted some) (only_submitted others)
      (subst (λ (left : List SubmissionData). AreTheSame left (submissions_in (map SubmitOp others))) (sym (submitted some)) (subst (AreTheSame some) (sym (submitted others)) same))
      (subst AreAgreeing (sym (submitted some)) agree) op text
