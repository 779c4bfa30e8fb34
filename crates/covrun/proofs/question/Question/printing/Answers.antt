use Rattle.std.proofs.Common.{ap, ◌∙◌}
use Rattle.covtable.specs.Shown.{ShownData}
use Rattle.covreport.specs.Choice.{ChoiceData}
use Rattle.covreport.specs.ChoiceView.{choice_data}
use Rattle.covreport.specs.Report.{report_text}
use Rattle.covrun.proofs.Endings.{report_is_asked, text_then, totals_are_asked}
use Rattle.covrun.specs.Ending.{totals_text}
use Rattle.covrun.proofs.question.Question.printing.Goals as goal

pub returns-in_ok-copy-in-ChosenReport : goal.returns-in_ok-copy-in-ChosenReport
returns-in_ok-copy-in-ChosenReport g c =
    let entries = c.args.collected.now.book.entries in
    let held = c.store.ensures in
    rw c.in-ChosenReport.is
    (text_then c.of_store.result (report_text (choice_data c.in_ok-copy-in-ChosenReport.field-0) (g.T.Table.shown c.store.result.now).sections) _ c.of_store.ensures.text
    (ap (λ (choice : ChoiceData). report_text choice (g.T.Table.shown c.store.result.now).sections) c.in_ok-copy-in-ChosenReport.ensures
    ∙ report_is_asked entries (choice_data c.in-ChosenReport.choice) _ (ap (λ (s : ShownData). s.sections) held.store ∙ held.stands.content)))

pub returns-in_ok-text-in-ChosenTotals : goal.returns-in_ok-text-in-ChosenTotals
returns-in_ok-text-in-ChosenTotals g c =
    let entries = c.args.collected.now.book.entries in
    let held = c.store-in-ChosenTotals.ensures in
    rw c.in-ChosenTotals.is
    (c.of_text.ensures ∙ c.in_ok-text-in-ChosenTotals.ensures ∙ ap (totals_text c.in-ChosenTotals.form) (c.chosen_totals-totals.ensures.value
    ∙ totals_are_asked entries (choice_data c.in-ChosenTotals.choice) _ (ap (λ (s : ShownData). s.sections) held.store ∙ held.stands.content)))

pub returns-in_ok-text-in-ChosenList : goal.returns-in_ok-text-in-ChosenList
returns-in_ok-text-in-ChosenList g c =
    rw c.in-ChosenList.is (c.of_text-in-ChosenList.ensures ∙ c.in_ok-text-in-ChosenList.ensures)
