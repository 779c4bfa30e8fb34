use Rattle.std.proofs.Common.{ap, ◌∙◌}
use Rattle.covtable.specs.Shown.{ShownData}
use Rattle.covreport.specs.ChoiceView.{choice_data}
use Rattle.covcommand.specs.declared.asked.TotalsForm.TheVariants as forms
use Rattle.covrun.proofs.Endings.{list_is_asked, text_then}
use Rattle.covrun.proofs.question.list_text.Goals as goal

pub returns-in-Words : goal.returns-in-Words
returns-in-Words g c =
    let held = c.store-store.ensures in
    rw c.in-Words.is
    (text_then c.list_table.result _ _ c.list_table.ensures
    (list_is_asked c.args.collected.now.book.entries forms.Words (choice_data c.args.choice.now) _ (ap (λ (s : ShownData). s.sections) held.store ∙ held.stands.content)))

pub returns-in-Json : goal.returns-in-Json
returns-in-Json g c =
    let held = c.store-store.ensures in
    rw c.in-Json.is
    (text_then c.list_json.result _ _ c.list_json.ensures
    (list_is_asked c.args.collected.now.book.entries forms.Json (choice_data c.args.choice.now) _ (ap (λ (s : ShownData). s.sections) held.store ∙ held.stands.content)))
