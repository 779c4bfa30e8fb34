use Rattle.covreport.specs.ChoiceView.{choice_data}
use Rattle.covcombine.proofs.Endings.{shown_words}
use Rattle.covcombine.proofs.ending.overview_of.Goals as goal

pub returns-in-Summary-Words : goal.returns-in-Summary-Words
returns-in-Summary-Words g c =
    shown_words c.summary_text.result c.args.overview c.args.form (choice_data c.args.choice.now) (g.T.Table.shown c.args.store.now).sections c.chosen_totals.result
    c.in-Summary-Words.is-0 c.in-Summary-Words.is-1 c.chosen_totals.ensures.value c.summary_text.ensures
