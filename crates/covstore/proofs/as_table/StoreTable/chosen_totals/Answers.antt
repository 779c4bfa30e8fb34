use Rattle.std.proofs.Common.{List, refl, sym, ap, ◌∙◌, subst}
use Rattle.covtable.specs.Files.{FileTotalsData}
use Rattle.covtable.specs.Totals.{AreTotals, totals_of}
use Rattle.covtable.specs.TotalsExchanged.{together}
use Rattle.covtable.proofs.TotalsDifferent.{are_totals}
use Rattle.covreport.specs.Choice.{is_chosen}
use Rattle.covreport.specs.ChoiceView.{choice_data}
use Rattle.covreport.specs.Others.{others}
use Rattle.covreport.proofs.ChosenFiles.{all_parted, chosen_of}
use Rattle.covstore.proofs.as_table.StoreTable.chosen_totals.Goals as goal

pub without_others-requires : goal.without_others-requires
without_others-requires g c =
    let chosen = is_chosen (choice_data c.args.choice.now) in
    let sections = c.args.self.now.sections in
    let own = totals_of (chosen_of chosen sections) in
    λ k. ((refl, tt), (own, c.totals.ensures.value ∙ sym (all_parted chosen sections) ∙ ap (λ (files : List FileTotalsData). together own (others chosen files)) (sym c.files.ensures)))

pub returns-clause-value : goal.returns-clause-value
returns-clause-value g c =
    let chosen = is_chosen (choice_data c.args.choice.now) in
    let sections = c.args.self.now.sections in
    let own = totals_of (chosen_of chosen sections) in
    c.without_others.ensures own (c.totals.ensures.value ∙ sym (all_parted chosen sections) ∙ ap (λ (files : List FileTotalsData). together own (others chosen files)) (sym c.files.ensures))

pub returns-clause-bounds : goal.returns-clause-bounds
returns-clause-bounds g c =
    let chosen = is_chosen (choice_data c.args.choice.now) in
    let sections = c.args.self.now.sections in
    let own = totals_of (chosen_of chosen sections) in
    let is = c.without_others.ensures own (c.totals.ensures.value ∙ sym (all_parted chosen sections) ∙ ap (λ (files : List FileTotalsData). together own (others chosen files)) (sym c.files.ensures)) in
    subst AreTotals (sym is) (are_totals (chosen_of chosen sections))
