use Rattle.std.proofs.Common.{List, ap, ◌∙◌}
use Rattle.covtable.specs.Content.{SectionData}
use Rattle.covreport.specs.ChoiceView.{choice_data}
use Rattle.covreport.specs.Room.{most_functions}
use Rattle.covstore.proofs.as_table.StoreTable.most_functions.Goals as goal

pub returns : goal.returns
returns g c = c.most_functions_in.ensures ∙ ap (λ (sections : List SectionData). most_functions (choice_data c.args.choice.now) sections) c.sections.ensures
