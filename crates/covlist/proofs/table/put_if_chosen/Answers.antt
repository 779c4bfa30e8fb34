use Rattle.std.proofs.Common.{◌≡◌, ◌++◌, List, ℕ, OnOk, subst}
use Rattle.covtable.specs.ValuesView.{file_totals_data}
use Rattle.covreport.specs.ChoiceView.{choice_data}
use Rattle.covlist.specs.Table.{file_row}
use Rattle.covlist.proofs.Files.{chosen_alone, passed_over}
use Rattle.covlist.proofs.table.put_if_chosen.Goals as goal

pub returns-then-not-takes : goal.returns-then-not-takes
returns-then-not-takes g c =
    passed_over (choice_data c.args.choice.now) (file_row c.args.all.now) (file_totals_data c.args.file) c.takes.result c.takes.ensures c.if-not-takes.true c.args.text.now

pub returns : goal.returns
returns g c =
    subst (λ (t : List ℕ). OnOk c.put_row.result (c.put_row.new.text ≡ c.args.text.now ++ t))
    (chosen_alone (choice_data c.args.choice.now) (file_row c.args.all.now) (file_totals_data c.args.file) c.takes.result c.takes.ensures c.if-not-takes.false) c.put_row.ensures
