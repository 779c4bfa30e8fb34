use Rattle.std.proofs.Common.{List, ◌≤◌, refl, sym, subst}
use Rattle.std.specs.Prelude.{vec_capacity}
use Rattle.covtable.specs.Content.{SectionData}
use Rattle.covreport.specs.ChoiceView.{choice_data}
use Rattle.covreport.specs.Put.{HasPut}
use Rattle.covreport.specs.Report.{report_text}
use Rattle.covreport.specs.Room.{most_functions}
use Rattle.covstore.proofs.as_table.StoreTable.put_sections.Goals as goal

pub put_sections-requires : goal.put_sections-requires
put_sections-requires g c = λ k. ((refl, tt), subst (λ (sections : List SectionData). most_functions (choice_data c.args.choice.now) sections ≤ vec_capacity c.args.functions.now) (sym c.sections.ensures) c.requires)

pub returns : goal.returns
returns g c =
    subst (λ (sections : List SectionData). HasPut g.P.Printer.text g.P.Printer.is_open c.args.out.now c.put_sections.new.out (report_text (choice_data c.args.choice.now) sections)) c.sections.ensures c.put_sections.ensures
