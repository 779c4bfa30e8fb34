use Rattle.std.proofs.Common.{refl, arith}
use Rattle.covreport.specs.ChoiceView.{choice_data}
use Rattle.covreport.proofs.Texts.{passes_over, prints_one}
use Rattle.covreport.proofs.Room.{room_for_one}
use Rattle.covreport.proofs.tracefile.put_if_chosen.Goals as goal

pub returns-then-not-takes-clause-text : goal.returns-then-not-takes-clause-text
returns-then-not-takes-clause-text g c =
    passes_over (choice_data c.args.choice.now) (g.C.TableSection.shown c.args.section.now) c.file.result.now c.takes.result (g.P.Printer.text c.args.out.now) c.file.ensures c.takes.ensures c.if-not-takes.true

pub put_section-requires : goal.put_section-requires
put_section-requires g c =
    λ k. ((refl, tt), room_for_one (choice_data c.args.choice.now) (g.C.TableSection.shown c.args.section.now) c.file.result.now c.takes.result _ c.file.ensures c.takes.ensures c.if-not-takes.false c.requires)

pub returns-clause-text : goal.returns-clause-text
returns-clause-text g c =
    prints_one (choice_data c.args.choice.now) (g.C.TableSection.shown c.args.section.now) c.file.result.now c.takes.result (g.P.Printer.text c.args.out.now) c.file.ensures c.takes.ensures (g.P.Printer.text c.put_section.new.out) c.if-not-takes.false c.put_section.ensures.text
