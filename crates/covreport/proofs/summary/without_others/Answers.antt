use Rattle.covtable.specs.ValuesView.{file_totals_data}
use Rattle.covreport.specs.Choice.{is_chosen}
use Rattle.covreport.specs.ChoiceView.{choice_data}
use Rattle.covreport.proofs.ChosenFiles.{chosen_stays, none_left, other_goes, other_is_among}
use Rattle.covreport.proofs.summary.without_others.Goals as goal

pub loop-file-init : goal.loop-file-init
loop-file-init g c = λ own is. is

pub without-totals-requires : goal.without-totals-requires
without-totals-requires g c =
    other_is_among (is_chosen (choice_data c.args.choice.now)) c.requires.0 c.loop-file.totals _ (g.I.TableFiles.left c.next_file.new.self) (file_totals_data c.in-Some.file) c.takes.result
    c.in-Some.ensures (c.loop-file.invariant c.requires.0 c.requires.1) c.takes.ensures c.if-not-takes.true

pub loop-file-preserved-then-not-takes : goal.loop-file-preserved-then-not-takes
loop-file-preserved-then-not-takes g c = λ own is.
    other_goes (is_chosen (choice_data c.args.choice.now)) own c.loop-file.totals _ (g.I.TableFiles.left c.next_file.new.self) (file_totals_data c.in-Some.file) c.takes.result
    c.in-Some.ensures (c.loop-file.invariant own is) c.takes.ensures c.if-not-takes.true c.without-totals.result c.without-totals.ensures

pub loop-file-preserved : goal.loop-file-preserved
loop-file-preserved g c = λ own is.
    chosen_stays (is_chosen (choice_data c.args.choice.now)) own c.loop-file.totals _ (g.I.TableFiles.left c.next_file.new.self) (file_totals_data c.in-Some.file) c.takes.result
    c.in-Some.ensures (c.loop-file.invariant own is) c.takes.ensures c.if-not-takes.false

pub returns : goal.returns
returns g c = λ own is.
    none_left (is_chosen (choice_data c.args.choice.now)) own c.loop-file.totals _ c.in_default.ensures.0 (c.loop-file.invariant own is)
