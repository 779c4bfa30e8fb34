use Rattle.std.proofs.Common.{◌≡◌, length}
use Rattle.covreport.specs.Choice.{is_chosen}
use Rattle.covreport.specs.ChoiceView.{choice_data}
use Rattle.covreport.specs.Others.{others}
use Rattle.covtable.specs.declared.totals.Totals.{Totals}
use Rattle.covtable.specs.TotalsExchanged.{together}
use Rattle.covreport.proofs.summary.without_others.Given as goal

-- the totals so far are those of the chosen files, and of the files that are left and aren't chosen
abbrev pub invariant-loop-file : goal.invariant-loop-file
invariant-loop-file g l =
    let chosen = is_chosen (choice_data l.choice) in
    let left = g.I.TableFiles.left in
    (own : Totals) → l.fn.whole ≡ together own (others chosen (left l.initial.files)) → l.totals ≡ together own (others chosen (left l.files))

abbrev pub decreases-loop-file : goal.decreases-loop-file
decreases-loop-file g l = length (g.I.TableFiles.left l.files)
