use Rattle.covcombine.proofs.report.print_tracefile.Goals as goal

pub returns : goal.returns
returns g c = rw (← c.cut.ensures, ← c.get.ensures, ← c.get-2.ensures) c.print.ensures
