use Rattle.std.proofs.Common.{◌≡◌, ◌++◌, map}
use Rattle.covtable.specs.ValuesView.{line_data}
use Rattle.covhtml.proofs.points.lines_of.Given as goal

abbrev pub invariant-loop-line : goal.invariant-loop-line
invariant-loop-line g l = map line_data l.lines.items ++ g.C.TableSection.lines_left l.line-iterator ≡ (g.C.TableSection.shown l.fn.section).lines
