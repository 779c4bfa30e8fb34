use Rattle.std.proofs.Common.{◌≡◌, ◌++◌, List, length, map}
use Rattle.covhtml.specs.Points.{merged_after}
use Rattle.covhtml.proofs.over_tests.push_up_to.Given as goal

abbrev pub invariant-loop-next : goal.invariant-loop-next
invariant-loop-next g l =
    (more : List g.X.TestedPoint.Value → List g.X.TestedPoint.Value)
    → map g.X.TestedPoint.value l.all.items ++ merged_after g.X.TestedPoint.order g.X.TestedPoint.sum (g.X.TestedPoint.value l.point) more (map g.X.TestedPoint.value l.left)
    ≡ map g.X.TestedPoint.value l.fn.all.items ++ merged_after g.X.TestedPoint.order g.X.TestedPoint.sum (g.X.TestedPoint.value l.point) more (map g.X.TestedPoint.value l.rest)

abbrev pub decreases-loop-next : goal.decreases-loop-next
decreases-loop-next g l = length l.left
