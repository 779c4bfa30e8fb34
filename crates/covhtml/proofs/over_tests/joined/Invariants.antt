use Rattle.std.proofs.Common.{◌≡◌, length, map}
use Rattle.covhtml.specs.Points.{points_of}
use Rattle.covhtml.specs.PointsView.{points_data, section_data}
use Rattle.covhtml.proofs.Merged.{points_onto}
use Rattle.covhtml.proofs.over_tests.joined.Given as goal

abbrev pub invariant-loop-section : goal.invariant-loop-section
invariant-loop-section g l = points_of (map section_data l.fn.sections.items) ≡ points_onto (map section_data l.left.items) (points_data l.all)

abbrev pub decreases-loop-section : goal.decreases-loop-section
decreases-loop-section g l = length l.left.items
