use Rattle.std.proofs.Common.{◌≡◌, ◌++◌, map, take}
use Rattle.covhtml.specs.PagesView.{test_totals_data}
use Rattle.covhtml.specs.Points.{test_of}
use Rattle.covhtml.specs.PointsView.{section_data}
use Rattle.covhtml.proofs.over_tests.push_tests.Given as goal

abbrev pub invariant-loop-section : goal.invariant-loop-section
invariant-loop-section g l = map test_totals_data l.tests.items ≡ map test_totals_data l.fn.tests.items ++ map test_of (map section_data (take l.section-index l.sections))
