use Rattle.std.proofs.Common.{◌++◌, map, ap, ◌∙◌}
use Rattle.std.proofs.lemmas.List.{take_all}
use Rattle.covhtml.specs.PagesView.{test_totals_data}
use Rattle.covhtml.specs.Points.{test_of}
use Rattle.covhtml.specs.PointsView.{section_data}
use Rattle.covhtml.proofs.over_tests.push_tests.Goals as goal

pub returns : goal.returns
returns g c =
    c.loop-section.invariant
    ∙ ap (λ sections. map test_totals_data c.args.tests.now.items ++ map test_of (map section_data sections)) (take_all c.loop-section.section-index c.args.sections.now c.loop-section-test.false)
