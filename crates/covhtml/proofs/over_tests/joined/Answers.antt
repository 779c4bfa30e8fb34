use Rattle.std.proofs.Common.{◌≡◌, List, length, map, sym, ap, ◌∙◌, arith}
use Rattle.covtable.specs.Content.{SectionData}
use Rattle.covhtml.specs.Points.{points_of}
use Rattle.covhtml.specs.PointsView.{points_data, section_data}
use Rattle.covhtml.proofs.Fronts.{pushed}
use Rattle.covhtml.proofs.LaterRows.{none_seen}
use Rattle.covhtml.proofs.Merged.{of_last, onto_last, points_onto}
use Rattle.covhtml.proofs.over_tests.joined.Goals as goal

pub returns-in_default : goal.returns-in_default
returns-in_default g c =
    let none : length c.args.sections.items ≡ 0 = omega (arith, c.in_default.ensures.cases.0) in
    c.none.ensures ∙ ap points_of (sym (none_seen section_data c.args.sections.items none))

pub loop-section-init : goal.loop-section-init
loop-section-init g c =
    ap points_of (pushed section_data c.pop.new.self.items c.args.sections.items c.in-Some.last c.in-Some.ensures.items)
    ∙ of_last (map section_data c.pop.new.self.items) (section_data c.in-Some.last)

pub loop-section-preserved : goal.loop-section-preserved
loop-section-preserved g c =
    let before = c.pop-in-loop-section.new.self.items in
    let section = c.in-Some-pop.section in
    c.loop-section.invariant
    ∙ ap (λ (sections : List SectionData). points_onto sections (points_data c.loop-section.all)) (pushed section_data before c.loop-section.left.items section c.in-Some-pop.ensures.items)
    ∙ onto_last (map section_data before) (section_data section) (points_data c.loop-section.all)
    ∙ ap (points_onto (map section_data before)) (sym c.in_ok-all.ensures)

pub returns : goal.returns
returns g c =
    let none : length c.loop-section.left.items ≡ 0 = omega (arith, c.in_default-pop.ensures.cases.0) in
    sym (c.loop-section.invariant
    ∙ ap (λ (sections : List SectionData). points_onto sections (points_data c.loop-section.all)) (none_seen section_data c.loop-section.left.items none))
