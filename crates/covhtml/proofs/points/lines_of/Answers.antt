use Rattle.std.proofs.Common.{◌++◌, List, map, ap, ◌∙◌}
use Rattle.covtable.specs.ValuesView.{line_data}
use Rattle.covtable.specs.declared.values.LineValue.{LineValue}
use Rattle.covhtml.proofs.Fronts.{collected, collects}
use Rattle.covhtml.proofs.points.lines_of.Goals as goal

pub loop-line-init : goal.loop-line-init
loop-line-init g c =
    ap (λ (xs : List LineValue). map line_data xs ++ g.C.TableSection.lines_left c.into_iter-line-iterator.result) c.new-lines.ensures.items
    ∙ ap g.C.TableSection.lines_left c.into_iter-line-iterator.ensures.into_iter_gives ∙ c.lines-line-items.ensures.value

pub loop-line-preserved : goal.loop-line-preserved
loop-line-preserved g c =
    collects line_data (g.C.TableSection.shown c.args.section.now).lines c.loop-line.lines.items c.push.new.self.items c.in-Some.line _ (g.C.TableSection.lines_left c.next.new.self)
    (c.lines-line-items.ensures.steps.some _ _ _ c.in-Some.ensures.steps) c.loop-line.invariant c.in_ok-push.ensures.items

pub returns : goal.returns
returns g c =
    collected line_data (g.C.TableSection.shown c.args.section.now).lines c.loop-line.lines.items _ (c.lines-line-items.ensures.steps.none _ _ c.in-None.ensures.steps) c.loop-line.invariant
