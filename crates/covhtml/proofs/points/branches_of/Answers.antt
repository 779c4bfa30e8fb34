use Rattle.std.proofs.Common.{◌++◌, List, map, ap, ◌∙◌}
use Rattle.covtable.specs.ValuesView.{branch_data}
use Rattle.covtable.specs.declared.values.BranchValue.{BranchValue}
use Rattle.covhtml.proofs.Fronts.{collected, collects}
use Rattle.covhtml.proofs.points.branches_of.Goals as goal

pub loop-branch-init : goal.loop-branch-init
loop-branch-init g c =
    ap (λ (xs : List BranchValue). map branch_data xs ++ g.C.TableSection.branches_left c.into_iter-branch-iterator.result) c.new-branches.ensures.items
    ∙ ap g.C.TableSection.branches_left c.into_iter-branch-iterator.ensures.into_iter_gives ∙ c.branches-branch-items.ensures.value

pub loop-branch-preserved : goal.loop-branch-preserved
loop-branch-preserved g c =
    collects branch_data (g.C.TableSection.shown c.args.section.now).branches c.loop-branch.branches.items c.push.new.self.items c.in-Some.branch _ (g.C.TableSection.branches_left c.next.new.self)
    (c.branches-branch-items.ensures.steps.some _ _ _ c.in-Some.ensures.steps) c.loop-branch.invariant c.in_ok-push.ensures.items

pub returns : goal.returns
returns g c =
    collected branch_data (g.C.TableSection.shown c.args.section.now).branches c.loop-branch.branches.items _ (c.branches-branch-items.ensures.steps.none _ _ c.in-None.ensures.steps) c.loop-branch.invariant
