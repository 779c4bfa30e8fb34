use Rattle.std.proofs.Common.{refl, ◌++◌, length, ap, ap₂, ◌∙◌, arith}
use Rattle.std.specs.List.{flat_map}
use Rattle.covdata.specs.Printed.{printed}
use Rattle.covdata.specs.declared.trace_line.TotalKind.TheVariants.{BranchFound, BranchHit}
use Rattle.covreport.specs.Report.{branch_record, branches_hit, totals_if_any}
use Rattle.covtable.specs.Content.{BranchValueData}
use Rattle.covtable.specs.Value.{is_taken}
use Rattle.covtable.specs.ValuesView.{branch_data}
use Rattle.covreport.proofs.Texts.{printed_none, printed_more, printed_all, count_fits, with_tail}
use Rattle.covreport.proofs.tracefile.branches.put_branches.Goals as goal

pub loop-branch-init : goal.loop-branch-init
loop-branch-init g c =
    printed_none (λ (v : BranchValueData). printed (branch_record v)) (λ (v : BranchValueData). is_taken v.taken) (g.C.TableSection.shown c.args.section.now).branches (g.P.Printer.text c.args.out.now) _ _ _
    (ap g.C.TableSection.branches_left c.into_iter-branch-iterator.ensures.into_iter_gives ∙ c.branches-branch-items.ensures.value) refl refl

pub and-tally-requires : goal.and-tally-requires
and-tally-requires g c =
    count_fits (λ (v : BranchValueData). printed (branch_record v)) (λ (v : BranchValueData). is_taken v.taken) (g.C.TableSection.shown c.args.section.now).branches (g.P.Printer.text c.args.out.now) (branch_data c.in-Some.branch) _ _ (g.P.Printer.text c.loop-branch.out) c.loop-branch.tally.0 c.loop-branch.tally.1.0
    (omega (arith, ap length c.branches-branch-items.ensures.value, c.branches-branch-items.ensures.few)) (c.branches-branch-items.ensures.steps.some _ _ _ c.in-Some.ensures.steps) c.loop-branch.invariant

pub loop-branch-preserved : goal.loop-branch-preserved
loop-branch-preserved g c =
    printed_more (λ (v : BranchValueData). printed (branch_record v)) (λ (v : BranchValueData). is_taken v.taken) (g.C.TableSection.shown c.args.section.now).branches (g.P.Printer.text c.args.out.now) (branch_data c.in-Some.branch) _ _ _ (g.P.Printer.text c.loop-branch.out) (g.P.Printer.text c.put_branch.new.out) _ _ _ _
    (c.branches-branch-items.ensures.steps.some _ _ _ c.in-Some.ensures.steps) c.loop-branch.invariant c.put_branch.ensures c.is_taken.ensures c.and-tally.ensures.found c.and-tally.ensures.hit

pub returns : goal.returns
returns g c =
    let all = printed_all (λ (v : BranchValueData). printed (branch_record v)) (λ (v : BranchValueData). is_taken v.taken) (g.C.TableSection.shown c.args.section.now).branches (g.P.Printer.text c.args.out.now) _ (g.P.Printer.text c.loop-branch.out) c.loop-branch.tally.0 c.loop-branch.tally.1.0
    (c.branches-branch-items.ensures.steps.none _ _ c.in-None.ensures.steps) c.loop-branch.invariant in
    with_tail branch_record (g.C.TableSection.shown c.args.section.now).branches (totals_if_any BranchFound BranchHit _ (branches_hit (g.C.TableSection.shown c.args.section.now).branches)) (g.P.Printer.text c.args.out.now) (g.P.Printer.text c.loop-branch.out) (g.P.Printer.text c.put_totals_if_any.new.out) all.0
    (c.put_totals_if_any.ensures ∙ ap₂ (λ found hit. (g.P.Printer.text c.loop-branch.out) ++ flat_map printed (totals_if_any BranchFound BranchHit found hit)) all.1 all.2)
