use Rattle.std.proofs.Common.{List, map, subst, ◌∙◌}
use Rattle.std.specs.Ordering.{nat_cmp}
use Rattle.covdata.specs.Points.{line_point}
use Rattle.covdata.specs.Row.{ItemData}
use Rattle.covread.specs.TracePoints.{AreTotals, branch_key}
use Rattle.covread.specs.TraceTally.{AreOwn, branch_cmp, stated_record}
use Rattle.covread.specs.declared.trace.tally.OwnTotals.{OwnTotals}
use Rattle.covread.specs.declared.trace.tally.PointKind.TheVariants.{Branches, Lines}
use Rattle.covread.proofs.TraceTally.{stated_is, odd_totals_are}
use Rattle.covread.proofs.trace.tally.odd_totals.Goals as goal

pub returns : goal.returns
returns g c = λ inside h.
    let totals = map stated_record c.args.totals.now in
    let own : OwnTotals = record { functions = c.args.has.functions; branches = c.in_ok-stated_totals.field-0; lines = c.in_ok-stated_totals-2.field-0 } in
    let are : AreOwn own inside = record {
      functions = h.functions;
      branches = λ e. subst (λ (items : List ItemData). AreTotals branch_cmp branch_key own.branches items) h.items (c.in_ok-stated_totals.ensures (stated_is Branches totals inside h.totals ∙ e));
      lines = λ e. subst (λ (items : List ItemData). AreTotals nat_cmp line_point own.lines items) h.items (c.in_ok-stated_totals-2.ensures (stated_is Lines totals inside h.totals ∙ e));
    } in
    odd_totals_are own totals inside c.count_odd.result h.totals are c.count_odd.ensures
