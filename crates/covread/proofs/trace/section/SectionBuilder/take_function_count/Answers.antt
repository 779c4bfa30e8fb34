use Rattle.std.proofs.Common.{ℕ, List, length, map, refl, ap, subst, ◌∙◌}
use Rattle.std.specs.Ordering.{nat_cmp}
use Rattle.std.proofs.lemmas.List.{map_push}
use Rattle.covdata.specs.declared.point.BranchPoint.{BranchPoint}
use Rattle.covdata.specs.Points.{line_point}
use Rattle.covdata.specs.Row.{FuncItem}
use Rattle.covdata.specs.Records.{FuncCount}
use Rattle.covread.proofs.OnOk.{on_ok_then}
use Rattle.covread.specs.declared.trace.points.Hit.{Hit}
use Rattle.covread.specs.TracePoints.{Counts, branch_key}
use Rattle.covread.specs.TraceSection.{mark}
use Rattle.covread.specs.TraceTally.{branch_cmp}
use Rattle.covread.proofs.TraceFunctions.{starts_same}
use Rattle.covread.proofs.TraceSection.{items_more, hits_same, marks_more, totals_same}
use Rattle.covread.proofs.trace.section.SectionBuilder.take_function_count.Goals as goal

pub returns-clause-built : goal.returns-clause-built
returns-clause-built g c =
    let r = FuncCount c.args.count c.args.name.now in
    on_ok_then c.push_function.result (λ pushed. λ inside h. record {
      items_are = items_more inside r c.args.sects.now.items _ (FuncItem c.args.name.now 0 c.args.count) refl h.items_are pushed;
      functions = starts_same c.args.self.now.functions inside r (λ name. refl) h.functions;
      waiting = marks_more inside r c.open_len.result (map mark c.args.self.now.waiting.items) _ (c.open_len.ensures ∙ ap length h.items_are) h.waiting (ap (map mark) c.in_ok-push.ensures.items ∙ map_push mark c.args.self.now.waiting.items _);
      lines = subst (λ (seen : List (Hit ℕ)). Counts nat_cmp c.args.self.now.lines seen) (hits_same line_point inside r refl) h.lines;
      branches = subst (λ (seen : List (Hit BranchPoint)). Counts branch_cmp c.args.self.now.branches seen) (hits_same branch_key inside r refl) h.branches;
      totals = totals_same inside _ r refl h.totals;
    }) c.push_function.ensures.ok
