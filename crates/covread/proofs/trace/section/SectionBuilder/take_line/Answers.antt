use Rattle.std.proofs.Common.{ℕ, List, refl, subst, arith}
use Rattle.std.specs.Prelude.{option_map}
use Rattle.std.specs.Ordering.{nat_cmp}
use Rattle.covdata.specs.declared.point.BranchPoint.{BranchPoint}
use Rattle.covdata.specs.Points.{line_point}
use Rattle.covdata.specs.Row.{LineItem}
use Rattle.covdata.specs.Records.{Line}
use Rattle.covread.specs.declared.trace.points.Hit.{Hit}
use Rattle.covread.specs.TracePoints.{Counts, branch_key, hits_said}
use Rattle.covread.specs.TraceSection.{stored}
use Rattle.covread.specs.TraceTally.{branch_cmp}
use Rattle.covread.proofs.TraceFunctions.{starts_same}
use Rattle.covread.proofs.TraceSection.{items_more, hits_more, hits_same, marks_same, totals_same, few_stored, few_hits, line_once}
use Rattle.covread.proofs.trace.section.SectionBuilder.take_line.Goals as goal

pub take-requires : goal.take-requires
take-requires g c =
    let inside = c.requires.0 in
    (hits_said line_point (stored inside), c.requires.1.lines, omega (arith, c.requires.2, few_hits line_point line_once (stored inside), few_stored inside))

pub returns-clause-built : goal.returns-clause-built
returns-clause-built g c = λ inside h.
    let checksum = option_map (λ t. t.now) c.args.checksum in
    let r = Line c.args.line c.args.count checksum in
    record {
      items_are = items_more inside r c.args.sects.now.items _ (LineItem c.args.line c.args.count checksum) refl h.items_are c.in_ok-push_line.ensures.ok;
      functions = starts_same c.args.self.now.functions inside r (λ name. refl) h.functions;
      waiting = marks_same inside r _ (λ at. refl) h.waiting;
      lines = subst (λ (seen : List (Hit ℕ)). Counts nat_cmp c.take.new.self seen) (hits_more line_point inside r _ refl) (c.take.ensures (hits_said line_point (stored inside)) h.lines);
      branches = subst (λ (seen : List (Hit BranchPoint)). Counts branch_cmp c.args.self.now.branches seen) (hits_same branch_key inside r refl) h.branches;
      totals = totals_same inside _ r refl h.totals;
    }
