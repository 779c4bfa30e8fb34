use Rattle.std.proofs.Common.{ℕ, Bool, List, [], ◌∷◌, ap, refl, subst, sym, arith}
use Rattle.std.specs.Ordering.{nat_cmp}
use Rattle.covdata.specs.declared.point.BranchPoint.{BranchPoint}
use Rattle.covdata.specs.Points.{line_point}
use Rattle.covdata.specs.Row.{BranchItem}
use Rattle.covdata.specs.Records.{Branch}
use Rattle.covread.specs.declared.trace.points.Hit.{Hit}
use Rattle.covread.specs.TracePoints.{Counts, branch_key, hits_said}
use Rattle.covread.specs.TraceSection.{stored}
use Rattle.covread.specs.TraceTally.{branch_cmp}
use Rattle.covread.proofs.TraceFunctions.{starts_same}
use Rattle.covread.proofs.TraceSection.{items_more, hits_more, hits_same, marks_same, totals_same, few_stored, few_hits, branch_once}
use Rattle.covread.proofs.trace.section.SectionBuilder.take_branch.Goals as goal

pub take-requires : goal.take-requires
take-requires g c =
    let inside = c.requires.0 in
    (hits_said branch_key (stored inside), c.requires.1.branches, omega (arith, c.requires.2, few_hits branch_key branch_once (stored inside), few_stored inside))

pub returns-clause-built : goal.returns-clause-built
returns-clause-built g c = λ inside h.
    let b = c.args.branch in
    let r = Branch b.line b.block b.branch c.args.taken in
    let hit = λ (is_hit : Bool). let one : Hit BranchPoint = record { point = b; is_hit = is_hit } in one ∷ [] in
    record {
      items_are = items_more inside r c.args.sects.now.items _ (BranchItem b.line b.block b.branch c.args.taken) refl h.items_are c.in_ok-push_branch.ensures.ok;
      functions = starts_same c.args.self.now.functions inside r (λ name. refl) h.functions;
      waiting = marks_same inside r _ (λ at. refl) h.waiting;
      lines = subst (λ (seen : List (Hit ℕ)). Counts nat_cmp c.args.self.now.lines seen) (hits_same line_point inside r refl) h.lines;
      branches = subst (λ (seen : List (Hit BranchPoint)). Counts branch_cmp c.take.new.self seen)
          (hits_more branch_key inside r _ (ap hit (sym (c.is_above.ensures b.line b.block b.branch)))) (c.take.ensures (hits_said branch_key (stored inside)) h.branches);
      totals = totals_same inside _ r refl h.totals;
    }
