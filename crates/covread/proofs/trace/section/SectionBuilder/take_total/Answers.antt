use Rattle.std.proofs.Common.{ℕ, ◌++◌, ◌∷◌, [], List, map, refl, sym, ap, subst, ◌∙◌}
use Rattle.std.specs.Ordering.{nat_cmp}
use Rattle.std.proofs.lemmas.List.{map_push}
use Rattle.covdata.specs.declared.point.BranchPoint.{BranchPoint}
use Rattle.covdata.specs.Points.{line_point}
use Rattle.covdata.specs.Records.{LineData}
use Rattle.covread.specs.declared.trace.points.Hit.{Hit}
use Rattle.covread.specs.TracePoints.{Counts, branch_key}
use Rattle.covread.specs.TraceTally.{branch_cmp, stated_record}
use Rattle.covread.proofs.TraceFunctions.{starts_same}
use Rattle.covread.proofs.TraceSection.{items_same, hits_same, marks_same, totals_push}
use Rattle.covread.proofs.trace.section.SectionBuilder.take_total.Goals as goal

pub returns : goal.returns
returns g c = λ items inside h.
    let r = stated_record c.args.stated in
    record {
      items_are = items_same inside r items refl h.items_are;
      functions = starts_same c.args.self.now.functions inside r (λ name. refl) h.functions;
      waiting = marks_same inside r _ (λ at. refl) h.waiting;
      lines = subst (λ (seen : List (Hit ℕ)). Counts nat_cmp c.args.self.now.lines seen) (hits_same line_point inside r refl) h.lines;
      branches = subst (λ (seen : List (Hit BranchPoint)). Counts branch_cmp c.args.self.now.branches seen) (hits_same branch_key inside r refl) h.branches;
      totals = ap (map stated_record) c.in_ok-push.ensures.items ∙ map_push stated_record c.args.self.now.totals.items c.args.stated ∙ ap (λ (x : List LineData). x ++ r ∷ []) h.totals ∙ sym (totals_push inside r);
    }
