use Rattle.std.proofs.Common.{◌≤◌, List, [], ◌∷◌, ◌++◌, length, take, refl, ap, sym, subst, ◌∙◌, arith}
use Rattle.std.specs.Ordering.{bool_cmp, ordering_then}
use Rattle.std.specs.List.Sorted.{IsSorted}
use Rattle.std.proofs.lemmas.List.{take_all, take_more, length-take-le}
use Rattle.covread.specs.declared.trace.points.Hit.{Hit}
use Rattle.covread.specs.TracePoints.{IsAscent, IsTally}
use Rattle.covread.proofs.TracePoints.{goes_on_sorted, tally_moved, last_at_first, last_of}
use Rattle.covread.proofs.trace.points.sorted_totals.Goals as goal

pub loop-hit-init : goal.loop-hit-init
loop-hit-init g c = record { ascent = c.new-ascent.ensures; last = last_at_first g.met.P.Ord.total c.new-ascent.result.last c.new-ascent.result.below c.as_slice-hit-items.result.now c.new-ascent.ensures }

pub add-requires-clause-ascends : goal.add-requires-clause-ascends
add-requires-clause-ascends g c =
    let R = g.P.Ord.cmp in
    goes_on_sorted g.met.P.Ord.total (λ a b. ordering_then (R a.point b.point) (bool_cmp a.is_hit b.is_hit)) (λ a b. bool_cmp a.is_hit b.is_hit) (λ a b. refl) c.as_slice-hit-items.result.now
    (subst (λ (xs : List (Hit g.row.P.Denot)). IsSorted (λ a b. ordering_then (R a.point b.point) (bool_cmp a.is_hit b.is_hit)) xs) (sym c.as_slice-hit-items.ensures.value) c.sort_unstable.ensures.sorted)
    c.loop-hit.ascent.last c.loop-hit.hit-index c.hit-item.result c.loop-hit-test.true c.hit-item.is c.loop-hit.invariant.last

pub add-requires-clause-fits : goal.add-requires-clause-fits
add-requires-clause-fits g c = (_, c.loop-hit.invariant.ascent, omega (arith, length-take-le c.loop-hit.hit-index c.as_slice-hit-items.result.now c.loop-hit.auto.hit-index-end, c.loop-hit.auto.hit-index-end, c.as_slice-hit-items.type_inv.0))

pub loop-hit-preserved : goal.loop-hit-preserved
loop-hit-preserved g c =
    let hits = c.as_slice-hit-items.result.now in
    let k = c.loop-hit.hit-index in
    let next = c.hit-item.result in
    record {
      ascent = subst (λ (xs : List (Hit g.row.P.Denot)). IsAscent g.P.Ord.cmp c.add.new.self xs)
          (ap (λ h. take k hits ++ h ∷ []) c.hit-item.is ∙ sym (take_more hits k next c.loop-hit-test.true)) (c.add.ensures.ascent (take k hits) c.loop-hit.invariant.ascent);
      last = last_of g.met.P.Ord.total _ next hits k c.add.ensures.last c.loop-hit-test.true c.hit-item.is;
    }

pub tally-requires : goal.tally-requires
tally-requires g c = (_, c.loop-hit.invariant.ascent, omega (arith, length-take-le c.loop-hit.hit-index c.as_slice-hit-items.result.now c.loop-hit.auto.hit-index-end, c.loop-hit.auto.hit-index-end, c.as_slice-hit-items.type_inv.0))

pub returns : goal.returns
returns g c =
    let hits = c.as_slice-hit-items.result.now in
    let k = c.loop-hit.hit-index in
    let end : length hits ≤ k = omega arith in
    tally_moved g.met.P.Ord.total c.tally.result c.args.hits.items _ c.sort_unstable.ensures.permutation
    (subst (λ (xs : List (Hit g.row.P.Denot)). IsTally g.P.Ord.cmp c.tally.result xs) (take_all k hits end ∙ c.as_slice-hit-items.ensures.value) (c.tally.ensures (take k hits) c.loop-hit.invariant.ascent))
