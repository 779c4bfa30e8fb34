use Rattle.std.proofs.Common.{◌≤◌, List, [], false, length, map, take, refl, ap, sym, subst, ◌∙◌, arith}
use Rattle.std.proofs.lemmas.List.{take_all, take_more, map_push}
use Rattle.covread.specs.declared.trace.section.PendingCount.{PendingCount}
use Rattle.covread.specs.TraceFunctions.{AreFunctions}
use Rattle.covread.specs.TraceSection.{Mark, mark}
use Rattle.covread.specs.TraceSettle.{IsSettled, names_in}
use Rattle.covread.proofs.TraceSection.{place_at}
use Rattle.covread.proofs.trace.settle.settle_counts.Goals as goal

pub loop-count-init : goal.loop-count-init
loop-count-init g c = record {
  settled = λ starts h. record { hit = refl; unstarted = c.new.ensures.items; items = refl };
  marked = λ starts h. h;
  long = refl;
  sects = refl;
  few = omega arith;
}

pub take-requires-clause-place : goal.take-requires-clause-place
take-requires-clause-place g c =
    let h = place_at (length c.args.sects.now.items) c.args.waiting.now c.loop-count.count-index (record { at = 0; name = record { ref_ptr = (0, 0); now = [] }; is_hit = false }) c.requires c.loop-count-test.true in
    omega (arith, h, c.loop-count.invariant.long)

pub loop-count-preserved : goal.loop-count-preserved
loop-count-preserved g c =
    let ms = map mark (take c.loop-count.count-index c.args.waiting.now) in
    let next = ap (map mark) (take_more c.args.waiting.now c.loop-count.count-index _ c.loop-count-test.true) ∙ map_push mark (take c.loop-count.count-index c.args.waiting.now) _ in
    let h = c.loop-count.invariant in
    record {
      settled = λ starts k. subst (λ (x : List Mark). IsSettled starts x c.take.new.self.hit c.take.new.self.unstarted.items c.args.sects.now.items c.take.new.sects.items) (sym next) (c.in_ok-take.ensures.settled starts ms c.args.sects.now.items (h.marked starts k) (h.settled starts k));
      marked = λ starts k. subst (λ (x : List Mark). AreFunctions c.take.new.functions starts (names_in starts x)) (sym next) (c.in_ok-take.ensures.functions starts ms (h.marked starts k));
      long = c.in_ok-take.ensures.length ∙ h.long;
      sects = c.take.ensures.sects ∙ h.sects;
      few = omega (arith, h.few, c.in_ok-take.ensures.few);
    }

pub returns-clause-counts : goal.returns-clause-counts
returns-clause-counts g c = λ starts k.
    let end : length c.args.waiting.now ≤ c.loop-count.count-index = omega arith in
    subst (λ (ws : List PendingCount). IsSettled starts (map mark ws) c.loop-count.counts.hit c.loop-count.counts.unstarted.items c.args.sects.now.items c.loop-count.sects.items) (take_all c.loop-count.count-index c.args.waiting.now end) (c.loop-count.invariant.settled starts k)

pub returns-clause-functions : goal.returns-clause-functions
returns-clause-functions g c = λ starts k.
    let end : length c.args.waiting.now ≤ c.loop-count.count-index = omega arith in
    subst (λ (ws : List PendingCount). AreFunctions c.loop-count.functions starts (names_in starts (map mark ws))) (take_all c.loop-count.count-index c.args.waiting.now end) (c.loop-count.invariant.marked starts k)
