use Rattle.std.proofs.Common.{◌<◌, length, arith, ap, refl, take}
use Rattle.covsession.specs.Streams.{InputData}
use Rattle.covsession.proofs.SessionBytes.{part_line, part_whole}
use Rattle.covsession.proofs.session.input.SessionInput.take_part.Goals as goal

pub returns-then-count-pending-clause-taken : goal.returns-then-count-pending-clause-taken
returns-then-count-pending-clause-taken g c =
    let few : c.feed_at-count.result < length c.args.self.now.pending = omega (arith, ap length c.pending-pending.ensures) in (
      take c.feed_at-count.result c.pending-pending.result.now,
      part_line _ _ _ _ c.pending-pending.ensures refl c.feed_at-count.ensures.front,
      part_whole _ _ _ _ _ c.pending-pending.ensures refl (c.feed_at-count.ensures.feed few) (ap (λ (i : InputData). i.pending) c.take.ensures),
      λ before now h. c.in_ok-add.ensures.collected before now h,
    )
