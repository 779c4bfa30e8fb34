use Rattle.std.proofs.Common.{◌≤◌, length, arith}
use Rattle.covmap.proofs.SlotWrites.{all_past}
use Rattle.covmap.proofs.slots.growth.put_slot.Goals as goal

pub put_after-requires-clause-last : goal.put_after-requires-clause-last
put_after-requires-clause-last g c =
    let past : length c.args.slots.now ≤ c.args.place.page = omega (arith, c.count.ensures, c.if-place-count.false) in
    all_past (λ other. g.K.Key.cmp other c.args.key) c.args.slots.now c.args.place.page c.args.place.index past c.requires.gap.front
