use Rattle.std.proofs.Common.{◌+◌, arith}
use Rattle.covmap.proofs.SlotWrites.{page_le}
use Rattle.covmap.proofs.SlotAfter.{after_past, after_within, number_within}
use Rattle.covmap.proofs.slots.Slots.following.Goals as goal

pub overflow_add-index : goal.overflow_add-index
overflow_add-index g c =
    omega (arith, c.requires, page_le c.args.self.now c.args.place.page c.len_of-len.ensures.whole.pages_fit)

pub overflow_add-result : goal.overflow_add-result
overflow_add-result g c =
    omega (arith, number_within c.args.self.now c.args.place.page (omega (arith, c.requires)), c.len_of-len.ensures.fits)

pub returns-then-index-len-clause-next : goal.returns-then-index-len-clause-next
returns-then-index-len-clause-next g c = after_within c.args.self.now c.args.place.page c.args.place.index (c.args.place.index + 1) (omega arith) (omega (arith, c.len_of-len.ensures.long, c.if-index-len.true))

pub returns-clause-next : goal.returns-clause-next
returns-clause-next g c = after_past c.args.self.now c.args.place.page c.args.place.index (c.args.place.page + 1) (omega arith) (omega (arith, c.len_of-len.ensures.long, c.if-index-len.false))
