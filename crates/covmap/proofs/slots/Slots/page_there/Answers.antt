use Rattle.std.proofs.Common.{subst}
use Rattle.covmap.specs.Slots.{AreSlots}
use Rattle.covmap.proofs.SlotSearch.{page_ascending}
use Rattle.covmap.proofs.slots.Slots.page_there.Goals as goal

pub returns-clause-ascending : goal.returns-clause-ascending
returns-clause-ascending g c = page_ascending g.K.Key.cmp c.args.self.now c.args.number (subst (AreSlots g.K.Key.cmp) c.self.view_is c.self.invariant).ascending
